-- What the profile's rules have, when their alarm is raised, and what the call translate needs.
pub mod Checking
pub mod Runs
pub mod Alarm
pub mod AlarmIffBroken
