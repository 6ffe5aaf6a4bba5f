-- Which transitions of a state no other dominates, and how they are sifted in memory.
pub mod Domination
pub mod Memory
