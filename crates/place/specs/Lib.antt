-- Where a letter that remains stands among the letters as they are lent (02, R-11).
pub mod Place
