pub mod Words
pub mod Numerals
pub mod Cuts
pub mod Centres
