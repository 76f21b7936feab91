pub mod Words
pub mod Normal
pub mod Drawn
pub mod Classes
pub mod Rows
pub mod Runs
pub mod Turns
pub mod Ported
