pub mod Field
pub mod Pair
pub mod Lines
pub mod Texts
