pub mod Shifts
pub mod Patterns
pub mod Products
pub mod Zeros
pub mod Order
