pub mod Shape
pub mod Pattern
pub mod Product
