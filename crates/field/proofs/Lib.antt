pub mod Capped
pub mod Bytes
pub mod Complete
pub mod Sound
pub mod Outcome
