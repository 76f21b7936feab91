pub mod Count
pub mod Known
pub mod Runs
pub mod Status
pub mod Normal
