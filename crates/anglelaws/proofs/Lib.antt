pub mod Signs
pub mod Words
pub mod Roots
pub mod Classes
pub mod AnnexF
pub mod Asked
pub mod Narrowed
