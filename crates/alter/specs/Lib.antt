pub mod Patch
pub mod Alter
pub mod Inner
