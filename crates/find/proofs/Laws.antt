pub mod Book
pub mod Calls
pub mod Blocks
pub mod Parts
