pub mod Parts
pub mod Number
pub mod Fault
pub mod Hex
pub mod Forms
pub mod Command
