pub mod Hex
pub mod Number
pub mod Parts
pub mod Forms
pub mod Command
pub mod NoFault
