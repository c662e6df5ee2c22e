pub mod Bits
pub mod Hand
pub mod Pass
pub mod Image
pub mod Share
