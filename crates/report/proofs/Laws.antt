pub mod Lines
pub mod Book
pub mod Tail
