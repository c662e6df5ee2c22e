pub mod Boards
pub mod Sheet
