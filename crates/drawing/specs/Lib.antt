pub mod Form
pub mod Image
pub mod Calls
pub mod Inner
pub mod Statements
pub mod Made
