pub mod Fault
pub mod Exported
pub mod Show
