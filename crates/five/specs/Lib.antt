pub mod Table
pub mod Partial
pub mod Driven
pub mod Five
pub mod Inner
