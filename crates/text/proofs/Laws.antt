pub mod Made
pub mod Decimal
pub mod Each
