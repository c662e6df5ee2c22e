pub mod Text
pub mod Made
