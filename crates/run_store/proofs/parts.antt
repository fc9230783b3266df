pub mod Things
pub mod Made
