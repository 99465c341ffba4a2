pub mod File
pub mod Text
