pub mod View
pub mod Life
pub mod Agrees
pub mod Calls
pub mod Timeline
