pub mod Output
pub mod Cases
pub mod Logged
