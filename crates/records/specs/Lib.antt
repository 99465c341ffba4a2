pub mod Refusal
pub mod Port
pub mod Bytes
pub mod Pin
pub mod PortWrite
pub mod Trace
pub mod Order
