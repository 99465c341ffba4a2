pub mod Faults
pub mod State
pub mod Registers
pub mod Places
pub mod Stack
pub mod Operands
