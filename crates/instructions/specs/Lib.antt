pub mod Decode
pub mod Operands
pub mod Tables
pub mod Sizes
pub mod Laws
