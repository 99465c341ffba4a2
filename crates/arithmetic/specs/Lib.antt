pub mod Flags
pub mod Sums
pub mod Shifts
pub mod Bits
pub mod Addresses
pub mod Laws
