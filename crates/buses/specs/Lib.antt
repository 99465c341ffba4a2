pub mod Memory
pub mod Buses
pub mod Layers
pub mod Refusals
pub mod Laws
