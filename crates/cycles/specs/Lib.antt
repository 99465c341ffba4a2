pub mod Timers
pub mod Flags
pub mod Sample
pub mod Poll
pub mod State
pub mod Vector
pub mod Cycle
pub mod Laws
