pub mod Board
pub mod PortPins
pub mod Passing
pub mod Script
pub mod Loopback
pub mod Played
