pub mod World
pub mod Action
pub mod Step
pub mod Stop
pub mod Reset
pub mod Run
