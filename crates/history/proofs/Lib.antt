pub mod Trail
pub mod Wait
pub mod Apart
pub mod Remember
pub mod Cycles
pub mod Theorem
