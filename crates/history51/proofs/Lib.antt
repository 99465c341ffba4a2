pub mod Samples
pub mod Polls
pub mod Labels
pub mod Changes
pub mod Promised
pub mod Agrees
pub mod Runs
pub mod Lives
mod Timeline
