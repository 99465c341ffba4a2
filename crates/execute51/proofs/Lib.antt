pub mod Computed
pub mod Shows
