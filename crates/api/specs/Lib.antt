pub mod Bounds
pub mod Demand2
pub mod Demand3
pub mod Difference
pub mod Digits
pub mod MapNames
