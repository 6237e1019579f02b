pub mod Accepted
pub mod Alike
pub mod Shape
pub mod Demand3
pub mod Rounding
