pub mod Sizes
pub mod Agreeing
