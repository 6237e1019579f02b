pub mod Typed
pub mod Walk
pub mod Theorems
