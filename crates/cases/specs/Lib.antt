pub mod Build
pub mod Calls
pub mod Cases
pub mod Kept
pub mod ReadBack
