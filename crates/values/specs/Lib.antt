pub mod Bits
pub mod Pair
pub mod Pairs
pub mod Parts
