pub mod Totals
pub mod Places
pub mod Scans
pub mod Leaves
pub mod Values
pub mod Rows
pub mod Loops
pub mod Whole
