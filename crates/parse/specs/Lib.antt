pub mod Answer
pub mod Scan
pub mod Scanned
