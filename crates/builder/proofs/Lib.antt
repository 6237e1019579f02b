pub mod Children
pub mod Fields
pub mod FromRows
pub mod Fronts
pub mod Planning
pub mod Sizes
pub mod Tables
