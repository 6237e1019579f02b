pub mod ChildRows
pub mod Columns
pub mod Fixed
pub mod Nodes
pub mod RunEnds
pub mod RunSteps
pub mod Texts
pub mod Views
