pub mod Joined
pub mod Over
pub mod Repeats
pub mod Rooms
pub mod RowParts
pub mod Stretches
pub mod ValuePlaces
pub mod ValueRows
