pub mod Output
pub mod Value
pub mod ValueOf
