pub mod Numbers
pub mod Texts
pub mod Unions
pub mod Views
pub mod Walks
