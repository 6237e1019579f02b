pub mod Keys
pub mod Unions
