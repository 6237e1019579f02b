pub mod Answers
pub mod Numbers
