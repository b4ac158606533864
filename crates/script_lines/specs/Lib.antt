pub mod Answering
pub mod Names
pub mod Redirections
pub mod Scripts
pub mod Texts
pub mod Words
pub mod Written
