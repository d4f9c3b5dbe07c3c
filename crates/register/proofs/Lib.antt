pub mod Blanks
pub mod Once
