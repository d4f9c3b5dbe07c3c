-- Records by key, and what a register holds and answers.
pub mod Keys
pub mod Held
