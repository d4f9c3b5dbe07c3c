-- The registers that a puzzle's words fill, how a list is read, what a taken list is, and what it means.
pub mod Registers
pub mod Reading
pub mod Steps
pub mod Filled
pub mod Accepted
pub mod Refused
pub mod Meaning
pub mod Poses
pub mod Theorems
pub mod Sample
