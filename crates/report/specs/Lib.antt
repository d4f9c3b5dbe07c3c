-- The report on a puzzle file, and what it means.
pub mod Reported
pub mod Texts
pub mod Theorems
