-- The words of a puzzle, and those of a file's bytes.
pub mod Cells
pub mod Kinds
pub mod Layouts
pub mod Bytes
pub mod Laws
