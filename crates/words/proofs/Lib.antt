pub mod Layouting
pub mod Byting
pub mod ByKind
