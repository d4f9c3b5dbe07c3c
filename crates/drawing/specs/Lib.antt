-- A drawn board: which texts draw one, what they draw, and what is proved of it.
pub mod Drawn
pub mod Redrawn
pub mod Texts
pub mod Theorems
pub mod Sample
