-- The fillings of a Futoshiki, and that its listing's models are exactly these.
pub mod Fillings
pub mod Theorems
