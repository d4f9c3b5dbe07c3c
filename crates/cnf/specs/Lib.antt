-- The one vocabulary of all crates: clauses and models, what a source tells, clause tables, faults, and the checks of a claim.
pub mod Formula
pub mod Words
pub mod Told
pub mod Tabled
pub mod Faults
pub mod Checks
pub mod Laws
