-- What a clause store holds, and what its calls answer and leave; then the lemmas that lead to the laws of the flat store.
pub mod Tables
pub mod Laws
pub mod Rows
pub mod Places
pub mod Canon
pub mod Stands
pub mod Copies
