-- What the paged store holds, and what it means; then the lemmas that lead to its laws.
pub mod Sizes
pub mod Chained
pub mod Meant
pub mod Places
pub mod Numbers
pub mod Chains
pub mod Owners
pub mod Fills
