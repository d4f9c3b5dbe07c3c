-- What the proofs of the paged store share.
pub mod Keeps
pub mod Copies
