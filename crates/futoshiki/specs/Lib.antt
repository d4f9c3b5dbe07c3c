-- The Futoshiki board, the rules that a board keeps, and its listing of clauses.
pub mod Board
pub mod Rules
pub mod Listing
pub mod Starts
pub mod Drafts
pub mod Meaning
pub mod Pairs
