pub mod Adjacent
pub mod Lists
pub mod Places
pub mod Kept
pub mod Stepping
pub mod Growing
pub mod Pairs
