pub mod Appended
pub mod Fixing
pub mod Joining
pub mod Blocking
