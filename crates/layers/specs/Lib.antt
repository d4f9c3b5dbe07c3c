-- What each layer lists, and what that does to the models.
pub mod Joined
pub mod Fixed
pub mod Blocked
