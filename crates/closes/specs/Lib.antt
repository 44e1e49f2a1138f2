-- What stays and what goes when a group is closed.
pub mod Staying
pub mod Leaving
