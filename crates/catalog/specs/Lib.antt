-- Reading a whole text.
pub mod Steps
pub mod Looks
