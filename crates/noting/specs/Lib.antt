-- What is noted of pokes.
pub mod Kept
