-- What becomes of the tables where something is loaded.
pub mod Adding
