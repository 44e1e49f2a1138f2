-- Lemmas on what becomes of the tables where something is loaded.
pub mod Added
