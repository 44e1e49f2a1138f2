-- Rows of words that stand for parts of libraries.
pub mod Rows
pub mod Writes
