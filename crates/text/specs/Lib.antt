-- Lines, words and numbers of a byte text.
pub mod Words
pub mod Readers
