-- What is looked through for a symbol.
pub mod Looks
