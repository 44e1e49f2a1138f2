-- Lemmas on parts of libraries.
pub mod Looking
pub mod Naming
