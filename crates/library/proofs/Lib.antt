-- Lemmas on libraries and their text.
pub mod Labels
pub mod Operands
pub mod Reading
pub mod Distinct
