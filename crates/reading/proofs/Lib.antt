-- Lemmas on reading a whole text.
pub mod Linewise
pub mod Going
