-- Lemmas on rows.
pub mod Back
