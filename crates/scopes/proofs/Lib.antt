-- Lemmas on what is looked through.
pub mod Looking
