-- Lemmas on the tables of what is loaded.
mod Bound
mod Closed
mod Found
mod Live
pub mod Numbered
