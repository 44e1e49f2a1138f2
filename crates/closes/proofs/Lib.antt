-- Lemmas on what stays and what goes.
pub mod Gathering
pub mod Going
pub mod Gone
pub mod Growing
pub mod Rows
