-- Lemmas on tables, queues and indexes in lent words.
pub mod Newest
mod Queues
pub mod Rows
pub mod Marks
