-- Lemmas on the tables of a text.
pub mod Pushes
pub mod Laws
pub mod Drafting
pub mod Looking
pub mod Walks
