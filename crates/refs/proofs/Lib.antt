-- Lemmas on the first cell that lacks something.
pub mod Missing
