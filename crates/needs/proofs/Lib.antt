-- Lemmas on closures by number.
pub mod Reaching
pub mod ByNumber
pub mod Rows
pub mod Walking
