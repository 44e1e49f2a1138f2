-- Lemmas on layouts, on each instruction, on loads, and on what the loader does.
pub mod Plain
pub mod Sums
pub mod Under
pub mod Memory
pub mod Turn
pub mod Addresses
pub mod Wider
pub mod Grown
pub mod Found
pub mod Images
pub mod Loading
pub mod Bind
pub mod Rests
pub mod Heard
pub mod Begin
pub mod Answers
