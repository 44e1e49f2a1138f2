-- Lemmas on cutting a text and on numbers.
pub mod Numbers
pub mod Cuts
pub mod Middle
pub mod Clamp
