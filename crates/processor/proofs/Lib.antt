-- Lemmas on steps, on what is shown and on words laid down.
pub mod Decoding
pub mod Encoding
pub mod Laying
pub mod Shown
pub mod Steps
