-- Lemmas on the meaning, and the worked texts.
pub mod Cases
pub mod Changes
pub mod Grows
pub mod Parts
pub mod Always
pub mod Lasts
pub mod Retag
pub mod Same
