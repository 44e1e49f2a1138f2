-- Lemmas on what is loaded and bound.
pub mod Closure
pub mod Cost
pub mod Keys
pub mod Loading
pub mod Retained
pub mod Linked
pub mod Leaving
pub mod Among
pub mod Reach
pub mod Order
pub mod Resolved
pub mod Lives
pub mod Opens
pub mod Refused
pub mod Numbers
pub mod Whole
pub mod Cases
