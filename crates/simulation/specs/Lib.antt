-- The meaning, by places, and the processor, by addresses: how states of both belong together, and what keeps them so.
pub mod Layout
pub mod Rows
pub mod Images
pub mod Relation
pub mod Addresses
pub mod Turns
pub mod Says
pub mod Loader
pub mod Handlers
pub mod Outcomes
