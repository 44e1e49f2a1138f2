-- What belongs together, by numbers of libraries.
pub mod Numbered
pub mod Refusals
pub mod Standing
pub mod Visits
pub mod Walks
