-- What is loaded and bound: definitions.
pub mod Closure
pub mod Symbols
pub mod Links
pub mod Scope
pub mod Load
pub mod Close
pub mod Laws
pub mod Reach
pub mod Resolved
pub mod Opens
pub mod Refused
pub mod Whole
pub mod Worked
