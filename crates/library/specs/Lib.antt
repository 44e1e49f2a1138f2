-- What a library is, and the text that libraries are written in.
pub mod Library
pub mod Views
pub mod Keywords
pub mod Lines
pub mod Text
pub mod Fine
pub mod Distinct
