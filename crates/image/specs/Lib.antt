-- The image of a library: its words at an address.
pub mod Encode
pub mod Words
