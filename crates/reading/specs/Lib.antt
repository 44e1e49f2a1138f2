-- Reading a whole text into tables.
pub mod Steps
