-- What the tables of what is loaded stand for.
pub mod Columns
pub mod Loaded
pub mod Rows
pub mod Tables
pub mod Views
