-- What the tables of a text stand for, and what their operations do.
pub mod Store
pub mod Steps
