-- What a module that comes in lacks.
pub mod Unmet
