-- What a line says, by the types of the code.
pub mod Items
