-- What a machine in lent words stands for.
pub mod Held
pub mod Seen
pub mod Took
