-- The processor: its state, its steps, what is told and shown, its instructions by kind.
pub mod Cpu
pub mod Operations
pub mod Laid
pub mod Laws
