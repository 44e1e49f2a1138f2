-- What a program of libraries does, by places.
pub mod State
pub mod Calls
pub mod Values
pub mod Steps
pub mod Runs
pub mod Shown
pub mod Always
pub mod Texts
pub mod Worked
