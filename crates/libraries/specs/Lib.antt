-- Parts of the libraries, one by one.
pub mod Looks
