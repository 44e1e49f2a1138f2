-- Lines of files that are read as one text.
pub mod Places
