-- Lemmas on lines of files.
mod Places
mod Joined
