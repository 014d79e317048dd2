-- Lemmas on texts that are given byte by byte.
pub mod Coming
pub mod Appending
pub mod Ends
