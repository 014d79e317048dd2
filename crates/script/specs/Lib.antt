-- What the contracts of a script cite.
pub mod Stages
pub mod Sizes
pub mod Meaning
