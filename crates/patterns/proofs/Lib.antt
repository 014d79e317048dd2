-- The laws of patterns, targets, entries and names.
pub mod Patterns
pub mod MatchOf
pub mod Undotted
pub mod NameParts
