-- What the strings of a manifest say of a text.
pub mod Pattern
pub mod Match
pub mod Entry
pub mod Name
pub mod Laws
