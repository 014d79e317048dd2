-- What the contracts of stores cite.
pub mod Tree
pub mod Store
