-- What the contracts of this crate cite.
pub mod Path
pub mod Report
