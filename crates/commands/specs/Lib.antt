-- What the contracts of command lines cite.
pub mod Lines
