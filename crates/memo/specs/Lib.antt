-- What the contracts of a layer cite.
pub mod Memo
