-- What the contracts of this crate cite.
pub mod Plain
pub mod Component
pub mod Manifest
pub mod Standing
pub mod Walking
pub mod Laws
pub mod Ranges
pub mod Examples
