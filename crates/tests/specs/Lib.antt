-- What the contract of an observer of the tests cites.
pub mod Tape
