-- Lemmas on the fields of a manifest and on its version paths.
pub mod ValueKinds
pub mod Naming
pub mod Positions
pub mod Giving
pub mod Targets
pub mod Counting
pub mod Walking
pub mod Components
