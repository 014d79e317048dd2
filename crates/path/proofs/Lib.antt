-- The laws of paths and their components.
pub mod Cutting
pub mod PieceKinds
pub mod Normality
pub mod Walking
pub mod Reporting
