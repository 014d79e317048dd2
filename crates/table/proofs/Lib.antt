-- Lemmas on tables and their entries.
pub mod TableTree
pub mod TableOrder
pub mod TableSpace
pub mod TableGrowth
pub mod TableShrinking
pub mod TableChildren
