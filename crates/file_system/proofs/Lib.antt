-- Lemmas on the checks of a change.
pub mod StoreChecks
