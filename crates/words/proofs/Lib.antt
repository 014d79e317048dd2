-- Lemmas of `words`.
pub mod Words
mod Back
