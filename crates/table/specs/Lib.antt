-- What the contracts of a table cite: what it means, when it is sound, what a change takes or gives back, what the parts
-- of a change come to; and the law of every store.
pub mod Table
pub mod Sound
pub mod Space
pub mod Parts
pub mod Law
