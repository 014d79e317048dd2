-- JSON texts: their grammar, the machine that tells where no text goes on, what reading tells, and where values stand.
pub mod Json
pub mod Machine
pub mod Fold
pub mod Value
pub mod Reading
pub mod Standing
pub mod Brackets
pub mod Cursors
pub mod Laws
pub mod Kinds
