-- What one JSON string is, what reading one tells, and what its bytes stand for.
pub mod String
pub mod Machine
pub mod Reading
pub mod Decoded
pub mod Laws
pub mod Meaning
pub mod Encoded
pub mod Left
