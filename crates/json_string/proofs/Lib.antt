-- The laws of a JSON string.
pub mod Running
pub mod Digits
pub mod Complete
pub mod Sound
pub mod Beginnings
pub mod Stopping
pub mod Decoding
pub mod Lengths
pub mod Codes
pub mod Comparing
pub mod Filling
