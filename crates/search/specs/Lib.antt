-- What the contracts of searches cite: refusals, searches, what they need, and the laws; then how a trail lies in memory.
pub mod Refusal
pub mod Search
pub mod Needs
pub mod Laws
pub mod Memory
pub mod Asking
pub mod Course
