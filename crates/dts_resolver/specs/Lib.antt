-- What the contracts of the lookup cite. What a lookup means comes first; how the code has it comes last.
pub mod Extensions
pub mod Specifier
pub mod Endings
pub mod Given
pub mod Checks
pub mod Trials
pub mod Steps
pub mod Laws
pub mod Rows
pub mod Answer
