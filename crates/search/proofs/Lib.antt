-- How a trail lies in memory and what noting does to it, the laws over every search, and parts of a search one after another.
pub mod TrailNoting
pub mod TrailMemory
pub mod ManifestPaths
pub mod SearchNeeds
pub mod SearchFits
pub mod SearchReplies
pub mod SearchAdditions
pub mod CourseParts
pub mod CourseWalks
pub mod CourseEnds
pub mod Carried
pub mod CourseLeads
