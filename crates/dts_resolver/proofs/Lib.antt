-- Lemmas on masks, specifiers, endings, checks, the steps and the answer of a lookup; each file is named after what it serves.
pub mod MaskBits
pub mod SpecifierParts
pub mod Utf8Test
pub mod CheckOrder
pub mod EndingRows
pub mod FileStepRows
pub mod RelativeSearch
pub mod LookupTrials
pub mod LookupLaws
pub mod LookupPart
pub mod LookupAnswer
