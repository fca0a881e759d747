pub mod Limits
pub mod NodeLimits
pub mod LetterLimits
pub mod RunLimits
