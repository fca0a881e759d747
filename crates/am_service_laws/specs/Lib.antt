pub mod AssembledClaims
pub mod Claims
