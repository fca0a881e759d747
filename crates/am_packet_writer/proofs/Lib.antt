pub mod Nobody
pub mod Pieces
