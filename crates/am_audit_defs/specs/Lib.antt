pub mod Agreement
pub mod Fields
pub mod Lines
pub mod Meanings
pub mod Verdicts
