pub mod Words
pub mod Asking
pub mod Storing
pub mod Serving
pub mod Exchanged
