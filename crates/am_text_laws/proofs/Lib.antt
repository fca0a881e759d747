pub mod Printed
pub mod Reread
pub mod Sets
pub mod Words
