mod Digits
mod Fits
mod Words
mod Nodes
