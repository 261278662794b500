pub mod Pieces
mod Whole
