pub mod Answers
pub mod Blocks
pub mod HeapInvariant
pub mod HeapValue
