-- What rewriting rests on: instructions as they stand, regions, copies, their layout, the new file,
-- and what its addresses stand for.
pub mod Standing
pub mod Sites
pub mod Copies
pub mod Layout
pub mod NewFile
pub mod Rewriting
pub mod Home
