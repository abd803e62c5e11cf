-- What `inspect` rests on: codes, the trusted part, what is safe, and images.
pub mod Code
pub mod Occurrence
pub mod Trust
pub mod Check
pub mod Gate
pub mod Safe
pub mod Unsafe
pub mod Image
