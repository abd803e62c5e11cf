pub mod Bits
pub mod Inspection
pub mod Encoding
pub mod Machine
pub mod Output
pub mod Rewriting
