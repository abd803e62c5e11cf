pub mod Machine
pub mod ImagePages
pub mod Ends
pub mod ProcessValue
pub mod ProcessInvariant
