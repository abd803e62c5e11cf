pub mod Boundary
pub mod Executes
pub mod Execution
pub mod Fits
pub mod Looked
pub mod Reach
