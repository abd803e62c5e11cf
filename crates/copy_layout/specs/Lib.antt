pub mod Faults
pub mod Fronts
pub mod Patches
pub mod Trials
