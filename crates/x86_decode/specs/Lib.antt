pub mod Gives
pub mod PartPlaces
pub mod Stands
