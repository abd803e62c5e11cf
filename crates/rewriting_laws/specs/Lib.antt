pub mod QuietLaws
pub mod RegionLaws
pub mod ChainLaw
pub mod PlaceLaws
