pub mod BaseLemmas
pub mod FrontLemmas
pub mod LayoutLemmas
pub mod PatchLemmas
pub mod PlacingLemmas
pub mod SightLemmas
pub mod TrialLemmas
