mod LayoutLemmas
pub mod MeasureLemmas
