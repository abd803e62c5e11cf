pub mod InspectLemmas
pub mod ReportLemmas
pub mod TextLemmas
