pub mod DeliveryLemmas
pub mod DisasmLemmas
pub mod EndLemmas
pub mod PlanLemmas
pub mod PromiseLemmas
pub mod ReplayLemmas
pub mod ReportLemmas
pub mod RewriteLemmas
