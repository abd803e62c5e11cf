pub mod ReplayLemmas
pub mod RunningLemmas
pub mod SliceLemmas
pub mod WorkerLemmas
