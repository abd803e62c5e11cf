pub mod Buffer
pub mod ReadBack
