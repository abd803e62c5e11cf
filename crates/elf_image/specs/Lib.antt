pub mod Domains
pub mod Form
pub mod Functions
pub mod Notes
pub mod Records
pub mod Table
