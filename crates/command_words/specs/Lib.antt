pub mod Clap
pub mod Commands
