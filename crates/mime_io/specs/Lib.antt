-- the trusted files
pub mod Lines
pub mod Stops
