pub mod Left
pub mod Lines
pub mod Shown
pub mod Words
