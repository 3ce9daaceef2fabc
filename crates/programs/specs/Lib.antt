pub mod Bytes
pub mod Lines
pub mod Reading
pub mod Records
