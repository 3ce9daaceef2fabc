pub mod Codes
pub mod Each
pub mod Fits
pub mod Long
pub mod Walk
