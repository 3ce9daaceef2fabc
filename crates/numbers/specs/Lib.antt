pub mod Complex
pub mod Places
pub mod Lists
pub mod Terms
pub mod Collect
pub mod Transpose
pub mod Turning
