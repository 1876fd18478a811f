pub mod Closure
pub mod Futures
pub mod Scripts
