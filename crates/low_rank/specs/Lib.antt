-- Hands and points of the low orders, and the laws of these orders.
pub mod DeuceSeven
pub mod EightLow
pub mod Low
pub mod LowLaw
pub mod Razz
pub mod RazzBest
