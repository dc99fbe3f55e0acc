-- Hands and choices of badugi, their points, and the law of the order.
pub mod Badugi
pub mod BadugiLaw
pub mod Rainbow
