-- The seat in turn that is kept, and what a seat may do.
mod KeptTurn
pub mod ToCall
