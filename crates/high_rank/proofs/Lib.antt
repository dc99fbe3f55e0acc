pub mod Ladders
pub mod UpHighLaw
