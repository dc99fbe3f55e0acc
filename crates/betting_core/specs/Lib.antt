-- What the betting of a hand keeps from call to call.
pub mod HandNumbers
pub mod Seen
