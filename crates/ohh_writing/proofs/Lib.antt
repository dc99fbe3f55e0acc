pub mod Behind
pub mod Clean
pub mod Counts
pub mod Lefts
pub mod Plain
pub mod Sorted
