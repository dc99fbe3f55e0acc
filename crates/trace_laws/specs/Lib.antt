-- What the laws of whole traces say about pots, shares and stacks.
pub mod Winners
pub mod Conserved
