-- The orders of hands by game, what a variant and a table guarantee, and who gets what of each pot.
pub mod Orders
pub mod Variants
pub mod TableLaws
pub mod Tables
pub mod Division
pub mod Shares
