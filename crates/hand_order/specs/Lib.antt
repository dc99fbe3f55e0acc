-- What every order of hands satisfies, the choices of a holding, and the heights, straights and
-- classes that points are made of.
pub mod Best
pub mod Choices
pub mod Digits
pub mod Height
pub mod Heights
pub mod Ladder
pub mod Lowest
pub mod Order
pub mod Patterns
pub mod Points
pub mod StraightRanks
pub mod Straights
pub mod SuitBest
pub mod Tables
pub mod Tops
