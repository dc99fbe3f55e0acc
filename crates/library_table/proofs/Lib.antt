-- Lemmas on what can be split, and on lists of cards.
pub mod CardLists
pub mod Splittable
