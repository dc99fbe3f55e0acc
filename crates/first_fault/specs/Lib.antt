-- Reading in a fixed order, the forms of values, and the numbers that digits say.
pub mod Reading
pub mod Forms
pub mod Digits
pub mod Numbers
pub mod Words
pub mod Conditions
pub mod Quantities
