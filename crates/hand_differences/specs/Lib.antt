-- When parts of two hands are the same, which difference comes first, and how it is printed.
pub mod BothAllowed
pub mod SameParts
pub mod FirstNumbers
pub mod FirstDifference
pub mod DifferenceText
