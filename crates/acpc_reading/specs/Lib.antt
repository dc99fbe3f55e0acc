-- What a log says: betting, cards, values and names of each line, and its hands.
pub mod Betting
pub mod Cards
pub mod Scripts
pub mod Values
pub mod Names
pub mod Logs
pub mod Begins
pub mod Views
pub mod RecordView
pub mod Left
pub mod FieldsView
