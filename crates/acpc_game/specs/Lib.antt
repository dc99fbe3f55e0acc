-- How logs and game files are cut into lines, parts and letters, and which faults they have.
pub mod Faults
pub mod FaultText
pub mod Parts
pub mod Letters
-- Game files: keys, line forms, and the game that a file says.
pub mod Keys
pub mod Forms
pub mod GameEntries
pub mod GameFile
pub mod Entries
pub mod Games
pub mod GameView
pub mod Playable
pub mod GameText
pub mod SaidGames
