pub mod CardLaws
pub mod PartsAgain
pub mod SaidAgain
pub mod WordsAgain
