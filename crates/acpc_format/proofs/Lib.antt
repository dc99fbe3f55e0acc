-- Laws of what is written, and of what is read again.

-- Laws of what is written.
pub mod SeatTexts
pub mod Totals
pub mod Making
pub mod Posting
pub mod Letters
pub mod Pieces
pub mod Lines
pub mod GameFiles
-- Laws of what is read again.
pub mod Readable
pub mod Splits
pub mod Signs
pub mod NumbersAgain
pub mod NamesAgain
pub mod Steps
pub mod BettingAgain
pub mod CardsAgain
pub mod EventsAgain
pub mod LineAgain
pub mod LogAgain
pub mod Holdem
pub mod SpelledFacts
pub mod SoundReads
pub mod OneSetup
pub mod WithoutShows
pub mod RaiseTotals
pub mod LetterEvents
pub mod LetterScript
pub mod SuitsGame
pub mod HiddenMucks
pub mod SetupsSame
pub mod ValuesAgree
pub mod KeptAgain
pub mod HandAgain
pub mod HandsAgain
pub mod OneForm
pub mod NoteFacts
pub mod LogEvents
pub mod LogPasts
pub mod GameSetups
pub mod Sharpness
