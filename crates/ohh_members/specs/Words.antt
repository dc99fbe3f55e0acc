-- The words for what a player did.
use Rattle.std.specs.Prelude.{ℕ, Bool, true, false, bytes_eq, if◌then◌else◌, List, codes, Option, Some, None}
use Rattle.ohh_members.specs.declared.words.Word.{Word}
use Rattle.ohh_members.specs.declared.words.Word.TheVariants as words

-- how the words are written
abbrev pub word_text : Word → List ℕ
word_text words.PostAnte = codes "Post Ante"
word_text words.PostSmallBlind = codes "Post SB"
word_text words.PostBigBlind = codes "Post BB"
word_text words.Straddle = codes "Straddle"
word_text words.DealtCards = codes "Dealt Cards"
word_text words.Fold = codes "Fold"
word_text words.Check = codes "Check"
word_text words.Call = codes "Call"
word_text words.Bet = codes "Bet"
word_text words.Raise = codes "Raise"
word_text words.ShowsCards = codes "Shows Cards"
word_text words.MucksCards = codes "Mucks Cards"
word_text words.SitsDown = codes "Sits Down"
word_text words.StandsUp = codes "Stands Up"

-- the word that a text is, if it is one
unfoldable pub word_named : List ℕ → Option Word
word_named text =
    if bytes_eq text (codes "Post Ante") then Some words.PostAnte
    else if bytes_eq text (codes "Post SB") then Some words.PostSmallBlind
    else if bytes_eq text (codes "Post BB") then Some words.PostBigBlind
    else if bytes_eq text (codes "Straddle") then Some words.Straddle
    else if bytes_eq text (codes "Dealt Cards") then Some words.DealtCards
    else if bytes_eq text (codes "Fold") then Some words.Fold
    else if bytes_eq text (codes "Check") then Some words.Check
    else if bytes_eq text (codes "Call") then Some words.Call
    else if bytes_eq text (codes "Bet") then Some words.Bet
    else if bytes_eq text (codes "Raise") then Some words.Raise
    else if bytes_eq text (codes "Shows Cards") then Some words.ShowsCards
    else if bytes_eq text (codes "Mucks Cards") then Some words.MucksCards
    else if bytes_eq text (codes "Sits Down") then Some words.SitsDown
    else if bytes_eq text (codes "Stands Up") then Some words.StandsUp
    else None

-- the word deals hole cards
abbrev pub is_deal : Word → Bool
is_deal words.PostAnte = false
is_deal words.PostSmallBlind = false
is_deal words.PostBigBlind = false
is_deal words.Straddle = false
is_deal words.DealtCards = true
is_deal words.Fold = false
is_deal words.Check = false
is_deal words.Call = false
is_deal words.Bet = false
is_deal words.Raise = false
is_deal words.ShowsCards = false
is_deal words.MucksCards = false
is_deal words.SitsDown = false
is_deal words.StandsUp = false
