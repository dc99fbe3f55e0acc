-- Words for hands that are written out: cards, setups, the rules of a match, and events.
use Rattle.std.specs.Prelude.{ℕ, Bool, false, List, [], ◌∷◌, Option, Some, None, IsTrue, unwrap_or}
use Rattle.card_set.specs.declared.card.Card.{Card}
use Rattle.card_set.specs.declared.card.Slot.{Slot}
use Rattle.card_set.specs.Known.{known_among}
use Rattle.card_set.specs.Spelling.{slots_spelled}
use Rattle.chip_ledger.specs.RakeRow.{no_rakes}
use Rattle.play_event.specs.declared.code.Code.{Code}
use Rattle.play_event.specs.declared.event.Spelled.TheVariants as spelled
use Rattle.play_event.specs.declared.setup.Setup.{Setup}
use Rattle.play_event.specs.declared.setup.Rules.{Rules}
use Rattle.play_event.specs.declared.setup.Reopen.TheVariants as reopen
use Rattle.play_event.specs.Said.{Said, Hole, Board, Fold, Call, Raise, BringIn, Discard, Show, Muck}
use Rattle.play_event.specs.Rows.{row_of, is_row}

-- the cards of a text, known or unknown; none if a letter is wrong
abbrev pub slots_named : List ℕ → List Slot
slots_named text = unwrap_or (slots_spelled text) []

-- the known cards of a text
abbrev pub cards_named : List ℕ → List Card
cards_named text = known_among (slots_named text)

-- a hand of a game, and whether its antes are dead: bring-in, small bet, big bet and least bet;
-- stacks, antes and blinds
abbrev pub hand_of : Code → Bool → (bring_in small big least : ℕ) → (stacks antes blinds : List ℕ)
    → IsTrue (is_row stacks) → IsTrue (is_row antes) → IsTrue (is_row blinds) → Setup
hand_of code dead bring_in small big least stacks antes blinds stacks_fit antes_fit blinds_fit =
    record {
      code = code;
      stacks = row_of stacks stacks_fit;
      antes = row_of antes antes_fit;
      dead_antes = dead;
      blinds = row_of blinds blinds_fit;
      bring_in = bring_in;
      small_bet = small;
      big_bet = big;
      min_bet = least;
      rakes = no_rakes;
    }

-- the rules of a match: every raise reopens the betting, a fold with nothing to call is illegal,
-- and raises have these caps
abbrev pub match_rules : Option (List ℕ) → Rules
match_rules caps = record { reopen = reopen.Always; free_fold = false; caps = caps }

-- a match with at most three raises on the first street, and one on the second
abbrev pub capped : Rules
capped = match_rules (Some (3 ∷ 1 ∷ 4 ∷ 4 ∷ []))

-- a match without caps
abbrev pub uncapped : Rules
uncapped = match_rules None

-- the cards of a text are dealt to a seat
abbrev pub deal : ℕ → List ℕ → Said
deal seat cards = Hole seat (slots_named cards)

-- the cards of a text are dealt to the board
abbrev pub board : List ℕ → Said
board cards = Board (cards_named cards)

-- a named seat folds
abbrev pub fold : ℕ → Said
fold seat = Fold (Some seat)

-- a named seat checks or calls
abbrev pub call : ℕ → Said
call seat = Call (Some seat) None

-- a named seat calls, and is stated to add this many chips
abbrev pub call_adding : ℕ → ℕ → Said
call_adding seat stated = Call (Some seat) (Some stated)

-- a named seat bets or raises to this many chips on the street
abbrev pub raise : ℕ → ℕ → Said
raise seat target = Raise (Some seat) (spelled.To target)

-- a named seat brings in
abbrev pub bring_in : ℕ → Said
bring_in seat = BringIn (Some seat)

-- the player to act folds
abbrev pub folds : Said
folds = Fold None

-- the player to act checks or calls
abbrev pub calls : Said
calls = Call None None

-- the player to act bets or raises by this many chips
abbrev pub raises_by : ℕ → Said
raises_by chips = Raise None (spelled.Added chips)

-- the player to act bets or raises to this many chips, counted over the whole hand
abbrev pub raises_to : ℕ → Said
raises_to total = Raise None (spelled.HandTotal total)

-- the player to act bets or raises by the raise unit
abbrev pub raises : Said
raises = Raise None spelled.Unit

-- a seat discards the cards of a text
abbrev pub discard : ℕ → List ℕ → Said
discard seat cards = Discard seat (slots_named cards)

-- a seat stands pat
abbrev pub stand_pat : ℕ → Said
stand_pat seat = Discard seat []

-- a seat shows the cards of a text
abbrev pub show : ℕ → List ℕ → Said
show seat cards = Show seat (cards_named cards)

-- a seat mucks
abbrev pub muck : ℕ → Said
muck seat = Muck seat
