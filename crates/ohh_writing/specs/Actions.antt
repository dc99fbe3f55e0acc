-- The actions of a hand that is written: posts, deals, moves and shows, each with its word, its
-- player and its details.
use Rattle.std.specs.Prelude.{ℕ, ◌-◌, ◌==◌, ◌&&◌, nat_lt, not, Bool, if◌then◌else◌, List, [], ◌∷◌, ◌++◌, Some}
use Rattle.std.specs.List.{flat_map, list_any}
use Rattle.card_set.specs.declared.card.Slot.{Slot}
use Rattle.card_set.specs.Known.{hides_card}
use Rattle.card_set.specs.Row.{slots_of}
use Rattle.chip_ledger.specs.LiveRow.{flag_of}
use Rattle.chip_ledger.specs.SeatRow.{amount_of}
use Rattle.play_event.specs.declared.setup.Setup.{Setup}
use Rattle.play_event.specs.Chips.{blind_posted, chips_left, posted}
use Rattle.play_event.specs.Past.{Move, Act, Folded, Called, Raised, BroughtIn}
use Rattle.play_event.specs.Seats.{all_seats}
use Rattle.play_event.specs.Trace.{TracedMove, TracedPlace}
use Rattle.play_event.specs.CanonScript.{dealt_slots, held_slots, plain_move}
use Rattle.hand_canon.specs.declared.trace.Trace.{Trace}
use Rattle.hand_canon.specs.TraceRows.{core_said}
use Rattle.ohh_members.specs.declared.dialect.Dialect.{Dialect}
use Rattle.ohh_members.specs.declared.dialect.Dialect.TheVariants as dialects
use Rattle.ohh_writing.specs.declared.action.Action.{Action}
use Rattle.ohh_writing.specs.declared.action.Detail.{Detail}
use Rattle.ohh_writing.specs.declared.action.Detail.TheVariants as details
use Rattle.ohh_members.specs.declared.words.Word.{Word}
use Rattle.ohh_members.specs.declared.words.Word.TheVariants as words
use Rattle.chip_ledger.specs.Seat.{big_blind_of, small_blind_of}

-- what an action has beside its word and its player: nothing, or chips and whether the seat is
-- all-in, or cards
pub data PlainDetail : Type 0 where
  Nothing : PlainDetail
  Chips : ℕ → Bool → PlainDetail
  Cards : List Slot → PlainDetail

-- an action, with plain numbers and lists
pub record PlainAction : Type 0 where
  pub word : Word
  pub player : ℕ
  pub detail : PlainDetail

-- the details of an action, as the definitions see them
abbrev pub detail_said : Detail → PlainDetail
detail_said details.Nothing = Nothing
detail_said (details.Chips amount all_in) = Chips amount all_in
detail_said (details.Cards cards) = Cards (slots_of cards)

-- an action, as the definitions see it
abbrev pub action_said : Action → PlainAction
action_said action =
    record { word = action.word; player = action.player; detail = detail_said action.detail }

-- an action that puts in chips: it is all-in if no chips are left after it
abbrev pub with_chips : Word → ℕ → ℕ → ℕ → PlainAction
with_chips word seat amount left =
    record { word = word; player = seat; detail = Chips amount (left == 0) }

-- an action with nothing but its player
abbrev pub alone : Word → ℕ → PlainAction
alone word seat = record { word = word; player = seat; detail = Nothing }

-- an action with cards
abbrev pub with_cards : Word → ℕ → List Slot → PlainAction
with_cards word seat cards = record { word = word; player = seat; detail = Cards cards }

-- ---- posts

-- the seat of the small blind: the first after the button; with two seats, the button
abbrev pub seat_of_small_blind : Setup → ℕ
seat_of_small_blind setup = small_blind_of setup.stacks.seats

-- the seat of the big blind: the next one
abbrev pub seat_of_big_blind : Setup → ℕ
seat_of_big_blind setup = big_blind_of setup.stacks.seats

-- the ante of a seat, if it posts one
abbrev pub ante_post : Setup → ℕ → List PlainAction
ante_post setup seat =
    if nat_lt 0 (amount_of setup.antes seat)
    then with_chips words.PostAnte seat (amount_of setup.antes seat)
    (amount_of setup.stacks seat - amount_of setup.antes seat)
    ∷ []
    else []

-- a blind, as far as the stack goes after the ante
abbrev pub blind_post : Setup → Word → ℕ → PlainAction
blind_post setup word seat =
    with_chips word seat (blind_posted setup seat) (amount_of setup.stacks seat - posted setup seat)

-- a straddle: a blind of another seat than the first two
abbrev pub straddle_post : Setup → ℕ → List PlainAction
straddle_post setup seat =
    if nat_lt 2 seat && nat_lt 0 (amount_of setup.blinds seat)
    then blind_post setup words.Straddle seat ∷ []
    else []

-- the posts: the antes, the small and the big blind, and the straddles, each from p1 upward
abbrev pub posts : Setup → List PlainAction
posts setup =
    flat_map (ante_post setup) (all_seats setup)
    ++ (blind_post setup words.PostSmallBlind (seat_of_small_blind setup)
    ∷ blind_post setup words.PostBigBlind (seat_of_big_blind setup)
    ∷ flat_map (straddle_post setup) (all_seats setup))

-- ---- cards

-- one of the cards is known
abbrev pub has_known_card : List Slot → Bool
has_known_card slots = list_any (λ slot. not (hides_card slot)) slots

-- the cards that a seat was dealt, if one of them is known
abbrev pub deal_written : ℕ → List Slot → List PlainAction
deal_written seat cards =
    if has_known_card cards then with_cards words.DealtCards seat cards ∷ [] else []

-- the deals of the first street, from p1 upward
abbrev pub deals : Setup → List TracedPlace → List PlainAction
deals setup placed =
    flat_map (λ seat. deal_written seat (dealt_slots placed (Some seat) 1)) (all_seats setup)

-- a seat that is shown shows all its cards, and one that is mucked mucks them
abbrev pub showing : Trace → ℕ → List PlainAction
showing trace seat =
    if flag_of trace.shown seat
    then with_cards words.ShowsCards seat (held_slots (core_said trace).places seat) ∷ []
    else (if flag_of trace.mucked seat then alone words.MucksCards seat ∷ [] else [])

-- the showdown of a contested hand, from p1 upward
abbrev pub showings : Trace → List PlainAction
showings trace = flat_map (showing trace) (all_seats trace.setup)

-- ---- moves

-- the amount of a raise in a dialect: the chips that it adds, or the bet on the street that it
-- raises to
abbrev pub raise_amount : Dialect → TracedMove → ℕ
raise_amount dialects.Added move = move.to - move.from
raise_amount dialects.To move = move.to

-- a check if there was nothing to call, else a call of the chips that it adds
abbrev pub call_written : TracedMove → ℕ → PlainAction
call_written move left =
    if move.price == move.from
    then alone words.Check move.seat
    else with_chips words.Call move.seat (move.to - move.from) left

-- a bet of the chips that it adds if nobody had put in chips on the street, else a raise
abbrev pub raise_written : Dialect → TracedMove → ℕ → PlainAction
raise_written dialect move left =
    if move.price == 0
    then with_chips words.Bet move.seat (move.to - move.from) left
    else with_chips words.Raise move.seat (raise_amount dialect move) left

-- a move by its act, with the chips that the seat has left; no game that can be written has a
-- bring-in
abbrev pub act_written : Dialect → Act → TracedMove → ℕ → List PlainAction
act_written dialect Folded move left = alone words.Fold move.seat ∷ []
act_written dialect Called move left = call_written move left ∷ []
act_written dialect Raised move left = raise_written dialect move left ∷ []
act_written dialect BroughtIn move left = []

-- a move after those before it
abbrev pub move_written : Dialect → Setup → List Move → TracedMove → List PlainAction
move_written dialect setup before move =
    act_written dialect move.act move (chips_left setup (plain_move move ∷ before) move.seat)

-- the moves of a street, among moves that come after those before them, the newest of which is the
-- first
abbrev pub moves_written : Dialect → Setup → ℕ → List Move → List TracedMove → List PlainAction
moves_written dialect setup street before [] = []
moves_written dialect setup street before (move ∷ rest) =
    (if move.street == street then move_written dialect setup before move else [])
    ++ moves_written dialect setup street (plain_move move ∷ before) rest
