-- An action as an event: one of nine forms, in words separated by spaces, or what is wrong with it.
use Rattle.std.specs.Prelude.{ℕ, ◌+◌, ◌==◌, Bool, ◌&&◌, nat_le, bytes_eq, if◌then◌else◌, List, [], ◌∷◌, length, find, codes, Option, Some, None, take, drop, Result, Ok, Err}
use Rattle.std.specs.List.{list_any, position_or_len}
use Rattle.card_set.specs.declared.card.Card.{Card}
use Rattle.card_set.specs.declared.card.Slot.{Slot}
use Rattle.card_set.specs.Known.{hides_card, known_among}
use Rattle.card_set.specs.Spelling.{slots_spelled}
use Rattle.chip_ledger.specs.declared.numbers.TheConstants.{MOST_CHIPS}
use Rattle.chip_ledger.specs.Seat.{seats_of}
use Rattle.first_fault.specs.Digits.{are_digits, number_of}
use Rattle.first_fault.specs.Forms.{or_fault}
use Rattle.first_fault.specs.Reading.{◌>>=◌}
use Rattle.play_event.specs.declared.event.Spelled.TheVariants as spelled
use Rattle.play_event.specs.Said as said
use Rattle.play_event.specs.Said.{Said}
use Rattle.phh_actions.specs.declared.fault.ActionFault.{ActionFault}
use Rattle.phh_actions.specs.declared.fault.ActionFault.TheVariants as faults
use Rattle.phh_actions.specs.Words.{before_commentary}
use Rattle.first_fault.specs.Words.{words_of}
use Rattle.chip_ledger.specs.SeatsSaid.{default_name}

-- a value that is read, or what is wrong
abbrev pub Read : Type 0 → Type 0
Read A = Result A ActionFault

-- a result with its value as the definitions see it
abbrev pub seen_by : {X Y : Type 0} → (X → Y) → Read X → Read Y
seen_by view (Ok value) = Ok (view value)
seen_by view (Err fault) = Err fault

-- the seat with this name, in a hand with this number of seats
unfoldable pub seat_named : ℕ → List ℕ → Option ℕ
seat_named seats word = find (λ seat. bytes_eq word (default_name seat)) (seats_of seats)

-- the seat that a word names
unfoldable pub seat_said : ℕ → List ℕ → Read ℕ
seat_said seats word = or_fault faults.BadAction (seat_named seats word)

-- digits, a point and digits
unfoldable pub has_fraction : List ℕ → Bool
has_fraction word =
    let point = position_or_len (λ sign. sign == 46) word in are_digits (take point word)
    && are_digits (drop (point + 1) word)

-- the amount that a word means: decimal digits, with leading zeros allowed
unfoldable pub amount_said : List ℕ → Read ℕ
amount_said word =
    if are_digits word then or_fault faults.AmountLimit (number_of MOST_CHIPS word)
    else if has_fraction word then Err faults.AmountNotWhole
    else Err faults.BadAction

-- the cards, if there are one to this many
abbrev pub one_to : ℕ → List Slot → Read (List Slot)
one_to most slots =
    if nat_le 1 (length slots) && nat_le (length slots) most then Ok slots else Err faults.BadAction

-- one to this many cards, known or unknown, two letters each
unfoldable pub slots_said : ℕ → List ℕ → Read (List Slot)
slots_said most word = or_fault faults.BadAction (slots_spelled word) >>= one_to most

-- the cards, if all are known
abbrev pub all_known : List Slot → Read (List Card)
all_known slots = if list_any hides_card slots then Err faults.BadAction else Ok (known_among slots)

-- one to this many known cards
unfoldable pub cards_said : ℕ → List ℕ → Read (List Card)
cards_said most word = slots_said most word >>= all_known

-- what a seat does, in one word: fold, check or call, bring in, stand pat, or muck
unfoldable pub act_said : ℕ → List ℕ → Read Said
act_said seat act =
    if bytes_eq act (codes "f") then Ok (said.Fold (Some seat))
    else if bytes_eq act (codes "cc") then Ok (said.Call (Some seat) None)
    else if bytes_eq act (codes "pb") then Ok (said.BringIn (Some seat))
    else if bytes_eq act (codes "sd") then Ok (said.Discard seat [])
    else if bytes_eq act (codes "sm") then Ok (said.Muck seat)
    else Err faults.BadAction

-- what a seat does, in two words: bet or raise to an amount, discard cards, or show cards
unfoldable pub act_with_said : ℕ → List ℕ → List ℕ → Read Said
act_with_said seat act more =
    if bytes_eq act (codes "cbr")
    then (amount_said more >>= λ chips. Ok (said.Raise (Some seat) (spelled.To chips)))
    else if bytes_eq act (codes "sd")
    then (slots_said 5 more >>= λ slots. Ok (said.Discard seat slots))
    else if bytes_eq act (codes "sm")
    then (cards_said 7 more >>= λ cards. Ok (said.Show seat cards))
    else Err faults.BadAction

-- d db cards: the board is dealt
abbrev pub is_board_deal : List ℕ → List ℕ → Bool
is_board_deal dealer deal = bytes_eq dealer (codes "d") && bytes_eq deal (codes "db")

-- d dh pN cards: a seat is dealt hole cards
abbrev pub is_hole_deal : List ℕ → List ℕ → Bool
is_hole_deal dealer deal = bytes_eq dealer (codes "d") && bytes_eq deal (codes "dh")

-- the event of two words: a seat, and what it does
unfoldable pub two_say : ℕ → List ℕ → List ℕ → Read Said
two_say seats name act = seat_said seats name >>= λ seat. act_said seat act

-- the event of three words
unfoldable pub three_say : ℕ → List ℕ → List ℕ → List ℕ → Read Said
three_say seats first second third =
    if is_board_deal first second then (cards_said 5 third >>= λ cards. Ok (said.Board cards))
    else (seat_said seats first >>= λ seat. act_with_said seat second third)

-- the event of four words
unfoldable pub four_say : ℕ → List ℕ → List ℕ → List ℕ → List ℕ → Read Said
four_say seats first second third fourth =
    if is_hole_deal first second
    then (seat_said seats third
    >>= λ seat. slots_said 7 fourth >>= λ slots. Ok (said.Hole seat slots))
    else Err faults.BadAction

-- an event
abbrev pub an_event : Said → Read (Option Said)
an_event event = Ok (Some event)

-- the event of the words of an action: no words are no event
unfoldable pub words_say : ℕ → List (List ℕ) → Read (Option Said)
words_say seats [] = Ok None
words_say seats (name ∷ act ∷ []) = two_say seats name act >>= an_event
words_say seats (first ∷ second ∷ third ∷ []) = three_say seats first second third >>= an_event
words_say seats (first ∷ second ∷ third ∷ fourth ∷ []) =
    four_say seats first second third fourth >>= an_event
words_say seats words = Err faults.BadAction

-- the event of an action in a hand with this number of seats
abbrev pub action_said : ℕ → List ℕ → Read (Option Said)
action_said seats text = words_say seats (words_of (before_commentary text))
