-- The one JSON tree for a play, with the members of each object in the order of their names.
use Rattle.std.specs.Prelude.{ℕ, ◌+◌, nat_lt, if◌then◌else◌, List, [], ◌∷◌, codes, length, map, slice_index_or, Option, Some, None, unwrap_or}
use Rattle.std.specs.Fmt.{decimal}
use Rattle.std.specs.List.{flat_map}
use Rattle.serde_json.specs.Data.{Data, boolean, number, string, array, object, unsigned, Members, no_members, member, put}
use Rattle.serde_json.specs.View.{items_of}
use Rattle.card_set.specs.declared.card.Slot.{Slot}
use Rattle.card_set.specs.Spelling.{slot_spelling}
use Rattle.chip_ledger.specs.declared.pots.Pot.{Pot}
use Rattle.chip_ledger.specs.declared.seat_row.SeatRow.{SeatRow}
use Rattle.chip_ledger.specs.PotRow.{pots_in}
use Rattle.chip_ledger.specs.Fillers.{no_amounts}
use Rattle.chip_ledger.specs.Seat.{seats_of}
use Rattle.chip_ledger.specs.RakeRow.{rake_of}
use Rattle.chip_ledger.specs.SeatRow.{amount_of}
use Rattle.play_event.specs.declared.setup.Setup.{Setup}
use Rattle.hand_canon.specs.declared.notes.Notes.{Notes}
use Rattle.hand_canon.specs.declared.trace.Play.{Play}
use Rattle.hand_canon.specs.declared.trace.Trace.{Trace}
use Rattle.ohh_members.specs.declared.dialect.Dialect.{Dialect}
use Rattle.ohh_writing.specs.Actions.{PlainAction, PlainDetail, Nothing, Chips, Cards, seat_of_small_blind}
use Rattle.ohh_writing.specs.Games.{bet_word, game_word}
use Rattle.hand_canon.specs.declared.notes.Moment.{Moment}
use Rattle.ohh_writing.specs.Moment.{moment_of, moment_text}
use Rattle.ohh_writing.specs.Rounds.{PlainRound, hand_rounds}
use Rattle.ohh_writing.specs.Seating.{number_among, numbers_spelled}
use Rattle.ohh_writing.specs.Spelled.{big_blind, greatest_ante}
use Rattle.hand_canon.specs.AllowedNotes.{name_written}
use Rattle.ohh_members.specs.Streets.{street_name}
use Rattle.ohh_members.specs.Words.{word_text}

-- a whole number
abbrev pub whole : ℕ → Data
whole amount = number (unsigned amount)

-- a list
abbrev pub list : List Data → Data
list items = array (items_of items)

-- ---- rounds

-- a list of cards
abbrev pub cards_tree : List Slot → Data
cards_tree slots = list (map (λ slot. string (slot_spelling slot)) slots)

-- the details of an action as members, before that of its player
abbrev pub detail_members : PlainDetail → Members → Members
detail_members Nothing rest = rest
detail_members (Chips amount all_in) rest =
    member (codes "amount") (whole amount) (member (codes "is_allin") (boolean all_in) rest)
detail_members (Cards cards) rest = member (codes "cards") (cards_tree cards) rest

-- members, together with the details of an action
abbrev pub with_detail : PlainDetail → Members → Members
with_detail Nothing members = members
with_detail (Chips amount all_in) members =
    put (codes "is_allin") (boolean all_in) (put (codes "amount") (whole amount) members)
with_detail (Cards cards) members = put (codes "cards") (cards_tree cards) members

-- an action with its number, whose details come before its player
abbrev pub action_object : ℕ → List ℕ → ℕ → (Members → Members) → Data
action_object n word player detail =
    object (member (codes "action") (string word)
    (member (codes "action_number") (whole n)
    (detail (member (codes "player_id") (whole player) no_members))))

-- an action with its number
abbrev pub action_tree : ℕ → PlainAction → Data
action_tree n action =
    action_object n (word_text action.word) action.player (detail_members action.detail)

-- actions; the first has this number
abbrev pub action_trees : ℕ → List PlainAction → List Data
action_trees n [] = []
action_trees n (action ∷ rest) = action_tree n action ∷ action_trees (n + 1) rest

-- a round whose first action has this number
abbrev pub round_tree : ℕ → PlainRound → Data
round_tree n round =
    object (member (codes "actions") (list (action_trees n round.actions))
    (member (codes "cards") (cards_tree round.cards)
    (member (codes "street") (string (street_name round.street)) no_members)))

-- rounds; the numbers of their actions run through the whole hand, and the first action has this
-- number
abbrev pub round_trees : ℕ → List PlainRound → List Data
round_trees n [] = []
round_trees n (round ∷ rest) = round_tree n round ∷ round_trees (n + length round.actions) rest

-- ---- players and pots

-- a player, by the number of its seat among those of the hand
abbrev pub player_tree : SeatRow → Notes → Option (List ℕ) → ℕ → Data
player_tree stacks notes numbers seat =
    object (member (codes "id") (whole seat)
    (member (codes "name") (string (name_written notes seat))
    (member (codes "seat") (whole (number_among numbers seat))
    (member (codes "starting_stack") (whole (amount_of stacks seat)) no_members))))

-- the players, from p1 upward; the numbers of their seats are these, or by default 1, 2 and so on
abbrev pub players : SeatRow → Notes → Option (List ℕ) → Data
players stacks notes numbers = list (map (player_tree stacks notes numbers) (seats_of stacks.seats))

-- the chips that a seat wins
abbrev pub win_object : ℕ → ℕ → Data
win_object seat amount =
    object
    (member (codes "player_id") (whole seat)
    (member (codes "win_amount") (whole amount) no_members))

-- what a seat wins of a pot, if it wins something
abbrev pub win_tree : SeatRow → ℕ → List Data
win_tree share seat =
    if nat_lt 0 (amount_of share seat) then win_object seat (amount_of share seat) ∷ [] else []

-- what this many seats win of a pot, from p1 upward
abbrev pub wins_of : SeatRow → ℕ → Data
wins_of share seats = list (flat_map (win_tree share) (seats_of seats))

-- the shares of the pot at this place, from 0; nobody has a share past the last pot
abbrev pub share_at : Trace → ℕ → SeatRow
share_at trace place = slice_index_or trace.shares.shares place no_amounts

-- the pot at this place, from 0, including its rake
abbrev pub pot_tree : Trace → ℕ → Pot → Data
pot_tree trace place pot =
    object (member (codes "amount") (whole pot.chips)
    (member (codes "number") (whole place)
    (member (codes "player_wins") (wins_of (share_at trace place) trace.setup.stacks.seats)
    (member (codes "rake") (whole (rake_of trace.setup.rakes (place + 1))) no_members))))

-- pots; the first is at this place
abbrev pub pot_trees : Trace → ℕ → List Pot → List Data
pot_trees trace place [] = []
pot_trees trace place (pot ∷ rest) = pot_tree trace place pot ∷ pot_trees trace (place + 1) rest

-- the pots, the lowest first
abbrev pub pots : Trace → Data
pots trace = list (pot_trees trace 0 (pots_in trace.pots))

-- ---- the hand

-- when the hand was played, if that is noted
abbrev pub date_member : Option Moment → Members → Members
date_member None rest = rest
date_member (Some moment) rest = member (codes "start_date_utc") (string (moment_text moment)) rest

-- members, together with the moment if it is noted
abbrev pub with_date : Option Moment → Members → Members
with_date None members = members
with_date (Some moment) members = put (codes "start_date_utc") (string (moment_text moment)) members

-- the limit of the game
abbrev pub limit_tree : Setup → Data
limit_tree setup = object (member (codes "bet_type") (string (bet_word setup.code)) no_members)

-- the text of a note, or the empty text
abbrev pub text_or_empty : Option (List ℕ) → Data
text_or_empty said = string (unwrap_or said [])

-- the number of seats of the table: as noted, or else that of the hand
abbrev pub table_size : Setup → Notes → ℕ
table_size setup notes = unwrap_or notes.seat_count setup.stacks.seats

-- the numbers of the seats that are written, if they are noted and go round
abbrev pub numbers_written : Setup → Notes → Option (List ℕ)
numbers_written setup notes = numbers_spelled setup.stacks.seats notes.seats

-- the members of the hand at this place of its file, from 0
abbrev pub hand_members : Dialect → ℕ → Trace → Notes → Members
hand_members dialect place trace notes =
    member (codes "ante_amount") (whole (greatest_ante trace.setup))
    (member (codes "bet_limit") (limit_tree trace.setup)
    (member (codes "big_blind_amount") (whole (big_blind trace.setup))
    (member (codes "currency") (text_or_empty notes.currency)
    (member (codes "dealer_seat")
    (whole (number_among (numbers_written trace.setup notes) trace.setup.stacks.seats))
    (member (codes "game_number") (string (unwrap_or notes.hand (decimal place)))
    (member (codes "game_type") (string (game_word trace.setup.code))
    (member (codes "internal_version") (string (codes "1"))
    (member (codes "players") (players trace.setup.stacks notes (numbers_written trace.setup notes))
    (member (codes "pots") (pots trace)
    (member (codes "rounds") (list (round_trees 1 (hand_rounds dialect trace)))
    (member (codes "site_name") (text_or_empty notes.venue)
    (member (codes "small_blind_amount")
    (whole (amount_of trace.setup.blinds (seat_of_small_blind trace.setup)))
    (member (codes "spec_version") (string (codes "1.4.6"))
    (date_member (moment_of notes)
    (member (codes "table_name") (text_or_empty notes.table)
    (member (codes "table_size") (whole (table_size trace.setup notes)) no_members))))))))))))))))

-- the tree of the hand at this place of its file, from 0
unfoldable pub hand_tree : Dialect → ℕ → Play → Data
hand_tree dialect place play =
    object
    (member (codes "ohh") (object (hand_members dialect place play.trace play.hand.notes))
    no_members)
