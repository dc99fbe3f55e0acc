-- The tree of a hand has no fraction and little nesting, so its text is the compact one and reads
-- back.
use Rattle.std.proofs.Common.{◌≡◌, ℕ, ◌+◌, ◌≤◌, Bool, true, false, cond, nat_lt, List, [], ◌∷◌, ◌++◌, length, map, codes, Option, Some, None, refl, arith}
use Rattle.std.specs.List.{AllByRecursion, flat_map}
use Rattle.serde_json.specs.Data.{Data, string, Members, member, no_members, depth, items_depth, members_depth}
use Rattle.serde_json.specs.View.{items_of}
use Rattle.serde_json.specs.Written.{has_float, items_have_float, members_have_float}
use Rattle.card_set.specs.declared.card.Slot.{Slot}
use Rattle.card_set.specs.Spelling.{slot_spelling}
use Rattle.chip_ledger.specs.declared.pots.Pot.{Pot}
use Rattle.chip_ledger.specs.declared.seat_row.SeatRow.{SeatRow}
use Rattle.chip_ledger.specs.PotRow.{pots_in}
use Rattle.chip_ledger.specs.Seat.{seats_of}
use Rattle.chip_ledger.specs.SeatRow.{amount_of}
use Rattle.hand_canon.specs.declared.notes.Notes.{Notes}
use Rattle.hand_canon.specs.declared.trace.Play.{Play}
use Rattle.hand_canon.specs.declared.trace.Trace.{Trace}
use Rattle.ohh_members.specs.declared.dialect.Dialect.{Dialect}
use Rattle.ohh_members.specs.declared.words.Word.{Word}
use Rattle.hand_canon.specs.declared.notes.Moment.{Moment}
use Rattle.ohh_writing.specs.Actions.{PlainAction, PlainDetail, Nothing, Chips, Cards}
use Rattle.ohh_writing.specs.Moment.{moment_of}
use Rattle.ohh_writing.specs.Rounds.{PlainRound, hand_rounds}
use Rattle.ohh_writing.specs.Tree.{action_tree, action_trees, cards_tree, date_member, hand_tree, list, numbers_written, player_tree, players, pot_tree, pot_trees, pots, round_tree, round_trees, share_at, table_size, text_or_empty, whole, win_object, win_tree, wins_of}

-- a tree has no fraction, and nests no deeper than this
pub record IsPlain (most : ℕ) (tree : Data) : Type 0 where
  pub whole : has_float tree ≡ false
  pub shallow : depth tree ≤ most

abbrev ArePlain : ℕ → List Data → Type 0
ArePlain most trees = AllByRecursion (IsPlain most) trees

items_whole : (most : ℕ) (trees : List Data) → ArePlain most trees → items_have_float (items_of trees) ≡ false
items_whole most [] each = refl
items_whole most (tree ∷ rest) each = rw (each.0.whole, items_whole most rest each.1) refl

items_shallow : (most : ℕ) (trees : List Data) → ArePlain most trees → items_depth (items_of trees) ≤ most
items_shallow most [] each = omega arith
items_shallow most (tree ∷ rest) each = omega (arith, each.0.shallow, items_shallow most rest each.1)

-- a list of plain trees
list_plain : (most : ℕ) (trees : List Data) → ArePlain most trees → IsPlain (most + 1) (list trees)
list_plain most trees each = record { whole = items_whole most trees each; shallow = omega (arith, items_shallow most trees each) }

each_map : {X : Type 0} (most : ℕ) (tree : X → Data) → ((x : X) → IsPlain most (tree x)) → (xs : List X) → ArePlain most (map tree xs)
each_map most tree plain [] = tt
each_map most tree plain (x ∷ xs) = (plain x, each_map most tree plain xs)

together : (most : ℕ) (trees others : List Data) → ArePlain most trees → ArePlain most others → ArePlain most (trees ++ others)
together most [] others each all = all
together most (tree ∷ trees) others each all = (each.0, together most trees others each.1 all)

each_flat : {X : Type 0} (most : ℕ) (trees : X → List Data) → ((x : X) → ArePlain most (trees x)) → (xs : List X) → ArePlain most (flat_map trees xs)
each_flat most trees plain [] = tt
each_flat most trees plain (x ∷ xs) = together most (trees x) (flat_map trees xs) (plain x) (each_flat most trees plain xs)

text_plain : (text : List ℕ) → IsPlain 0 (string text)
text_plain text = record { whole = refl; shallow = omega arith }

cards_plain : (slots : List Slot) → IsPlain 1 (cards_tree slots)
cards_plain slots = list_plain 0 (map (λ slot. string (slot_spelling slot)) slots) (each_map 0 (λ slot. string (slot_spelling slot)) (λ slot. text_plain (slot_spelling slot)) slots)

detail_plain : (n : ℕ) (word : Word) (player : ℕ) (detail : PlainDetail) → IsPlain 2 (action_tree n (record { word = word; player = player; detail = detail }))
detail_plain n word player Nothing = record { whole = refl; shallow = omega arith }
detail_plain n word player (Chips amount all_in) = record { whole = refl; shallow = omega arith }
detail_plain n word player (Cards cards) =
    let plain = cards_plain cards in record { whole = rw plain.whole refl; shallow = omega (arith, plain.shallow) }

actions_plain : (n : ℕ) (actions : List PlainAction) → ArePlain 2 (action_trees n actions)
actions_plain n [] = tt
actions_plain n (action ∷ rest) = (detail_plain n action.word action.player action.detail, actions_plain (n + 1) rest)

round_plain : (n : ℕ) (round : PlainRound) → IsPlain 4 (round_tree n round)
round_plain n round =
    let actions = list_plain 2 (action_trees n round.actions) (actions_plain n round.actions) in
    let cards = cards_plain round.cards in
    record { whole = rw (actions.whole, cards.whole) refl; shallow = omega (arith, actions.shallow, cards.shallow) }

rounds_plain : (n : ℕ) (rounds : List PlainRound) → ArePlain 4 (round_trees n rounds)
rounds_plain n [] = tt
rounds_plain n (round ∷ rest) = (round_plain n round, rounds_plain (n + length round.actions) rest)

player_plain : (stacks : SeatRow) (notes : Notes) (numbers : Option (List ℕ)) (seat : ℕ) → IsPlain 1 (player_tree stacks notes numbers seat)
player_plain stacks notes numbers seat = record { whole = refl; shallow = omega arith }

players_plain : (stacks : SeatRow) (notes : Notes) (numbers : Option (List ℕ)) → IsPlain 2 (players stacks notes numbers)
players_plain stacks notes numbers =
    list_plain 1 (map (player_tree stacks notes numbers) (seats_of stacks.seats))
    (each_map 1 (player_tree stacks notes numbers) (player_plain stacks notes numbers) (seats_of stacks.seats))

win_plain : (wins : Bool) (seat amount : ℕ) → ArePlain 1 (cond wins (win_object seat amount ∷ []) [])
win_plain true seat amount = (record { whole = refl; shallow = omega arith }, tt)
win_plain false seat amount = tt

wins_plain : (share : SeatRow) (seats : ℕ) → IsPlain 2 (wins_of share seats)
wins_plain share seats =
    list_plain 1 (flat_map (win_tree share) (seats_of seats))
    (each_flat 1 (win_tree share) (λ seat. win_plain (nat_lt 0 (amount_of share seat)) seat (amount_of share seat)) (seats_of seats))

pot_plain : (trace : Trace) (place : ℕ) (pot : Pot) → IsPlain 3 (pot_tree trace place pot)
pot_plain trace place pot =
    let wins = wins_plain (share_at trace place) trace.setup.stacks.seats in
    record { whole = rw wins.whole refl; shallow = omega (arith, wins.shallow) }

pots_plain_from : (trace : Trace) (place : ℕ) (row : List Pot) → ArePlain 3 (pot_trees trace place row)
pots_plain_from trace place [] = tt
pots_plain_from trace place (pot ∷ rest) = (pot_plain trace place pot, pots_plain_from trace (place + 1) rest)

pots_plain : (trace : Trace) → IsPlain 4 (pots trace)
pots_plain trace = list_plain 3 (pot_trees trace 0 (pots_in trace.pots)) (pots_plain_from trace 0 (pots_in trace.pots))

date_whole : (said : Option Moment) (rest : Members) → members_have_float rest ≡ false → members_have_float (date_member said rest) ≡ false
date_whole None rest plain = plain
date_whole (Some moment) rest plain = plain

date_shallow : (said : Option Moment) (rest : Members) → members_depth (date_member said rest) ≤ members_depth rest
date_shallow None rest = omega arith
date_shallow (Some moment) rest = omega arith

-- the tree of a hand
pub hand_plain : (dialect : Dialect) (place : ℕ) (play : Play) → IsPlain 7 (hand_tree dialect place play)
unfolding hand_tree
hand_plain dialect place play =
    let trace = play.trace in
    let notes = play.hand.notes in
    let seated = players_plain trace.setup.stacks notes (numbers_written trace.setup notes) in
    let won = pots_plain trace in
    let played = list_plain 4 (round_trees 1 (hand_rounds dialect trace)) (rounds_plain 1 (hand_rounds dialect trace)) in
    let last : Members = member (codes "table_name") (text_or_empty notes.table) (member (codes "table_size") (whole (table_size trace.setup notes)) no_members) in
    let dated = date_whole (moment_of notes) last refl in
    record {
      whole = rw (seated.whole, won.whole, played.whole, dated) refl;
      shallow = omega (arith, seated.shallow, won.shallow, played.shallow, date_shallow (moment_of notes) last);
    }
