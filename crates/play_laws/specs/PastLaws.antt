-- What holds of a legal past: its streets, and what is still due on them.
use Rattle.std.specs.Prelude.{◌≡◌, ◌≢◌, ℕ, ◌≤◌, ◌<◌, ◌==◌, Bool, true, false, nat_le, List, [], ◌∷◌}
use Rattle.std.specs.List.{list_any}
use Rattle.play_event.specs.declared.setup.Setup.{Setup}
use Rattle.play_event.specs.Games.{street_count, hole_cards_on, board_cards_on}
use Rattle.play_event.specs.Streets.{has_draw}
use Rattle.play_event.specs.Past.{Past, Resolved, Move, Dealt, Boarded, Moved, Discarded, Shown, Mucked, moves_of, newest_street, moves_before}
use Rattle.play_event.specs.Seats.{is_live, live_count}
use Rattle.play_event.specs.Dealing.{is_deal_due, is_draw_due, hole_cards_dealt, board_cards_dealt, cards_discarded, has_drawn, replacements_owed}
use Rattle.play_event.specs.Due.{is_bring_in_due, is_move_due}

-- each move is on this street or before it
abbrev pub AreReached : ℕ → List Move → Type 0
AreReached newest [] = Unit {0}
AreReached newest (move ∷ rest) = (move.street ≤ newest) × AreReached newest rest

-- a street has a move
abbrev pub has_move : ℕ → List Move → Bool
has_move street moves = list_any (λ move. move.street == street) moves

-- the cards of a street are dealt and drawn
abbrev pub HasCards : Setup → Past → ℕ → Type 0
HasCards setup before street =
    (is_deal_due setup before street ≡ false) × (is_draw_due setup before street ≡ false)

-- the betting of a street is closed after these moves
abbrev pub IsBettingClosed : Setup → List Move → ℕ → Type 0
IsBettingClosed setup moves street =
    (is_bring_in_due setup moves street ≡ false) × (is_move_due setup moves street ≡ false)

-- nothing is due on a street
abbrev pub IsStreetDone : Setup → Past → ℕ → Type 0
IsStreetDone setup before street =
    (is_deal_due setup before street ≡ false)
    × ((is_draw_due setup before street ≡ false) × IsBettingClosed setup (moves_of before) street)

-- What holds of a legal past: its newest street is one of the game and no move is on a later one; a
-- street with a move has its cards; and what was discarded was replaced, except on the newest
-- street.
pub record PastLaw (setup : Setup) (before : Past) : Type 0 where
  pub within : newest_street before ≤ street_count setup.code
  pub since : 1 ≤ newest_street before
  pub moved : AreReached (newest_street before) (moves_of before)
  pub moved_done : (street : ℕ) → has_move street (moves_of before) ≡ true
      → HasCards setup before street
  pub drawn_count : (street seat : ℕ) → has_draw setup.code street ≡ true
      → hole_cards_dealt before street seat ≤ cards_discarded before street seat
  pub undrawn : (street seat : ℕ) → has_draw setup.code street ≡ false
      → cards_discarded before street seat ≡ 0
  pub owed_now : (street seat : ℕ) → 1 ≤ seat → seat ≤ setup.stacks.seats
      → street ≢ newest_street before → replacements_owed before street seat ≡ 0
  pub folded_owed : (street seat : ℕ) → 1 ≤ seat → seat ≤ setup.stacks.seats
      → is_live (moves_of before) seat ≡ false → replacements_owed before street seat ≡ 0

-- an event other than a show or muck takes place on this street
abbrev pub is_played_on : ℕ → Resolved → Bool
is_played_on street (Dealt on seat cards) = on == street
is_played_on street (Boarded on cards) = on == street
is_played_on street (Moved move) = move.street == street
is_played_on street (Discarded on seat cards) = on == street
is_played_on street (Shown on seat cards) = false
is_played_on street (Mucked on seat) = false

-- a seat was live when a street began
abbrev pub is_live_at_start : Past → ℕ → ℕ → Bool
is_live_at_start before street seat = is_live (moves_before street (moves_of before)) seat

-- What is done in a legal past: nothing is due on earlier streets; their betting was closed before
-- the next one began; if no deal or draw is due, each seat that was live when the street began has
-- its cards and has drawn; and a street with events other than shows began with two or more live
-- seats.
pub record DoneLaw (setup : Setup) (before : Past) : Type 0 where
  pub earlier : (street : ℕ) → 1 ≤ street → street < newest_street before
      → IsStreetDone setup before street
  pub closed : (street later : ℕ) → 1 ≤ street → street < later → later ≤ newest_street before
      → IsBettingClosed setup (moves_before later (moves_of before)) street
  pub dealt_most : (street seat : ℕ) → has_draw setup.code street ≡ false
      → hole_cards_dealt before street seat ≤ hole_cards_on setup.code street
  pub board_most : (street : ℕ) → board_cards_dealt before street ≤ board_cards_on setup.code street
  pub dealt : (street seat : ℕ) → 1 ≤ street → 1 ≤ seat → seat ≤ setup.stacks.seats
      → is_deal_due setup before street ≡ false → is_live_at_start before street seat ≡ true
      → hole_cards_on setup.code street ≤ hole_cards_dealt before street seat
  pub drawn : (street seat : ℕ) → 1 ≤ street → 1 ≤ seat → seat ≤ setup.stacks.seats
      → has_draw setup.code street ≡ true → is_draw_due setup before street ≡ false
      → is_live_at_start before street seat ≡ true → has_drawn before street seat ≡ true
  pub several : (street : ℕ) → list_any (is_played_on street) before ≡ true
      → nat_le (live_count setup (moves_before street (moves_of before))) 1 ≡ false
