-- Which facts of the play of a hand the logs of a game can write.
use Rattle.std.specs.Prelude.{ℕ, ◌-◌, ◌==◌, ◌&&◌, Bool, false, not, nat_lt, List, [], ◌∷◌, count_by, slice_index, Option, Some, None}
use Rattle.std.specs.List.{list_any}
use Rattle.card_set.specs.Known.{hides_card}
use Rattle.chip_ledger.specs.Greatest.{greatest}
use Rattle.chip_ledger.specs.LiveRow.{flag_of}
use Rattle.chip_ledger.specs.PotRow.{shares_in}
use Rattle.chip_ledger.specs.Seat.{seats_of}
use Rattle.chip_ledger.specs.declared.live_row.LiveRow.{LiveRow}
use Rattle.chip_ledger.specs.declared.seat_row.SeatRow.{SeatRow}
use Rattle.play_event.specs.CanonScript.{dealt_slots}
use Rattle.canon_laws.specs.OtherRules as other_rules
use Rattle.play_event.specs.Past.{is_raising}
use Rattle.play_event.specs.Played.{act_said, move_said}
use Rattle.play_event.specs.Trace.{TracedPlace}
use Rattle.play_event.specs.declared.played.Move.{Move}
use Rattle.hand_canon.specs.TraceRows.{core_said}
use Rattle.hand_canon.specs.declared.trace.Trace.{Trace}
use Rattle.hand_canon.specs.declared.writing.Unspelled.{Unspelled}
use Rattle.hand_canon.specs.declared.writing.Unspelled.TheVariants as facts
use Rattle.acpc_game.specs.declared.game.Game.{Game}
use Rattle.chip_ledger.specs.SeatRow.{amounts_in}

-- a seat folds when it owes nothing
abbrev pub is_free_fold : Move → Bool
is_free_fold move = other_rules.is_free_fold (move_said move)

-- a move is a raise on a street
abbrev pub is_raise_on : ℕ → Move → Bool
is_raise_on street move = is_raising (act_said move.act) && move.street == street

-- a street has more raises than the cap allows
abbrev pub is_above_cap : List ℕ → List Move → ℕ → Bool
is_above_cap caps moves street =
    nat_lt (slice_index caps (street - 1)) (count_by (is_raise_on street) moves)

-- one of the four streets has more raises than its cap, if there are caps
abbrev pub is_above_caps : Option (List ℕ) → List Move → Bool
is_above_caps None moves = false
is_above_caps (Some caps) moves = list_any (is_above_cap caps moves) (1 ∷ 2 ∷ 3 ∷ 4 ∷ [])

-- a raise is not by the unit of the limit game
abbrev pub is_off_unit : Move → Bool
is_off_unit move = is_raising (act_said move.act) && not (move.to == move.unit_to)

-- a hole card of a seat is unknown
abbrev pub has_unknown_hole_card : List TracedPlace → ℕ → Bool
has_unknown_hole_card placed seat = list_any hides_card (dealt_slots placed (Some seat) 1)

-- a hole card of a seat is known
abbrev pub has_known_card : List TracedPlace → ℕ → Bool
has_known_card placed seat =
    list_any (λ slot. not (hides_card slot)) (dealt_slots placed (Some seat) 1)

-- one hole card of a seat is known and another is not
abbrev pub is_part_known : List TracedPlace → ℕ → Bool
is_part_known placed seat = has_unknown_hole_card placed seat && has_known_card placed seat

-- a seat mucked, but its hole cards are known
abbrev pub is_open_muck : List TracedPlace → LiveRow → ℕ → Bool
is_open_muck placed mucked seat = flag_of mucked seat && not (has_unknown_hole_card placed seat)

-- one seat gets less of a pot than another that shares it
abbrev pub is_uneven : SeatRow → Bool
is_uneven share =
    list_any (λ chips. nat_lt 0 chips && nat_lt chips (greatest (amounts_in share)))
    (amounts_in share)

-- each case in which a game's logs cannot write a play, with the fact that is reported, in the
-- order in which they are checked
abbrev pub play_conditions : Game → Trace → List (Bool × Unspelled)
play_conditions game trace =
    (list_any is_free_fold trace.moves, facts.FreeFold)
    ∷ (is_above_caps game.caps trace.moves, facts.TooManyRaises)
    ∷ (not game.no_limit && list_any is_off_unit trace.moves, facts.RaiseTarget)
    ∷ (
      list_any (is_part_known (core_said trace).places) (seats_of trace.setup.stacks.seats),
      facts.PartCards,
    )
    ∷ (
      list_any (is_open_muck (core_said trace).places trace.mucked)
          (seats_of trace.setup.stacks.seats),
      facts.Muck,
    )
    ∷ (list_any is_uneven (shares_in trace.shares), facts.OddChip)
    ∷ []
