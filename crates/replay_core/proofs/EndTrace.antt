-- Rows that agree with the past, field by field, are its trace.
use Rattle.std.proofs.Common.{◌≡◌, ℕ, suc, ◌+◌, ◌≤◌, List, [], ◌∷◌, All, length, map, sum_by, sym, ap, ◌∙◌, arith}
use Rattle.std.proofs.lemmas.List.{length-map}
use Rattle.chip_ledger.specs.declared.pots.Pot.{Pot}
use Rattle.chip_ledger.specs.declared.rakes.RakeRow.{RakeRow}
use Rattle.chip_ledger.specs.declared.seat_row.SeatRow.{SeatRow}
use Rattle.chip_ledger.specs.PotRow.{plain}
use Rattle.chip_ledger.specs.Pots.{PlainPot}
use Rattle.chip_ledger.specs.Rakes.{nets_from}
use Rattle.chip_ledger.specs.SeatRow.{amount_of}
use Rattle.canon_laws.proofs.SameCore.{plain_again}
use Rattle.play_event.specs.CanonScript.{plain_moves}
use Rattle.play_event.specs.PlayedScript.{IsWithinLimits, is_move_event}
use Rattle.play_event.specs.TraceCore.{TraceCore, core_of}
use Rattle.card_set.proofs.Sums.{sum_by-map}
use Rattle.play_event.specs.declared.event.Event.{Event}
use Rattle.play_event.specs.declared.setup.Setup.{Setup}
use Rattle.play_event.specs.Chips.{chips_left}
use Rattle.play_event.specs.Past.{Past, Move, moves_of}
use Rattle.play_event.specs.Said.{said_of}
use Rattle.play_event.specs.Stakes.{finishing_stack, returned_after}
use Rattle.play_event.specs.Trace.{TracedMove, TracedPlace}
use Rattle.showdown_split.proofs.Flagged.{flagged_inside}
use Rattle.replay_core.specs.Events.{said_by}
use Rattle.replay_core.proofs.SameShowdown.{AreOfSeats}
use Rattle.card_set.proofs.Counting.{count_both}

-- cores are equal if their fields are
pub same_core : (a b : TraceCore) → a.places ≡ b.places → a.moves ≡ b.moves → a.shown ≡ b.shown → a.mucked ≡ b.mucked → a.pots ≡ b.pots → a.returned ≡ b.returned → a ≡ b
same_core a b places moves shown mucked pots returned =
    ap {B = TraceCore} (λ (x : List TracedPlace). record { places = x; moves = a.moves; shown = a.shown; mucked = a.mucked; pots = a.pots; returned = a.returned }) places
    ∙ ap {B = TraceCore} (λ (x : List TracedMove). record { places = b.places; moves = x; shown = a.shown; mucked = a.mucked; pots = a.pots; returned = a.returned }) moves
    ∙ ap {B = TraceCore} (λ (x : List ℕ). record { places = b.places; moves = b.moves; shown = x; mucked = a.mucked; pots = a.pots; returned = a.returned }) shown
    ∙ ap {B = TraceCore} (λ (x : List ℕ). record { places = b.places; moves = b.moves; shown = b.shown; mucked = x; pots = a.pots; returned = a.returned }) mucked
    ∙ ap {B = TraceCore} (λ (x : List PlainPot). record { places = b.places; moves = b.moves; shown = b.shown; mucked = b.mucked; pots = x; returned = a.returned }) pots
    ∙ ap {B = TraceCore} (λ (x : List ℕ). record { places = b.places; moves = b.moves; shown = b.shown; mucked = b.mucked; pots = b.pots; returned = x }) returned

-- who may win a pot of a row is a seat of the hand
pub pots_of_seats : (pots : List Pot) (seats : ℕ) → All (λ (pot : Pot). pot.eligible.seats ≡ seats) pots → AreOfSeats seats (map plain pots)
pots_of_seats [] seats same = tt
pots_of_seats (pot ∷ pots) seats same = (
  λ n may. let range = flagged_inside pot.eligible n may in (range.0, omega (arith, range.1, same 0 pot (omega arith))),
  pots_of_seats pots seats (λ k d within. same (suc k) d (omega (arith, within))),
)

-- and so it is of its net
pub nets_of_seats : (number : ℕ) (rakes : RakeRow) (pots : List PlainPot) (seats : ℕ) → AreOfSeats seats pots → AreOfSeats seats (nets_from number rakes pots)
nets_of_seats number rakes [] seats inside = tt
nets_of_seats number rakes (pot ∷ pots) seats inside = (inside.0, nets_of_seats (suc number) rakes pots seats inside.1)

-- what a player finishes with
pub finish_is : (setup : Setup) (past : Past) (rows : List SeatRow) (left returned finish seat : ℕ) → left ≡ chips_left setup (moves_of past) seat → returned ≡ returned_after setup (moves_of past) seat → finish ≡ left + (returned + sum_by (λ row. amount_of row seat) rows)
    → finish ≡ finishing_stack setup (plain_moves (core_of setup past).moves) (map amount_of rows) seat
finish_is setup past rows left returned finish seat left_is returned_is is =
    is
    ∙ omega (arith, left_is, returned_is, sum_by-map (λ (share : ℕ → ℕ). share seat) amount_of rows)
    ∙ ap (λ (moves : List Move). finishing_stack setup moves (map amount_of rows) seat) (sym (plain_again setup (moves_of past)))

pub few_events : (script : List Event) → IsWithinLimits (said_by script) → length script ≤ 4352
few_events script within = omega (arith, count_both is_move_event (said_by script), length-map script said_of, within.moves, within.others)
