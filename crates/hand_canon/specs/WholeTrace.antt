-- The whole trace of a past: what it keeps, the shares of its pots, and what each seat ends with.
use Rattle.std.specs.Prelude.{◌≡◌, ℕ, ◌≤◌, List, All}
use Rattle.chip_ledger.specs.declared.pots.Pot.{Pot}
use Rattle.chip_ledger.specs.declared.seat_row.SeatRow.{SeatRow}
use Rattle.chip_ledger.specs.Rakes.{nets_of}
use Rattle.chip_ledger.specs.PotRow.{pots_in, shares_in, plain_shares}
use Rattle.chip_ledger.specs.SeatRow.{amount_of}
use Rattle.play_event.specs.declared.setup.Setup.{Setup}
use Rattle.play_event.specs.Past.{Past}
use Rattle.play_event.specs.Stakes.{finishing_stack}
use Rattle.variant_table.specs.Shares.{AllShared}
use Rattle.hand_canon.specs.declared.trace.Trace.{Trace}
use Rattle.play_event.specs.TraceCore.{TraceCore, core_of}
use Rattle.play_event.specs.CanonScript.{plain_moves}
use Rattle.hand_canon.specs.TraceRows.{core_said}
use Rattle.hand_canon.specs.LegalHand.{showdown_in}

-- each row of a trace is of this number of seats
pub record HasSeats (seats : ℕ) (trace : Trace) : Type 0 where
  pub shown : trace.shown.seats ≡ seats
  pub mucked : trace.mucked.seats ≡ seats
  pub eligible : All (λ (pot : Pot). pot.eligible.seats ≡ seats) (pots_in trace.pots)
  pub returned : trace.pots.returned.seats ≡ seats
  pub shares : All (λ (share : SeatRow). share.seats ≡ seats) (shares_in trace.shares)
  pub finish : trace.finish.seats ≡ seats

-- what each seat gets of each pot after its rake, and what it ends with
pub record HasShares (setup : Setup) (trace : TraceCore) (shares : List (ℕ → ℕ)) (finish : ℕ → ℕ) :
    Type 0 where
  pub shared :
      AllShared setup.code (showdown_in setup trace) (nets_of setup.rakes trace.pots) shares
  pub finishes : (seat : ℕ) → 1 ≤ seat → seat ≤ setup.stacks.seats
      → finish seat ≡ finishing_stack setup (plain_moves trace.moves) shares seat

-- A trace is that of a past: it keeps what the past says, each pot minus its rake is shared as the
-- rules share it, and each seat ends with the chips that it has left, those returned to it, and its
-- shares.
pub record IsTraceOf (setup : Setup) (past : Past) (trace : Trace) : Type 0 where
  pub same_setup : trace.setup ≡ setup
  pub seats : HasSeats setup.stacks.seats trace
  pub core : core_said trace ≡ core_of setup past
  pub shares :
      HasShares setup (core_of setup past) (plain_shares trace.shares) (amount_of trace.finish)
