-- No chip is made or lost in a hand.
use Rattle.std.specs.Prelude.{◌≡◌, ℕ, ◌+◌, length, sum_by}
use Rattle.std.specs.List.{range_with_len}
use Rattle.chip_ledger.specs.declared.pots.Pot.{Pot}
use Rattle.chip_ledger.specs.PotRow.{plain_pots, pots_in, shared_in}
use Rattle.chip_ledger.specs.RakeRow.{rake_of}
use Rattle.chip_ledger.specs.Rakes.{chips_in}
use Rattle.chip_ledger.specs.SeatRow.{total_of}
use Rattle.hand_canon.specs.declared.trace.Trace.{Trace}
use Rattle.play_event.specs.declared.setup.Setup.{Setup}
use Rattle.play_event.specs.Past.{Past, moves_of}
use Rattle.play_event.specs.CurrentBet.{all_chips_put}

-- the rakes of all pots of a trace, together
abbrev pub rakes_taken : Setup → Trace → ℕ
rakes_taken setup trace =
    sum_by (rake_of setup.rakes) (range_with_len 1 (length (pots_in trace.pots)))

-- The chips of a trace are those of its past.
pub record IsConserved (setup : Setup) (past : Past) (trace : Trace) : Type 0 where
  -- the pots, before rakes, and what is returned are together all chips that the seats put in
  pub pots : sum_by (λ (pot : Pot). pot.chips) (pots_in trace.pots)
      + total_of trace.pots.returned ≡ all_chips_put setup (moves_of past)
  -- the shares of each pot and its rake are together its chips; past the last pot there is neither
  -- share nor rake
  pub shares : (number : ℕ)
      → shared_in trace.shares number + rake_of setup.rakes number
      ≡ chips_in (plain_pots trace.pots) number
  -- the finishing stacks and all rakes are together the starting stacks
  pub stacks : total_of trace.finish + rakes_taken setup trace ≡ total_of setup.stacks
