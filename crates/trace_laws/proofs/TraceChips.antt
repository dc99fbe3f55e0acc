-- The pots of a whole trace and what is returned are all chips that were put in.
use Rattle.std.proofs.Common.{◌≡◌, ◌+◌, List, map, sum, sum_by, sym, ap, ◌∙◌, arith}
use Rattle.std.proofs.lemmas.List.Sums.{sum-map}
use Rattle.card_set.proofs.Sums.{sum_by-map}
use Rattle.chip_ledger.specs.declared.pots.Pot.{Pot}
use Rattle.chip_ledger.specs.PotRow.{plain, pots_in}
use Rattle.chip_ledger.specs.Pots.{PlainPot, returned}
use Rattle.chip_ledger.specs.Seat.{seats_of}
use Rattle.chip_ledger.specs.SeatRow.{amount_of, total_of}
use Rattle.chip_ledger.proofs.PotSums.{pot_chips, pots_sum}
use Rattle.play_event.specs.declared.setup.Setup.{Setup}
use Rattle.play_event.specs.Past.{Move, Past, moves_of}
use Rattle.play_event.specs.CurrentBet.{all_chips_put}
use Rattle.play_event.specs.Seats.{all_seats}
use Rattle.play_event.specs.Stakes.{dead_antes_of, pots_after, returned_after, stake_after, stakes_after}
use Rattle.hand_canon.specs.declared.trace.Trace.{Trace}
use Rattle.hand_canon.specs.WholeTrace.{IsTraceOf}
use Rattle.play_event.proofs.StakeLaws.{all_counted}

-- the pots and the returns of the rules
rules_keep : (setup : Setup) (moves : List Move) → pot_chips (pots_after setup moves) + sum_by (returned_after setup moves) (all_seats setup) ≡ all_chips_put setup moves
rules_keep setup moves =
    omega (
      arith,
      pots_sum (stakes_after setup moves) (dead_antes_of setup),
      all_counted setup moves,
      sum_by-map (returned (stakes_after setup moves)) (stake_after setup moves) (all_seats setup),
    )

-- what the trace has as returned
pub returned_total : (setup : Setup) (past : Past) (trace : Trace) → IsTraceOf setup past trace → total_of trace.pots.returned ≡ sum_by (returned_after setup (moves_of past)) (all_seats setup)
returned_total setup past trace is =
    let seats : map (amount_of trace.pots.returned) (all_seats setup) ≡ map (returned_after setup (moves_of past)) (all_seats setup) =
    ap (λ (s : Setup). map (amount_of trace.pots.returned) (all_seats s)) (sym is.same_setup) ∙ ap (λ said. said.returned) is.core in
    ap (λ n. sum_by (amount_of trace.pots.returned) (seats_of n)) is.seats.returned
    ∙ sym (sum-map (amount_of trace.pots.returned) (all_seats setup))
    ∙ ap sum seats
    ∙ sum-map (returned_after setup (moves_of past)) (all_seats setup)

-- and of the pots
pub pots_total : (setup : Setup) (past : Past) (trace : Trace) → IsTraceOf setup past trace → sum_by (λ (pot : Pot). pot.chips) (pots_in trace.pots) ≡ pot_chips (pots_after setup (moves_of past))
pots_total setup past trace is =
    sym (sum_by-map (λ (pot : PlainPot). pot.chips) plain (pots_in trace.pots)) ∙ ap (λ said. pot_chips said.pots) is.core

pub pots_and_returns : (setup : Setup) (past : Past) (trace : Trace) → IsTraceOf setup past trace
    → sum_by (λ (pot : Pot). pot.chips) (pots_in trace.pots) + total_of trace.pots.returned ≡ all_chips_put setup (moves_of past)
pots_and_returns setup past trace is =
    omega (arith, returned_total setup past trace is, pots_total setup past trace is, rules_keep setup (moves_of past))
