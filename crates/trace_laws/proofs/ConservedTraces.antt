-- If the shares of each pot and its rake are its chips, no chip of a whole trace is made or lost.
use Rattle.std.proofs.Common.{◌≡◌, ℕ, zero, suc, ◌+◌, ◌-◌, List, [], ◌∷◌, length, reverse, sum_by, ap, arith}
use Rattle.std.specs.List.{range_with_len}
use Rattle.std.proofs.lemmas.List.{length-map}
use Rattle.std.proofs.lemmas.List.Sums.{sum_by-cons}
use Rattle.card_set.proofs.Sums.{sum_by-map}
use Rattle.chip_ledger.specs.declared.rakes.RakeRow.{RakeRow}
use Rattle.chip_ledger.specs.declared.seat_row.SeatRow.{SeatRow}
use Rattle.chip_ledger.specs.PotRow.{plain, plain_pots, pots_in, shared_in, shares_in}
use Rattle.chip_ledger.specs.Pots.{PlainPot}
use Rattle.chip_ledger.specs.RakeRow.{rake_of}
use Rattle.chip_ledger.specs.Rakes.{chips_in}
use Rattle.chip_ledger.specs.SeatRow.{total_of}
use Rattle.play_event.specs.PlayedScript.{IsPlayed}
use Rattle.hand_canon.specs.WholeTrace.{IsTraceOf}
use Rattle.hand_canon.specs.declared.trace.Trace.{Trace}
use Rattle.play_event.specs.declared.setup.Rules.{Rules}
use Rattle.play_event.specs.declared.setup.Setup.{Setup}
use Rattle.play_event.specs.Said.{Said}
use Rattle.play_event.specs.Scripts.{past_at_end}
use Rattle.play_event.specs.ValidSetup.{IsValid}
use Rattle.trace_laws.specs.Conserved.{IsConserved}
use Rattle.trace_laws.proofs.ShareBounds.{pot_at, share_at}
use Rattle.trace_laws.proofs.TraceChips.{pots_and_returns}
use Rattle.trace_laws.proofs.TraceStacks.{stacks_and_shares}

-- the shares of the pots from this number on and their rakes are these pots
whole_sums : (rakes : RakeRow) (first : ℕ) (pots : List PlainPot) (rows : List SeatRow)
    → ((k : ℕ) → share_at rows k + rake_of rakes (first + k) ≡ pot_at pots k)
    → sum_by total_of rows + sum_by (rake_of rakes) (range_with_len first (length pots)) ≡ sum_by (λ (p : PlainPot). p.chips) pots
whole_sums rakes first [] [] each = omega arith
whole_sums rakes first [] (row ∷ rows) each =
    omega (
      arith,
      each zero,
      sum_by-cons total_of row rows,
      whole_sums rakes (first + 1) [] rows (λ k.
          let later : first + suc k ≡ first + 1 + k = omega arith in
          omega (arith, each (suc k), ap (rake_of rakes) later)),
    )
whole_sums rakes first (pot ∷ pots) [] each =
    let here : first + 0 ≡ first = omega arith in
    omega (
      arith,
      each zero,
      ap (rake_of rakes) here,
      sum_by-cons (λ (p : PlainPot). p.chips) pot pots,
      sum_by-cons (rake_of rakes) first (range_with_len (first + 1) (length pots)),
      whole_sums rakes (first + 1) pots [] (λ k.
          let later : first + suc k ≡ first + 1 + k = omega arith in
          omega (arith, each (suc k), ap (rake_of rakes) later)),
    )
whole_sums rakes first (pot ∷ pots) (row ∷ rows) each =
    let here : first + 0 ≡ first = omega arith in
    omega (
      arith,
      each zero,
      ap (rake_of rakes) here,
      sum_by-cons total_of row rows,
      sum_by-cons (λ (p : PlainPot). p.chips) pot pots,
      sum_by-cons (rake_of rakes) first (range_with_len (first + 1) (length pots)),
      whole_sums rakes (first + 1) pots rows (λ k.
          let later : first + suc k ≡ first + 1 + k = omega arith in
          omega (arith, each (suc k), ap (rake_of rakes) later)),
    )

-- if the shares of each pot and its rake are its chips, the chips of a trace are those of its past
pub conserved : (setup : Setup) (rules : Rules) (script : List Said) (trace : Trace) → IsValid setup → IsPlayed setup rules script → IsTraceOf setup (past_at_end setup script) trace
    → ((number : ℕ) → shared_in trace.shares number + rake_of setup.rakes number ≡ chips_in (plain_pots trace.pots) number)
    → IsConserved setup (past_at_end setup script) trace
conserved setup rules script trace valid played is shared =
    let each : (k : ℕ) → share_at (shares_in trace.shares) k + rake_of setup.rakes (1 + k) ≡ pot_at (plain_pots trace.pots) k = λ k.
    let at : 1 + k - 1 ≡ k = omega arith in
    omega (
      arith,
      shared (1 + k),
      ap (share_at (shares_in trace.shares)) at,
      ap (pot_at (plain_pots trace.pots)) at,
    ) in
    record {
      pots = pots_and_returns setup (past_at_end setup script) trace is;
      shares = shared;
      stacks = omega (
        arith,
        stacks_and_shares setup rules (reverse script) trace valid played.legal is,
        whole_sums setup.rakes 1 (plain_pots trace.pots) (shares_in trace.shares) each,
        sum_by-map (λ (p : PlainPot). p.chips) plain (pots_in trace.pots),
        ap (λ n. sum_by (rake_of setup.rakes) (range_with_len 1 n)) (length-map (pots_in trace.pots) plain),
      );
    }
