-- What is left after the returns is cut into the pots of the rule, and these keep all chips.
use Rattle.std.proofs.Common.{◌≡◌, ℕ, ◌<◌, Bool, true, List, get_or, filter, nat_lt, sym, ap, ◌∙◌, arith}
use Rattle.std.specs.List.{All}
use Rattle.std.proofs.lemmas.Bool.{ltb-true}
use Rattle.std.proofs.lemmas.List.Elements.{All-weaker, filter_passes}
use Rattle.std.proofs.lemmas.List.Sums.{get_or-le-sum_by}
use Rattle.card_set.proofs.Sums.{sum_by-map}
use Rattle.chip_ledger.specs.declared.pots.Pot.{Pot}
use Rattle.chip_ledger.specs.SeatRow.{total_of}
use Rattle.chip_ledger.specs.PotRow.{plain, pots_in, stakes_of}
use Rattle.chip_ledger.specs.Pots.{PlainPot, Stake, after_return, levels, pots_at, pots_of, with_chips}
use Rattle.chip_ledger.proofs.PlainPots.{All-plain, AllPairs-plain, flag-from_may_win, may_win-from_flag}
use Rattle.chip_ledger.proofs.PotSeats.{IsWinnable, Nests, pots_nested, pots_winnable}
use Rattle.chip_ledger.proofs.PotSums.{pot_chips, pots_sum}
use Rattle.chip_ledger.proofs.StakeRows.{live_stake, returned-total, stake_chips-stakes_of, stakes_of-after_return}
use Rattle.side_pots.proofs.pots.Goals as goal

after_cut : (stakes left : List Stake) (dead : ℕ)
    → left ≡ after_return stakes
    → with_chips (pots_at left dead (levels left)) ≡ pots_of stakes dead
unfolding pots_of
after_cut stakes left dead e = ap (λ ss. with_chips (pots_at ss dead (levels ss))) e

exact : goal.returns-clause-pots
exact c =
    let puts = c.args.puts.now in
    let live = c.args.live.now in
    let left = c.left_row-left in
    let back = c.returned_row-returned in
    c.cut.ensures.pots
    ∙ after_cut (stakes_of puts live) (stakes_of left.result live) c.args.dead
    (stakes_of-after_return puts back.result left.result live left.ensures.seats back.ensures.amounts left.ensures.amounts)

pub returns-clause-pots : goal.returns-clause-pots
returns-clause-pots c = exact c

conserved : goal.returns-clause-conserved
conserved c =
    let puts = c.args.puts.now in
    let live = c.args.live.now in
    let back = c.returned_row-returned in
    let rule = pots_sum (stakes_of puts live) c.args.dead in
    let returned = returned-total puts back.result live back.ensures.seats back.ensures.amounts in
    let put = stake_chips-stakes_of puts live in
    let pots =
    sym (sum_by-map (λ (p : PlainPot). p.chips) plain (pots_in c.cut.result))
    ∙ ap pot_chips (exact c) in
    let kept = ap total_of c.cut.ensures.returned in
    omega arith

pub returns-clause-conserved : goal.returns-clause-conserved
returns-clause-conserved c = conserved c

pots_have_chips : (stakes : List Stake) (dead : ℕ) → All (λ p. 0 < p.chips) (pots_of stakes dead)
unfolding pots_of
pots_have_chips stakes dead =
    let some : PlainPot → Bool = λ p. nat_lt 0 p.chips in
    let all = pots_at (after_return stakes) dead (levels (after_return stakes)) in
    All-weaker (λ p. some p ≡ true) (λ p. 0 < p.chips) (λ p. ltb-true 0 p.chips) (filter some all)
    (filter_passes some all)

pub returns-clause-each_has_chips : goal.returns-clause-each_has_chips
returns-clause-each_has_chips c =
    let stakes = stakes_of c.args.puts.now c.args.live.now in
    All-plain (λ p. 0 < p.chips) (pots_in c.cut.result) (pots_of stakes c.args.dead) (exact c)
    (pots_have_chips stakes c.args.dead)

pub returns-clause-each_is_bounded : goal.returns-clause-each_is_bounded
returns-clause-each_is_bounded c k d inside =
    let part = get_or-le-sum_by (λ (p : Pot). p.chips) (pots_in c.cut.result) k d inside in
    let all = conserved c in
    let most = c.requires.bounded in
    omega arith

pub returns-clause-each_has_a_seat : goal.returns-clause-each_has_a_seat
returns-clause-each_has_a_seat c =
    let puts = c.args.puts.now in
    let live = c.args.live.now in
    All-plain IsWinnable (pots_in c.cut.result) (pots_of (stakes_of puts live) c.args.dead) (exact c)
    (pots_winnable (stakes_of puts live) c.args.dead (live_stake puts live c.requires.seats c.requires.live))

pub returns-clause-nested : goal.returns-clause-nested
returns-clause-nested c i j d before inside n low high =
    let stakes = stakes_of c.args.puts.now c.args.live.now in
    let pots = pots_in c.cut.result in
    let nest =
    AllPairs-plain Nests pots (pots_of stakes c.args.dead) (exact c) (pots_nested stakes c.args.dead) i j
    d before inside in
    flag-from_may_win (get_or pots i d) n (nest n (may_win-from_flag (get_or pots j d) n low high))
