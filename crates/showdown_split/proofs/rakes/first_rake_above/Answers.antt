-- Each turn looks at one more pot.
use Rattle.std.proofs.Common.{◌≡◌, ◌+◌, ◌-◌, true, false, find, slice_index, sym, ap, ◌∙◌, arith}
use Rattle.std.specs.List.{range_with_len}
use Rattle.std.proofs.lemmas.Bool.{le-ltb, lt-ltb}
use Rattle.card_set.proofs.Ranges.{find_here, find_next}
use Rattle.chip_ledger.specs.PotRow.{plain_pots}
use Rattle.chip_ledger.specs.RakeRow.{rake_of}
use Rattle.chip_ledger.specs.Rakes.{chips_in}
use Rattle.showdown_split.proofs.FirstRake.{at_end, have_rakes, is_above}
use Rattle.showdown_split.proofs.rakes.first_rake_above.Goals as goal

pub returns-then-chips_at-rakes-clause-first : goal.returns-then-chips_at-rakes-clause-first
returns-then-chips_at-rakes-clause-first c =
    let pots = plain_pots c.args.pots.now in
    let rakes = c.args.rakes.now in
    let i = c.loop-index.index in
    let rake : rake_of rakes (i + 1) ≡ slice_index rakes.rakes i = ap (slice_index rakes.rakes) (omega arith) in
    let above : is_above pots rakes (i + 1) ≡ true =
    lt-ltb (chips_in pots (i + 1)) (rake_of rakes (i + 1)) (omega (arith, c.chips_at.ensures, rake, c.if-chips_at-rakes.true)) in
    sym (find_here (is_above pots rakes) (i + 1) (11 - i) (omega (arith, c.loop-index-test.true)) above) ∙ c.loop-index.invariant

pub loop-index-preserved : goal.loop-index-preserved
loop-index-preserved c =
    let pots = plain_pots c.args.pots.now in
    let rakes = c.args.rakes.now in
    let i = c.loop-index.index in
    let rake : rake_of rakes (i + 1) ≡ slice_index rakes.rakes i = ap (slice_index rakes.rakes) (omega arith) in
    let fits : is_above pots rakes (i + 1) ≡ false =
    le-ltb (chips_in pots (i + 1)) (rake_of rakes (i + 1)) (omega (arith, c.chips_at.ensures, rake, c.if-chips_at-rakes.false)) in
    let left : 11 - (i + 1) ≡ 11 - i - 1 = omega arith in
    ap (λ n. find (is_above pots rakes) (range_with_len (i + 1 + 1) n)) left
    ∙ find_next (is_above pots rakes) (i + 1) (11 - i) (omega (arith, c.loop-index-test.true)) fits
    ∙ c.loop-index.invariant

pub returns-clause-none : goal.returns-clause-none
returns-clause-none c =
    let pots = plain_pots c.args.pots.now in
    let rakes = c.args.rakes.now in
    have_rakes pots rakes (sym c.loop-index.invariant ∙ at_end (is_above pots rakes) c.loop-index.index (omega (arith, c.loop-index-test.false)))
