-- Each turn cuts the pot of the next level.
use Rattle.std.proofs.Common.{◌≡◌, ◌+◌, ◌++◌, None, slice_get, length, map, refl, sym, ap, ◌∙◌, arith}
use Rattle.chip_ledger.specs.declared.pots.Pot.{Pot}
use Rattle.chip_ledger.specs.PotRow.{plain, pots_in, stakes_of}
use Rattle.chip_ledger.specs.Pots.{between, joining, layers, with_chips, with_dead}
use Rattle.side_pots.specs.Levels.{levels_above}
use Rattle.side_pots.proofs.Cutting.{All-added, cut_end, cut_step, left_to_cut, length-levels_above, levels_above-zero, levels_from_next, plain_pot}
use Rattle.side_pots.proofs.cut.add_layers.Goals as goal

pub loop-level-init : goal.loop-level-init
loop-level-init c =
    let short = length-levels_above c.args.stakes.now.chips.now c.args.stakes.now.live.now in
    let room = c.requires.room in
    record {
      cut = refl;
      room = omega arith;
      seats = λ h. h;
      returned = refl;
      bounded = c.requires.bounded;
    }

pub loop-level-smaller : goal.loop-level-smaller
loop-level-smaller c =
    let stakes = stakes_of c.args.stakes.now.chips.now c.args.stakes.now.live.now in
    let shorter =
    ap length (levels_from_next stakes c.loop-level.below c.in-Some.level (sym c.in-Some.ensures)) in
    omega arith

pub loop-level-preserved : goal.loop-level-preserved
loop-level-preserved c =
    let left = c.args.stakes.now.chips.now in
    let live = c.args.stakes.now.live.now in
    let stakes = stakes_of left live in
    let below = c.loop-level.below in
    let level = c.in-Some.level in
    let dead = c.loop-level.unplaced in
    let eligible = c.reaching_row-eligible in
    let next = sym c.in-Some.ensures in
    let shorter = ap length (levels_from_next stakes below level next) in
    let count = c.add_pot.ensures.count in
    let room = c.loop-level.invariant.room in
    let pot : Pot = record { chips = c.layer_chips.result + dead; eligible = eligible.result } in
    let is =
    plain_pot left live eligible.result level (c.layer_chips.result + dead)
    (between stakes below level + joining stakes level (levels_above stakes level) + dead)
    (ap (λ n. n + dead) c.layer_chips.ensures.sum) eligible.ensures.seats eligible.ensures.flags in
    record {
      cut =
          cut_step stakes below level dead (pots_in c.loop-level.row) (pots_in c.add_pot.new.row) pot
          (map plain (pots_in c.args.row.now) ++ left_to_cut stakes 0 c.args.dead) next is
          c.add_pot.ensures.pots c.loop-level.invariant.cut;
      room = omega arith;
      seats =
          λ h. All-added (λ p. p.eligible.seats ≡ left.seats) (pots_in c.loop-level.row)
          (pots_in c.add_pot.new.row) pot c.add_pot.ensures.pots (c.loop-level.invariant.seats h)
          eligible.ensures.seats;
      returned = c.add_pot.ensures.returned ∙ c.loop-level.invariant.returned;
      bounded = omega arith;
    }

pub returns-clause-pots : goal.returns-clause-pots
returns-clause-pots c =
    let stakes = stakes_of c.args.stakes.now.chips.now c.args.stakes.now.live.now in
    let before = map plain (pots_in c.args.row.now) in
    let last : slice_get (levels_above stakes c.loop-level.below) 0 ≡ None =
    sym c.next_level.ensures
    ∙ c.in_default.is in
    let all =
    cut_end stakes c.loop-level.below c.loop-level.unplaced (map plain (pots_in c.loop-level.row))
    (before ++ left_to_cut stakes 0 c.args.dead) last c.loop-level.invariant.cut in
    all
    ∙ ap (λ xs. before ++ with_chips (with_dead c.args.dead (layers stakes 0 xs))) (levels_above-zero stakes)
