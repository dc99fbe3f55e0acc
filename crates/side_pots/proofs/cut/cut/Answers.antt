-- The three cases of the dead chips.
use Rattle.std.proofs.Common.{◌≡◌, ◌+◌, ◌++◌, ◌∷◌, [], map, refl, sym, ap, ◌∙◌}
use Rattle.chip_ledger.specs.declared.pots.Pot.{Pot}
use Rattle.chip_ledger.specs.PotRow.{plain, pots_in, stakes_of}
use Rattle.chip_ledger.specs.Pots.{layers, levels, with_chips, with_dead}
use Rattle.chip_ledger.proofs.PotSums.{stake_chips}
use Rattle.chip_ledger.proofs.StakeRows.{stake_chips-stakes_of}
use Rattle.side_pots.proofs.Cutting.{plain-added, plain_pot-live, pots_at-apart, pots_at-no_level, pots_at-together}
use Rattle.side_pots.proofs.cut.cut.Goals as goal

pub returns-in_default-clause-pots : goal.returns-in_default-clause-pots
returns-in_default-clause-pots c =
    let left = c.args.stakes.now.chips.now in
    let live = c.args.stakes.now.live.now in
    let stakes = stakes_of left live in
    let pot : Pot = record { chips = c.total.result + c.args.dead; eligible = live } in
    let sum : c.total.result + c.args.dead ≡ stake_chips stakes + c.args.dead =
    ap (λ n. n + c.args.dead) (c.total.ensures.sum ∙ sym (stake_chips-stakes_of left live)) in
    let is =
    plain_pot-live left live (c.total.result + c.args.dead) (stake_chips stakes + c.args.dead) sum
    c.args.stakes.now.seats in
    let rule = pots_at-no_level stakes c.args.dead (sym c.next_level.ensures ∙ c.in_default.is) in
    plain-added (pots_in c.new-row.result) (pots_in c.add_pot.new.row) pot c.add_pot.ensures.pots
    ∙ ap (λ ps. map plain ps ++ with_chips (plain pot ∷ [])) c.new-row.ensures.pots
    ∙ ap (λ p. with_chips (p ∷ [])) is
    ∙ ap with_chips (sym rule)

pub returns-then-every_live_seat_reaches-clause-pots :
    goal.returns-then-every_live_seat_reaches-clause-pots
returns-then-every_live_seat_reaches-clause-pots c =
    let stakes = stakes_of c.args.stakes.now.chips.now c.args.stakes.now.live.now in
    let rule =
    pots_at-together stakes c.args.dead c.in-Some.first (sym c.in-Some.ensures)
    (sym c.every_live_seat_reaches.ensures ∙ c.if-every_live_seat_reaches.true) in
    c.add_layers.ensures.pots
    ∙ ap (λ ps. map plain ps ++ with_chips (with_dead c.args.dead (layers stakes 0 (levels stakes))))
    c.new-row.ensures.pots
    ∙ ap with_chips (sym rule)

pub returns-else-every_live_seat_reaches-clause-pots :
    goal.returns-else-every_live_seat_reaches-clause-pots
returns-else-every_live_seat_reaches-clause-pots c =
    let left = c.args.stakes.now.chips.now in
    let live = c.args.stakes.now.live.now in
    let stakes = stakes_of left live in
    let further = with_chips (with_dead 0 (layers stakes 0 (levels stakes))) in
    let pot : Pot = record { chips = c.args.dead; eligible = live } in
    let is = plain_pot-live left live c.args.dead c.args.dead refl c.args.stakes.now.seats in
    let rule =
    pots_at-apart stakes c.args.dead c.in-Some.first (sym c.in-Some.ensures)
    (sym c.every_live_seat_reaches.ensures ∙ c.if-every_live_seat_reaches.false) in
    let own =
    plain-added (pots_in c.new-row.result) (pots_in c.add_pot-else-every_live_seat_reaches.new.row) pot
    c.add_pot-else-every_live_seat_reaches.ensures.pots
    ∙ ap (λ ps. map plain ps ++ with_chips (plain pot ∷ [])) c.new-row.ensures.pots
    ∙ ap (λ p. with_chips (p ∷ [])) is in
    c.add_layers-else-every_live_seat_reaches.ensures.pots ∙ ap (λ ps. ps ++ further) own ∙ sym rule
