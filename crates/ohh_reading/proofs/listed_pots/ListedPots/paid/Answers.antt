use Rattle.std.proofs.Common.{◌∙◌, Some, map, take, ap, arith}
use Rattle.chip_ledger.specs.Seat.{seats_of}
use Rattle.ohh_reading.specs.PotSums.{all_of, plain_listed_pot, rakes_said}
use Rattle.ohh_reading.specs.Won.{plain_win, won_by}
use Rattle.ohh_reading.proofs.PaidSame.{paid_same}
use Rattle.ohh_reading.proofs.listed_pots.ListedPots.paid.Goals as goal
use Rattle.card_set.proofs.NumbersOfRange.{taken_from_one}

pub returns-clause-said : goal.returns-clause-said
returns-clause-said c =
    let found = c.args.self.now in
    let wins = map plain_win found.won.list.items in
    paid_same
    (Some (take found.won.sums.seats found.won.sums.amounts)) (Some (map (λ seat. won_by seat wins) (seats_of found.won.sums.seats)))
    (Some found.total) (Some (all_of (map plain_listed_pot found.pots.items)))
    c.rakes_of.result.rakes (rakes_said (map plain_listed_pot found.pots.items))
    (ap Some (taken_from_one (λ seat. won_by seat wins) found.won.sums.amounts found.won.sums.seats (omega (arith, found.won.sums.greatest, found.won.sums.full)) found.won.are_sums))
    (ap Some found.is_total)
    (c.rakes_of.ensures.said ∙ ap (λ pots. rakes_said (map plain_listed_pot pots)) c.deref.ensures.value)
