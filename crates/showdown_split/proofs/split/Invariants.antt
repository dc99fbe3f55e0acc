-- The nets of the pots so far have their shares, and none of them is without a shown hand.
use Rattle.std.proofs.Common.{◌≡◌, None, All, map, take}
use Rattle.chip_ledger.specs.PotRow.{plain, plain_shares, shares_in}
use Rattle.chip_ledger.specs.Rakes.{nets_of}
use Rattle.chip_ledger.specs.SeatRow.{total_of}
use Rattle.variant_table.specs.Shares.{AllShared, first_unshown}
use Rattle.showdown_split.specs.Hands.{showdown_of}
use Rattle.showdown_split.proofs.split.Given as goal

abbrev pub invariant-loop-pot : goal.invariant-loop-pot
invariant-loop-pot g l =
    let showdown = showdown_of l.hands l.board l.shown in
    let before = take l.pot-index l.pot-items in
    let nets = nets_of l.rakes (map plain before) in
    record {
      count : l.shares.count ≡ l.pot-index;
      shared : AllShared g.V.Variant.CODE showdown nets (plain_shares l.shares);
      shown : first_unshown showdown (map plain before) ≡ None;
      totals : map total_of (shares_in l.shares) ≡ map (λ pot. pot.chips) nets;
      seats : All (λ row. row.seats ≡ l.shown.seats) (shares_in l.shares);
    }
