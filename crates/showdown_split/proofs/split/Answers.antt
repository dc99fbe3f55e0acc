-- Each turn shares the net of one more pot, or finds the first without a shown hand.
use Rattle.std.proofs.Common.{◌≡◌, ◌≤◌, ◌+◌, ℕ, true, List, map, take, sym, ◌∙◌, ap, arith}
use Rattle.std.proofs.lemmas.Bool.{and_parts}
use Rattle.std.proofs.lemmas.List.{take_all}
use Rattle.chip_ledger.specs.declared.pots.Pot.{Pot}
use Rattle.chip_ledger.specs.declared.live_row.LiveRow.{LiveRow}
use Rattle.chip_ledger.specs.LiveRow.{flag_of}
use Rattle.chip_ledger.specs.PotRow.{plain, plain_pots, pots_in, shares_in}
use Rattle.chip_ledger.specs.Pots.{PlainPot, may_win}
use Rattle.chip_ledger.specs.Rakes.{nets_of}
use Rattle.chip_ledger.specs.SeatRow.{amount_of}
use Rattle.variant_table.specs.Shares.{is_contender, first_unshown, is_unshown, ranking_of}
use Rattle.showdown_split.specs.Hands.{showdown_of}
use Rattle.showdown_split.specs.Scores.{points_of}
use Rattle.showdown_split.specs.SeatPoints.{ranking_by}
use Rattle.showdown_split.proofs.Compared.{same_shares}
use Rattle.showdown_split.proofs.Flagged.{flagged_inside}
use Rattle.showdown_split.proofs.Nets.{conserved, nets_more, rake_within, totals_more}
use Rattle.showdown_split.proofs.Splitting.{plain_more, seats_next, shared_next, still_shown, unshown_at}
use Rattle.showdown_split.proofs.split.Goals as goal

pub returns-in-None-clause-first_unshown : goal.returns-in-None-clause-first_unshown
returns-in-None-clause-first_unshown g c =
    let showdown = showdown_of c.args.hands.now c.args.board.now c.args.shown.now in
    let unshown = sym (ap (is_unshown showdown) c.net_of-net.ensures.net) ∙ c.in-None.ensures.none in
    unshown_at showdown (pots_in c.args.pots.now) c.loop-pot.pot-index c.pot-item.result c.loop-pot.shares.count c.loop-pot-test.true c.pot-item.is c.loop-pot.invariant.shown unshown
    c.loop-pot.invariant.count

pub loop-pot-preserved : goal.loop-pot-preserved
loop-pot-preserved g c =
    let code = g.V.Variant.CODE in
    let shown = c.args.shown.now in
    let rakes = c.args.rakes.now in
    let showdown = showdown_of c.args.hands.now c.args.board.now shown in
    let items = pots_in c.args.pots.now in
    let i = c.loop-pot.pot-index in
    let pot = c.pot-item.result in
    let net = c.net_of-net.result in
    let row = c.in-Some.row in
    let before = map plain (take i items) in
    let next = plain_more items i pot c.loop-pot-test.true c.pot-item.is in
    let more = nets_more rakes items i c.loop-pot.shares.count pot net c.loop-pot-test.true c.pot-item.is c.loop-pot.invariant.count c.net_of-net.ensures.net in
    let test = is_contender showdown (plain net) in
    let same_seats : net.eligible.seats ≡ shown.seats =
    ap (λ (row : LiveRow). row.seats) c.net_of-net.ensures.eligible
    ∙ ap (λ (p : Pot). p.eligible.seats) c.pot-item.is
    ∙ c.requires.winnable.same_seats i pot c.loop-pot-test.true in
    let inside : (n : ℕ) → test n ≡ true → (1 ≤ n) × (n ≤ shown.seats) × (flag_of shown n ≡ true) =
    λ n contends_for.
    let parts = and_parts (may_win (plain net) n) (flag_of shown n) contends_for in
    let range = flagged_inside net.eligible n parts.0 in
    (range.0, omega (arith, range.1, same_seats), parts.1) in
    let one = same_shares shown.seats test (ranking_by (points_of c.seat_scores.result.0) (points_of c.seat_scores.result.1)) (ranking_of code showdown) (plain net) (amount_of row) (c.seat_scores.ensures test inside) c.in-Some.ensures.shares in
    let pushed = c.push.ensures.shares in
    let rows = shares_in c.loop-pot.shares in
    let new_rows = shares_in c.push.new.self in
    let nets = nets_of rakes before in
    let new_nets = nets_of rakes (map plain (take (i + 1) items)) in
    let is_shown = sym (ap (is_unshown showdown) c.net_of-net.ensures.net) ∙ c.in-Some.ensures.some in
    record {
      count = c.push.ensures.count ∙ ap (λ (n : ℕ). n + 1) c.loop-pot.invariant.count;
      shared = shared_next code showdown nets new_nets rows new_rows (plain net) row more pushed c.loop-pot.invariant.shared one;
      shown = ap (first_unshown showdown) next ∙ still_shown 1 showdown before (plain pot) c.loop-pot.invariant.shown is_shown;
      totals = totals_more rows new_rows row nets new_nets (plain net) pushed more c.in-Some.ensures.total c.loop-pot.invariant.totals;
      seats = seats_next shown.seats rows new_rows row pushed c.loop-pot.invariant.seats c.in-Some.ensures.seats;
    }

pub net_of-net-requires : goal.net_of-net-requires
net_of-net-requires g c =
    rake_within c.args.rakes.now (pots_in c.args.pots.now) c.loop-pot.pot-index c.loop-pot.shares.count c.pot-item.result c.requires.rakes c.loop-pot-test.true c.pot-item.is c.loop-pot.invariant.count

pub returns-clause-conserved : goal.returns-clause-conserved
returns-clause-conserved g c number =
    let rakes = c.args.rakes.now in
    let items = pots_in c.args.pots.now in
    let whole : take c.loop-pot.pot-index items ≡ items = take_all c.loop-pot.pot-index items (omega (arith, c.loop-pot-test.false)) in
    conserved rakes (plain_pots c.args.pots.now) (shares_in c.loop-pot.shares) number c.requires.rakes
    (c.loop-pot.invariant.totals ∙ ap (λ (pots : List Pot). map (λ (p : PlainPot). p.chips) (nets_of rakes (map plain pots))) whole)
