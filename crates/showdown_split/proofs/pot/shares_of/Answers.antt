-- A pot that one seat may win is all its own, and one that several may win goes to those that are
-- shown.
use Rattle.std.proofs.Common.{◌≡◌, ◌≤◌, ◌*◌, ◌&&◌, ℕ, Bool, not, nat_le, length, if◌then◌else◌, sum_by, sym, ◌∙◌, ap, subst, arith, inl, inr}
use Rattle.std.specs.List.{list_any}
use Rattle.std.proofs.lemmas.Bool.{and_from, le-leb, true≢false}
use Rattle.std.proofs.Math.Nat.{mul-one}
use Rattle.card_set.proofs.Tests.{and_false}
use Rattle.chip_ledger.specs.LiveRow.{flag_of, flagged}
use Rattle.chip_ledger.specs.PotRow.{plain}
use Rattle.chip_ledger.specs.Seat.{seats_of}
use Rattle.chip_ledger.specs.SeatRow.{amount_of}
use Rattle.chip_ledger.proofs.Seats.{sum-seats}
use Rattle.variant_table.specs.Division.{count_to}
use Rattle.variant_table.specs.Shares.{AreContested, is_contender}
use Rattle.showdown_split.specs.Scores.{points_of}
use Rattle.showdown_split.specs.SeatPoints.{is_flagged, ranking_by, shown_only}
use Rattle.showdown_split.proofs.Compared.{alike_itself, same_contested}
use Rattle.showdown_split.proofs.Flagged.{flagged_both, flagged_inside, is_flagged-flag, length-flagged, none_flagged, several_flagged, some_flagged, some_passes, sum_for_each}
use Rattle.showdown_split.proofs.pot.shares_of.Goals as goal

pub returns-then-flags_to-eq1-clause-shares : goal.returns-then-flags_to-eq1-clause-shares
returns-then-flags_to-eq1-clause-shares c =
    let pot = c.args.pot.now in
    let one : length (flagged pot.eligible) ≡ 1 = omega (arith, length-flagged pot.eligible, c.flags_to.ensures.number, c.if-flags_to-eq1.true) in
    inl (record {
      one = one;
      all = λ n low high.
          c.whole.ensures.amounts n low (omega (arith, high, c.requires.seats))
          ∙ ap (λ (b : Bool). if b then pot.chips else 0) (sym (is_flagged-flag pot.eligible n low));
    })

pub returns-then-flags_to-eq1-clause-total : goal.returns-then-flags_to-eq1-clause-total
returns-then-flags_to-eq1-clause-total c =
    let pot = c.args.pot.now in
    let row = c.whole.result in
    let one : count_to (flag_of pot.eligible) pot.eligible.seats ≡ 1 = omega (arith, c.flags_to.ensures.number, c.if-flags_to-eq1.true) in
    ap (λ (n : ℕ). sum_by (amount_of row) (seats_of n)) c.whole.ensures.seats
    ∙ sum-seats (amount_of row) (λ n. if flag_of pot.eligible n then pot.chips else 0) pot.eligible.seats c.whole.ensures.amounts
    ∙ sum_for_each (flag_of pot.eligible) pot.chips pot.eligible.seats
    ∙ ap (λ (n : ℕ). pot.chips * n) one
    ∙ mul-one pot.chips

pub returns-then-not-any-clause-none : goal.returns-then-not-any-clause-none
returns-then-not-any-clause-none c =
    let pot = c.args.pot.now in
    let shown = c.args.shown.now in
    let test = is_contender (shown_only shown) (plain pot) in
    let rivals = c.contending-rivals in
    let several : 2 ≤ length (flagged pot.eligible) = several_flagged pot.eligible c.requires.some (λ one. c.if-flags_to-eq1.false (c.flags_to.ensures.number ∙ one)) in
    let same = flagged_both rivals.result pot.eligible shown rivals.ensures.seats c.requires.seats rivals.ensures.flags in
    let none = none_flagged rivals.result test (seats_of shown.seats) (λ some. true≢false (sym (c.any.ensures.1 some) ∙ c.if-not-any.true)) same in
    and_from (nat_le 2 (length (flagged pot.eligible))) (not (list_any test (seats_of shown.seats))) (le-leb 2 (length (flagged pot.eligible)) several) (ap not none)

pub returns-clause-shares : goal.returns-clause-shares
returns-clause-shares c =
    let pot = c.args.pot.now in
    let shown = c.args.shown.now in
    let test = is_contender (shown_only shown) (plain pot) in
    let rivals = c.contending-rivals in
    let ranking = ranking_by (points_of c.args.high.now) (points_of c.args.low.now) in
    let same = flagged_both rivals.result pot.eligible shown rivals.ensures.seats c.requires.seats rivals.ensures.flags in
    let several : 2 ≤ length (flagged pot.eligible) = several_flagged pot.eligible c.requires.some (λ one. c.if-flags_to-eq1.false (c.flags_to.ensures.number ∙ one)) in
    let one = some_flagged rivals.result (c.any.ensures.0 c.if-not-any.false) in
    inr (record {
      several = several;
      someone = (one.0, sym (same one.0) ∙ one.1);
      contested =
          same_contested shown.seats (is_flagged rivals.result) test ranking ranking pot.chips (amount_of c.contested.result) same (alike_itself test ranking)
          (subst (λ (n : ℕ). AreContested n (is_flagged rivals.result) ranking pot.chips (amount_of c.contested.result)) rivals.ensures.seats c.contested.ensures.shares);
    })

pub returns-then-flags_to-eq1-clause-some : goal.returns-then-flags_to-eq1-clause-some
returns-then-flags_to-eq1-clause-some c =
    let pot = c.args.pot.now in
    let shown = c.args.shown.now in
    let one : length (flagged pot.eligible) ≡ 1 = omega (arith, length-flagged pot.eligible, c.flags_to.ensures.number, c.if-flags_to-eq1.true) in
    ap (λ (n : ℕ). nat_le 2 n && not (list_any (is_contender (shown_only shown) (plain pot)) (seats_of shown.seats))) one

pub returns-clause-some : goal.returns-clause-some
returns-clause-some c =
    let pot = c.args.pot.now in
    let shown = c.args.shown.now in
    let rivals = c.contending-rivals in
    let test = is_contender (shown_only shown) (plain pot) in
    let same = flagged_both rivals.result pot.eligible shown rivals.ensures.seats c.requires.seats rivals.ensures.flags in
    let one = some_flagged rivals.result (c.any.ensures.0 c.if-not-any.false) in
    let range = flagged_inside rivals.result one.0 one.1 in
    let found = some_passes test shown.seats one.0 range.0 (omega (arith, range.1, rivals.ensures.seats)) (sym (same one.0) ∙ one.1) in
    ap (λ (b : Bool). nat_le 2 (length (flagged pot.eligible)) && not b) found ∙ and_false (nat_le 2 (length (flagged pot.eligible)))
