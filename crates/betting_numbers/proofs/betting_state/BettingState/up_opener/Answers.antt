-- One more seat is walked, and at the end all are.
use Rattle.std.proofs.Common.{◌≡◌, ◌≤◌, ◌<◌, ◌+◌, ◌-◌, ℕ, Bool, true, false, if◌then◌else◌, Option, Some, IfSome, refl, sym, subst, ◌∙◌, arith}
use Rattle.chip_ledger.specs.declared.numbers.Seat.{Seat}
use Rattle.chip_ledger.specs.SeatsSaid.{seat_said}
use Rattle.play_event.specs.Openers.{in_turn}
use Rattle.betting_numbers.specs.Seen.{first_behind_seen}
use Rattle.betting_numbers.proofs.Behind.{able_above, able_from, behind_found, either_in, nearest_above, nearest_more}
use Rattle.betting_numbers.proofs.Leading.{IsWalked, walked_more, walked_unknown}
use Rattle.betting_numbers.proofs.betting_state.BettingState.up_opener.Goals.{then-opens, else-opens, then-can_act, else-can_act}
use Rattle.betting_numbers.proofs.betting_state.BettingState.up_opener.Goals as goal

pub returns-then-unknown-clause-found : goal.returns-then-unknown-clause-found
returns-then-unknown-clause-found c =
    let b = c.args.self.now in
    let less = c.loop-index-test.true in
    walked_unknown c.args.opener b c.args.up.now (b.setup.stacks.seats - c.loop-index.index) (omega (arith, less)) (omega arith) (sym c.unknown.ensures ∙ c.if-unknown.true)

pub loop-index-preserved : goal.loop-index-preserved
loop-index-preserved c =
    let b = c.args.self.now in
    let n = b.setup.stacks.seats in
    let index = c.loop-index.index in
    let kept = c.loop-index.invariant in
    let next = c.earlier-next in
    let less = c.loop-index-test.true in
    let less_than : index < n = omega (arith, less) in
    let walked : (opens : Bool) → c.opens.result ≡ opens → IsWalked c.args.opener b c.args.up.now (n + 1 - (index + 1)) (index + 1) next.result.number (if opens then Some (n - index) else seat_said c.loop-index.first) = λ opens is.
    walked_more c.args.opener b c.args.up.now n index (n - index) c.loop-index.lead next.result.number (seat_said c.loop-index.first) opens less_than refl kept.walked (sym c.unknown.ensures ∙ c.if-unknown.false) next.ensures.lead next.ensures.other next.ensures.from (omega (arith, next.ensures.within, kept.lead_in)) (sym is ∙ c.opens.ensures) in
    let nearer : (able : Bool) → c.can_act.result ≡ able → (if able then Some (n - index) else seat_said c.loop-index.nearest) ≡ able_from b (n + 1 - (index + 1)) (index + 1) = λ able is.
    nearest_more b index (n - index) (seat_said c.loop-index.nearest) able less_than refl (sym is ∙ c.can_act.ensures) kept.nearest_is in
    let IsIn : Option Seat → Type 0 = λ (f : Option Seat). IfSome f (λ seat. seat.number ≤ n) in
    record {
      walked = elim c.if-opens.branch [
        | then-opens w ↦ subst (λ (f : Option Seat). IsWalked c.args.opener b c.args.up.now (n + 1 - (index + 1)) (index + 1) next.result.number (seat_said f)) (sym w.first-is) (walked true w.if-opens.true)
        | else-opens w ↦ subst (λ (f : Option Seat). IsWalked c.args.opener b c.args.up.now (n + 1 - (index + 1)) (index + 1) next.result.number (seat_said f)) (sym w.first-is) (walked false w.if-opens.false)
      ];
      far = omega (arith, next.ensures.from);
      lead_first = next.result.first;
      lead_in = omega (arith, next.ensures.within, kept.lead_in);
      first_in = elim c.if-opens.branch [
        | then-opens w ↦ subst IsIn (sym w.first-is) (omega arith)
        | else-opens w ↦ subst IsIn (sym w.first-is) kept.first_in
      ];
      nearest_is = elim c.if-can_act.branch [
        | then-can_act w ↦ subst (λ (f : Option Seat). seat_said f ≡ able_from b (n + 1 - (index + 1)) (index + 1)) (sym w.nearest-is) (nearer true w.if-can_act.true)
        | else-can_act w ↦ subst (λ (f : Option Seat). seat_said f ≡ able_from b (n + 1 - (index + 1)) (index + 1)) (sym w.nearest-is) (nearer false w.if-can_act.false)
      ];
      behind_is = elim c.if-opens.branch [
        | then-opens w ↦ subst (λ (f : Option Seat). IfSome f (λ seat. seat_said c.if-opens.behind ≡ able_above b seat.number)) (sym w.first-is)
            (subst (λ (f : Option Seat). seat_said f ≡ able_above b (n - index)) (sym w.behind-is) (nearest_above b index (n - index) (seat_said c.loop-index.nearest) less_than refl kept.nearest_is))
        | else-opens w ↦ subst (λ (f : Option Seat). IfSome f (λ seat. seat_said c.if-opens.behind ≡ able_above b seat.number)) (sym w.first-is)
            (subst (λ (f : Option Seat). IfSome c.loop-index.first (λ seat. seat_said f ≡ able_above b seat.number)) (sym w.behind-is) kept.behind_is)
      ];
      nearest_in = elim c.if-can_act.branch [
        | then-can_act w ↦ subst IsIn (sym w.nearest-is) (omega arith)
        | else-can_act w ↦ subst IsIn (sym w.nearest-is) kept.nearest_in
      ];
      behind_in = elim c.if-opens.branch [
        | then-opens w ↦ subst IsIn (sym w.behind-is) kept.nearest_in
        | else-opens w ↦ subst IsIn (sym w.behind-is) kept.behind_in
      ];
    }

pub returns-clause-behind : goal.returns-clause-behind
returns-clause-behind c =
    let b = c.args.self.now in
    let kept = c.loop-index.invariant in
    let all : c.loop-index.index ≡ b.setup.stacks.seats = omega (arith, c.loop-index.auto.index-end, c.loop-index-test.false) in
    subst (λ (f : Option Seat). IfSome c.loop-index.first (λ seat. in_turn (seat_said f) ≡ first_behind_seen b seat.number)) (sym c.or.ensures)
    (behind_found b c.loop-index.first c.loop-index.behind c.loop-index.nearest kept.first_in kept.behind_is
    (subst (λ (i : ℕ). seat_said c.loop-index.nearest ≡ able_from b (b.setup.stacks.seats + 1 - i) i) all kept.nearest_is))

pub returns-clause-behind_in : goal.returns-clause-behind_in
returns-clause-behind_in c =
    let b = c.args.self.now in
    let kept = c.loop-index.invariant in
    subst (λ (f : Option Seat). IfSome f (λ seat. seat.number ≤ b.setup.stacks.seats)) (sym c.or.ensures)
    (either_in c.loop-index.behind c.loop-index.nearest (λ seat. seat.number ≤ b.setup.stacks.seats) kept.behind_in kept.nearest_in)
