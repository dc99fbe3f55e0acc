use Rattle.std.proofs.Common.{◌≡◌, ◌+◌, ◌-◌, false, true, is_some, refl, sym, ap, ◌∙◌, arith}
use Rattle.std.specs.List.{list_all, range_with_len}
use Rattle.ohh_rounds.specs.Posts.{first_ante}
use Rattle.ohh_rounds.proofs.antes.all_post.Goals as goal
use Rattle.card_set.proofs.Options.{is_some-map}
use Rattle.card_set.proofs.Ranges.{all_next}

pub returns-then-is_none : goal.returns-then-is_none
returns-then-is_none c posts first =
    let l = c.loop-index in
    let none : is_some (first_ante (l.index + 1) posts) ≡ false = ap is_some (sym (c.ante.ensures posts first)) ∙ is_some-map (λ chips. chips.number) c.ante.result ∙ c.if-is_none.ensures in
    sym (sym (l.invariant posts first) ∙ all_next (λ seat. is_some (first_ante seat posts)) (l.index + 1) (c.args.table.now.stacks.seats - l.index) (omega arith) ∙ rw none refl)

pub loop-index-preserved : goal.loop-index-preserved
loop-index-preserved c posts first =
    let l = c.loop-index in
    let some : is_some (first_ante (l.index + 1) posts) ≡ true = ap is_some (sym (c.ante.ensures posts first)) ∙ is_some-map (λ chips. chips.number) c.ante.result ∙ c.if-is_none.ensures in
    let fewer : c.args.table.now.stacks.seats - (l.index + 1) ≡ c.args.table.now.stacks.seats - l.index - 1 = omega arith in
    ap (λ n. list_all (λ seat. is_some (first_ante seat posts)) (range_with_len (l.index + 1 + 1) n)) fewer
    ∙ sym (all_next (λ seat. is_some (first_ante seat posts)) (l.index + 1) (c.args.table.now.stacks.seats - l.index) (omega arith) ∙ rw some refl)
    ∙ l.invariant posts first
