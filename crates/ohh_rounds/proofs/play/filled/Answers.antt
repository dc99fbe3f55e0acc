use Rattle.std.proofs.Common.{◌≡◌, suc, ◌+◌, ◌-◌, ◌++◌, ◌∷◌, [], ◌∙◌, ap, sym, replicate, append_assoc, arith}
use Rattle.card_set.specs.declared.card.Slot.TheVariants as slots
use Rattle.card_set.specs.Row.{slots_of}
use Rattle.ohh_rounds.proofs.play.filled.Goals as goal

pub loop-index-preserved : goal.loop-index-preserved
loop-index-preserved c =
    let l = c.loop-index in
    let left : c.args.count - l._index ≡ suc (c.args.count - (l._index + 1)) = omega (arith, c.loop-index-test.true) in
    record {
      all =
          ap (λ front. front ++ replicate (c.args.count - (l._index + 1)) slots.Unknown) c.push.ensures.entries
          ∙ append_assoc (slots_of l.all) (slots.Unknown ∷ []) (replicate (c.args.count - (l._index + 1)) slots.Unknown)
          ∙ ap (λ back. slots_of l.all ++ back) (sym (ap (λ n. replicate n slots.Unknown) left))
          ∙ l.invariant.all;
      few = omega (arith, c.push.ensures.longer, l.invariant.few);
    }
