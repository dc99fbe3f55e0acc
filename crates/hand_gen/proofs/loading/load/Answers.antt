-- One more play is counted.
use Rattle.std.proofs.Common.{◌≡◌, ◌+◌, List, [], ◌∷◌, ◌++◌, ap, ◌∙◌}
use Rattle.hand_canon.specs.declared.trace.Play.{Play}
use Rattle.hand_gen.proofs.LoadLaws.{one_play_more}
use Rattle.hand_gen.proofs.loading.load.Goals as goal

pub loop-place-preserved : goal.loop-place-preserved
loop-place-preserved c =
    let inv = c.loop-place.invariant in
    let play : Play = c.in_ok-made.made.play in
    let file : c.new-plays.result ≡ play ∷ [] = c.new-plays.ensures ∙ c.as_slice.ensures.value ∙ c.in_ok-try_push.ensures.items ∙ ap (λ (l : List Play). l ++ play ∷ []) c.new-file.ensures.items in
    record {
      loaded = one_play_more c.args.seed c.loop-place.number c.loop-place.summary c.with_counts-summary.result play c.in_ok-counts.counts c.loop-place.place c.in_ok-made.made.number
          inv.loaded inv.counted c.in_ok-made.ensures.made c.in_ok-made.ensures.behind c.in_ok-made.ensures.sound (c.in_ok-counts.ensures play file) c.with_counts-summary.ensures.sums;
      few = c.with_counts-summary.ensures.few;
      counted = c.with_counts-summary.ensures.sums.hands ∙ ap (λ n. n + 1) inv.counted;
    }
