-- The numbers are those of the only play of the file.
use Rattle.std.proofs.Common.{◌≡◌, List, [], ◌∷◌, get_or, length, ap, subst, sym, ◌∙◌}
use Rattle.std.proofs.lemmas.Option.{get_or_from_slice_get}
use Rattle.hand_canon.specs.Agreement.{pot_total_of}
use Rattle.hand_canon.specs.declared.trace.Play.{Play}
use Rattle.phh_format.specs.Spelled.{unspelled}
use Rattle.hand_gen.specs.Load.{IsInLogs, hands_spelled}
use Rattle.hand_gen.proofs.counting.counts_of.Goals as goal

pub returns : goal.returns
returns c = λ play one.
    let only : Play = c.get-only.result in
    let here : only ≡ play = sym (get_or_from_slice_get c.args.file.now 0 only only c.get-only.ensures) ∙ ap (λ (file : List Play). get_or file 0 only) one in
    let same : c.play-play.result.now ≡ play = c.play-play.ensures.same ∙ here in
    record {
      moves = c.len.ensures ∙ ap (λ (p : Play). length p.trace.moves) same;
      pots = c.pot_total.ensures.sum ∙ ap (λ (p : Play). pot_total_of p.trace) same;
      phh_hands = c.in_tables.ensures.hands ∙ ap (λ (p : Play). hands_spelled (unspelled p)) same;
      histories = c.in_ok-ohh.ensures play one;
      in_logs = subst (λ (p : Play). IsInLogs p c.in_ok-acpc.acpc) here (c.in_ok-acpc.ensures (one ∙ ap (λ (p : Play). p ∷ []) (sym here)));
    }
