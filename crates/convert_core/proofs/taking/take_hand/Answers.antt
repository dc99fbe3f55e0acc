-- The play that was made is passed to the visitor.
use Rattle.std.proofs.Common.{◌≡◌, List, ◌∷◌, [], ◌++◌, length, ap, subst, sym, ◌∙◌, arith}
use Rattle.convert_core.proofs.JudgedPlays.{judged_sound}
use Rattle.convert_core.specs.Judged.{IsOneMorePlay}
use Rattle.hand_canon.specs.LegalPlay.{IsLegalPlay}
use Rattle.hand_canon.specs.Sound.{IsSound}
use Rattle.hand_canon.specs.SoundRecord.{IsSoundRecord}
use Rattle.hand_canon.specs.declared.trace.Play.{Play}
use Rattle.convert_core.proofs.Taken.{last_is, now_taken}
use Rattle.convert_core.proofs.taking.take_hand.Goals as goal

pub new-play-requires-clause-sound : goal.new-play-requires-clause-sound
new-play-requires-clause-sound g c =
    let before = c.drop_taken.new.kept.items in
    let more : IsOneMorePlay before c.args.hand c.replay_and_check.new.plays.items = c.in-Ok.ensures.pushed in
    let same : c.index.result.now ≡ more.play = last_is before c.replay_and_check.new.plays.items more.play c.index.result.now c.len-behind.result more.behind (c.len-behind.ensures ∙ c.drop_taken.new.kept.ok.0) c.index.ensures in
    subst IsSound (sym same) (judged_sound more.play (subst IsSoundRecord (sym more.same) c.requires.sound) more.judged)

pub returns-in_ok-legal-in-Ok-clause-taken : goal.returns-in_ok-legal-in-Ok-clause-taken
returns-in_ok-legal-in-Ok-clause-taken g c = λ start hands taken.
    let before = c.drop_taken.new.kept.items in
    let old = c.args.kept.now.items in
    let more : IsOneMorePlay before c.args.hand c.replay_and_check.new.plays.items = c.in-Ok.ensures.pushed in
    let same : c.index.result.now ≡ more.play = last_is before c.replay_and_check.new.plays.items more.play c.index.result.now c.len-behind.result more.behind (c.len-behind.ensures ∙ c.drop_taken.new.kept.ok.0) c.index.ensures in
    let play_is : c.new-play.result ≡ more.play = c.new-play.ensures ∙ same in
    now_taken g.T.VerdictVisitor.CONTINUES g.T.VerdictVisitor.KEEPS (g.T.VerdictVisitor.Took start c.args.visitor.now) (g.T.VerdictVisitor.Took start c.legal.new.self) hands c.args.place.index old c.replay_and_check.new.plays.items c.new-play.result c.args.hand taken
    (ap (λ (p : Play). p.hand) play_is ∙ more.same) (subst IsLegalPlay (sym play_is) more.judged)
    (λ keep. more.behind ∙ ap (λ (ps : List Play). ps ++ more.play ∷ []) (c.drop_taken.ensures.stay keep) ∙ ap (λ (p : Play). old ++ p ∷ []) (sym play_is))
    (λ drops. let empty = c.drop_taken.ensures.gone drops in omega (arith, ap (λ (ps : List Play). length ps) more.behind, ap (λ (ps : List Play). length (ps ++ more.play ∷ [])) empty))
    (c.in_ok-legal-in-Ok.ensures start taken.verdicts (sym taken.counted) taken.all_legal taken.took)
