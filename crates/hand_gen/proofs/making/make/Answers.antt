-- One more hand.
use Rattle.std.proofs.Common.{◌≡◌, ℕ, ◌+◌, List, [], ◌∷◌, ◌++◌, length, sym, ap, subst, ◌∙◌, arith, length-append}
use Rattle.std.proofs.lemmas.List.Elements.{All-push, All-same}
use Rattle.hand_canon.specs.declared.record.Record.{Record}
use Rattle.hand_gen.specs.Made.{AreMadeFrom, IsMade, number_behind, number_behind_all}
use Rattle.hand_gen.specs.Sound.{IsSoundHand}
use Rattle.hand_gen.proofs.MadeLaws.{number_more, one_hand_more}
use Rattle.hand_gen.proofs.RecordLaws.{sound_hand}
use Rattle.hand_gen.proofs.making.make.Goals as goal

pub loop-place-preserved : goal.loop-place-preserved
loop-place-preserved c =
    let inv = c.loop-place.invariant in
    let hands : List Record = c.loop-place.hands in
    let made = c.in_ok-made.made in
    let seed : ℕ = c.args.seed in
    let pushed : c.push.new.self ≡ hands ++ made.play.hand ∷ [] = c.in_ok-push.ensures.pushed in
    let place : c.loop-place.place ≡ 0 + length hands = omega (arith, inv.counted) in
    let more : IsMade (0 + length hands) (number_behind_all seed hands) made.play.hand =
    subst (λ n. IsMade (0 + length hands) n made.play.hand) inv.number_is (subst (λ n. IsMade n c.loop-place.number made.play.hand) place c.in_ok-made.ensures.made) in
    record {
      made = subst (AreMadeFrom 0 seed) (sym pushed) (one_hand_more 0 seed hands made.play.hand inv.made more);
      number_is = c.in_ok-made.ensures.behind ∙ ap (λ n. number_behind n made.play.hand) inv.number_is ∙ sym (ap (number_behind_all seed) pushed ∙ number_more seed hands made.play.hand);
      counted = ap length pushed ∙ omega (arith, length-append hands (made.play.hand ∷ []), inv.counted);
      sound = All-same IsSoundHand c.push.new.self (hands ++ made.play.hand ∷ []) pushed (All-push IsSoundHand hands made.play.hand inv.sound (sound_hand made.play c.in_ok-made.ensures.sound c.in_ok-made.ensures.made.stated));
    }
