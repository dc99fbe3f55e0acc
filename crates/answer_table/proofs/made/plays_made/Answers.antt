-- The records are sound, and there are as many plays.
use Rattle.std.proofs.Common.{◌≤◌, ℕ, List, [], ◌∷◌, length, All, ap, sym, subst, ◌∙◌}
use Rattle.std.proofs.lemmas.List.{length-map}
use Rattle.std.proofs.lemmas.List.Elements.{All-cons, All-head, All-nil, All-tail}
use Rattle.std.proofs.lemmas.Result.{IfOk-weaker}
use Rattle.first_fault.specs.declared.limits.TheConstants.{MOST_HANDS}
use Rattle.hand_gen.specs.Sound.{IsSoundHand}
use Rattle.hand_canon.specs.declared.record.Record.{Record}
use Rattle.hand_canon.specs.declared.trace.Play.{Play}
use Rattle.hand_canon.specs.SoundRecord.{IsSoundRecord}
use Rattle.answer_table.proofs.made.plays_made.Goals as goal

all_sound : (hands : List Record) → All IsSoundHand hands → All IsSoundRecord hands
all_sound [] all = All-nil IsSoundRecord
all_sound (hand ∷ hands) all =
    All-cons IsSoundRecord hand hands (All-head IsSoundHand hand hands all).sound (all_sound hands (All-tail IsSoundHand hand hands all))

pub new-requires-clause-sound : goal.new-requires-clause-sound
new-requires-clause-sound c = all_sound c.in-Ok.hands c.in-Ok.ensures.sound

pub new-requires-clause-few : goal.new-requires-clause-few
new-requires-clause-few c = subst (λ (n : ℕ). n ≤ MOST_HANDS) (sym c.in-Ok.ensures.made.counted) c.requires.few

pub returns-in-Ok-clause-few : goal.returns-in-Ok-clause-few
returns-in-Ok-clause-few c =
    IfOk-weaker c.plays_of.result _ _
    (λ plays are.
    subst (λ (n : ℕ). n ≤ MOST_HANDS)
    (sym (sym (length-map plays.items (λ (play : Play). play.hand)) ∙ ap length (are.same ∙ c.new.ensures) ∙ c.in-Ok.ensures.made.counted)) c.requires.few)
    c.plays_of.ensures.plays
