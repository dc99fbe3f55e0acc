-- The logs of the game can express the play, or they cannot.
use Rattle.std.proofs.Common.{◌≡◌, ◌⊎◌, List, [], ◌∷◌, length, Some, sym, ap, subst, ◌∙◌}
use Rattle.acpc_format.specs.Line.{log_text}
use Rattle.acpc_format.specs.Spelled.{unspelled}
use Rattle.hand_canon.specs.declared.trace.Play.{Play}
use Rattle.hand_canon.specs.declared.writing.Keep.TheVariants as keeps
use Rattle.hand_gen.specs.Load.{fits}
use Rattle.hand_gen.proofs.CountLaws.{refused_is, written_is}
use Rattle.hand_gen.proofs.counting.in_logs_of.Goals as goal
use Rattle.hand_canon.specs.WriteRefusals.{IsOutOfMemory, first_refusal}

pub returns-in-Ok : goal.returns-in-Ok
returns-in-Ok c = λ play single game_is.
    let one = c.as_slice.ensures.same ∙ single in
    let game = c.args.game.now in
    fits game game_is
    (written_is (unspelled game keeps.All play) (length (log_text game.no_limit (play ∷ []))) c.spelled_in.result
    (sym (ap (first_refusal (unspelled game keeps.All)) one) ∙ c.in-Ok.ensures.spelled)
    c.spelled_in.ensures.hands
    (c.spelled_in.ensures.bytes ∙ c.len.ensures ∙ c.in-Ok.bytes.ok.0 ∙ ap length (c.in-Ok.ensures.written ∙ ap (log_text game.no_limit) one)))

pub returns-in-Err-Unspelled : goal.returns-in-Err-Unspelled
returns-in-Err-Unspelled c = λ play single game_is.
    let one = c.as_slice.ensures.same ∙ single in
    let game = c.args.game.now in
    let refusal = c.in-Err-Unspelled.field-0 in
    fits game game_is
    (refused_is (unspelled game keeps.All play) (length (log_text game.no_limit (play ∷ []))) c.not_spelled.result
    refusal c.in-Err-Unspelled.field-0-0 c.in-Err-Unspelled.field-0-1 c.in-Err-Unspelled.field-0-is
    (subst (λ (file : List Play). IsOutOfMemory refusal ⊎ (first_refusal (unspelled game keeps.All) file ≡ Some refusal)) one c.in-Err-Unspelled.ensures.refused)
    c.not_spelled.ensures.hands c.not_spelled.ensures.bytes)
