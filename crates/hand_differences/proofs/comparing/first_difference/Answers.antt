-- A difference outside the notes is reported first; after that the notes of hands with the same
-- number of seats are compared.
use Rattle.std.proofs.Common.{◌≡◌, ◌∙◌, ap, cond, sym, ℕ, Bool, None}
use Rattle.hand_canon.specs.SaidNotes.{notes_of, said_notes}
use Rattle.hand_canon.specs.declared.trace.Play.{Play}
use Rattle.hand_differences.proofs.FirstOf.{none_then, or_first, or_later}
use Rattle.hand_differences.specs.FirstDifference.{difference_said, note_difference, play_difference, reported_difference}
use Rattle.hand_differences.proofs.comparing.first_difference.Goals as goal

-- the first difference of plays that are the same as others
of_same : (notes : Bool) (index : ℕ) (play other same too : Play) → play ≡ same → other ≡ too → reported_difference notes index play other ≡ reported_difference notes index same too
of_same notes index play other same too one two =
    ap (λ it. reported_difference notes index it other) one ∙ ap (reported_difference notes index same) two

pub returns-then-is_some : goal.returns-then-is_some
unfolding reported_difference
returns-then-is_some c =
    let play = c.play-play.result.now in
    let other = c.play-other.result.now in
    or_first difference_said c.find_play_difference-found.result (play_difference play other) _ c.find_play_difference-found.ensures.named (sym c.is_some.ensures ∙ c.if-is_some.true)
    ∙ of_same c.args.notes c.args.index play other c.args.play.now c.args.other.now c.play-play.ensures.same c.play-other.ensures.same

pub returns-then-not-notes : goal.returns-then-not-notes
unfolding reported_difference
returns-then-not-notes c =
    let play = c.play-play.result.now in
    let other = c.play-other.result.now in
    or_later difference_said c.find_play_difference-found.result (play_difference play other) _ None c.find_play_difference-found.ensures.named (sym c.is_some.ensures ∙ c.if-is_some.false)
    (sym (ap (λ (b : Bool). cond b (note_difference (notes_of c.args.index play) (notes_of c.args.index other)) None) c.if-not-notes.true))
    ∙ of_same c.args.notes c.args.index play other c.args.play.now c.args.other.now c.play-play.ensures.same c.play-other.ensures.same

pub returns : goal.returns
unfolding reported_difference
returns c =
    let play = c.play-play.result.now in
    let other = c.play-other.result.now in
    let missing = sym c.is_some.ensures ∙ c.if-is_some.false in
    let seats = none_then c.find_play_difference-found.result c.find_play_difference-found.ensures.seats missing in
    or_later difference_said c.find_play_difference-found.result (play_difference play other) _ _ c.find_play_difference-found.ensures.named missing
    (c.find_note_difference.ensures
    ∙ ap (λ (count : ℕ). note_difference (said_notes c.args.index count play.hand.notes) (said_notes c.args.index count other.hand.notes)) c.players.ensures
    ∙ ap (λ (count : ℕ). note_difference (notes_of c.args.index play) (said_notes c.args.index count other.hand.notes)) seats
    ∙ sym (ap (λ (b : Bool). cond b (note_difference (notes_of c.args.index play) (notes_of c.args.index other)) None) c.if-not-notes.false))
    ∙ of_same c.args.notes c.args.index play other c.args.play.now c.args.other.now c.play-play.ensures.same c.play-other.ensures.same
