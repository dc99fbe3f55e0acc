-- Events are counted one after the other.
use Rattle.std.proofs.Common.{◌≡◌, ℕ, ◌+◌, Bool, true, false, not, cond, List, [], ◌∷◌, ◌++◌, map, count_by, Option, Some, None, refl, sym, ap, ◌∙◌, subst, arith}
use Rattle.std.proofs.lemmas.List.{append-nil, map_push}
use Rattle.card_set.proofs.Counting.{count_by-push}
use Rattle.play_event.specs.PlayedScript.{is_move_event}
use Rattle.play_event.specs.declared.event.Event.{Event}
use Rattle.play_event.specs.Said.{Said, said_of}
use Rattle.phh_reading.specs.declared.events.EventCounts.{EventCounts}
use Rattle.phh_reading.specs.Events.{AreCounted, IsAfter, one_event}

counts_push : (p : Said → Bool) (script : List Event) (event : Event) → count_by p (map said_of (script ++ event ∷ [])) ≡ count_by p (map said_of script) + cond (p (said_of event)) 1 0
counts_push p script event = ap (count_by p) (map_push said_of script event) ∙ count_by-push p (map said_of script) (said_of event)

not_counted : (moves : Bool) → ◌≡◌ {A = ℕ} (cond (not moves) 1 0) (cond moves 0 1)
not_counted true = refl
not_counted false = refl

-- the event of one more action, if it has one, is counted
pub counted_after : (file_moves : ℕ) (script new : List Event) (before after : EventCounts) (event : Option Event) → new ≡ script ++ one_event event → AreCounted file_moves script before → IsAfter before event after → AreCounted file_moves new after
counted_after file_moves script new before after None is counted same =
    subst (λ (events : List Event). AreCounted file_moves events after) (sym (is ∙ append-nil script)) (subst (λ (counts : EventCounts). AreCounted file_moves script counts) (sym same) counted)
counted_after file_moves script new before after (Some event) is counted more =
    let moves = counts_push is_move_event script event in
    let others = counts_push (λ other. not (is_move_event other)) script event in
    subst (λ (events : List Event). AreCounted file_moves events after) (sym is) (record {
      moves = omega (arith, more.moves, counted.moves, moves);
      other_events = omega (arith, more.other_events, counted.other_events, others, not_counted (is_move_event (said_of event)));
      file_moves = omega (arith, more.file_moves, counted.file_moves, moves);
    })
