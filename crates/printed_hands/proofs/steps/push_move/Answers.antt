-- What the move adds is put in, and its line is that of the event that names it.
use Rattle.std.proofs.Common.{◌≡◌, ◌∷◌, ◌++◌, subst, decimal, string_bytes}
use Rattle.play_event.specs.CanonScript.{plain_move}
use Rattle.phh_actions.specs.Written.{event_text}
use Rattle.play_event.specs.Played.{move_said}
use Rattle.play_event.specs.Said.{Said}
use Rattle.printed_hands.specs.Steps.{chips_text}
use Rattle.printed_hands.proofs.NamedMoves.{move_has_words}
use Rattle.printed_hands.proofs.steps.push_move.Goals as goal

pub push_event-requires-clause-words : goal.push_event-requires-clause-words
push_event-requires-clause-words c = rw c.named_move.ensures (move_has_words (move_said c.args.moved.now))

pub returns-in_err-push_event-clause-put : goal.returns-in_err-push_event-clause-put
returns-in_err-push_event-clause-put c = λ moves has. c.add.ensures.put c.args.setup.now moves has

pub returns-clause-put : goal.returns-clause-put
returns-clause-put c = λ moves has. c.add.ensures.put c.args.setup.now moves has

pub returns-clause-line : goal.returns-clause-line
returns-clause-line c = λ moves has.
    let later = plain_move (move_said c.args.moved.now) ∷ moves in
    subst (λ (event : Said). string_bytes c.push_event.new.text ≡ string_bytes c.args.text.now ++ (decimal c.args.number ++ (32 ∷ event_text event ++ chips_text c.args.setup.now later)))
    c.named_move.ensures (c.in_ok-push_event.ensures later (c.add.ensures.put c.args.setup.now moves has))
