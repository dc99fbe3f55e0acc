-- What the rules give for a script that is written out. Events are counted from 1.
use Rattle.std.specs.Prelude.{◌≡◌, ℕ, List, map, filter, Some, None}
use Rattle.card_set.specs.declared.card.Slot.{Slot}
use Rattle.play_event.specs.declared.reason.Due.{Due}
use Rattle.play_event.specs.declared.reason.Illegal.{Illegal}
use Rattle.play_event.specs.declared.setup.Setup.{Setup}
use Rattle.play_event.specs.declared.setup.Rules.{Rules}
use Rattle.play_event.specs.Said.{Said}
use Rattle.play_event.specs.Past.{moves_of}
use Rattle.play_event.specs.Seats.{all_seats}
use Rattle.play_event.specs.Chips.{chips_put}
use Rattle.play_event.specs.Stakes.{stack_by_folds}
use Rattle.play_event.specs.Due.{turn}
use Rattle.play_event.specs.HistoryRules.{history_rules}
use Rattle.play_event.specs.Trace.{TracedMove, traced_moves, traced_places, is_shown, is_mucked}
use Rattle.play_event.specs.Scripts.{past_at_end, illegal_event}

-- the event with this number is the first illegal one of a script, for this reason
abbrev pub AllLegalBy : Rules → Setup → List Said → Type 0
AllLegalBy rules setup script = illegal_event setup rules script ≡ None

-- the event with this number is the first illegal one of a script, for this reason
abbrev pub IllegalAtBy : Rules → ℕ → Illegal → Setup → List Said → Type 0
IllegalAtBy rules number reason setup script =
    illegal_event setup rules script ≡ Some (number, reason)

-- no event of a script is illegal by the rules of hand histories
abbrev pub AllLegal : Setup → List Said → Type 0
AllLegal setup script = AllLegalBy history_rules setup script

-- the event with this number is the first illegal one by the rules of hand histories, for this
-- reason
abbrev pub IllegalAt : ℕ → Illegal → Setup → List Said → Type 0
IllegalAt number reason setup script = IllegalAtBy history_rules number reason setup script

-- what is due after a script, and on which street
abbrev pub due_after : Setup → List Said → ℕ × Due
due_after setup script = turn setup (past_at_end setup script)

-- the chips that each seat put in by the end of a script
abbrev pub puts_after : Setup → List Said → List ℕ
puts_after setup script =
    map (chips_put setup (moves_of (past_at_end setup script))) (all_seats setup)

-- what each player finishes with after a script that is won by folds
abbrev pub ends_with : Setup → List Said → List ℕ
ends_with setup script =
    map (stack_by_folds setup (moves_of (past_at_end setup script))) (all_seats setup)

-- the seats that are shown after a script
abbrev pub shown_after : Setup → List Said → List ℕ
shown_after setup script = filter (is_shown setup (past_at_end setup script)) (all_seats setup)

-- the seats that are mucked after a script
abbrev pub mucked_after : Setup → List Said → List ℕ
mucked_after setup script = filter (is_mucked setup (past_at_end setup script)) (all_seats setup)

-- the moves of its trace
abbrev pub moves_after : Setup → List Said → List TracedMove
moves_after setup script = traced_moves setup (moves_of (past_at_end setup script))

-- the targets of its raises that are legal only under rules by which every raise reopens the
-- betting
abbrev pub closed_after : Setup → List Said → List ℕ
closed_after setup script =
    map (λ move. move.to) (filter (λ move. move.closed) (moves_after setup script))

-- the target of a raise by the raise unit, at each of its moves
abbrev pub units_after : Setup → List Said → List ℕ
units_after setup script = map (λ move. move.unit_to) (moves_after setup script)

-- the cards of its trace
abbrev pub cards_after : Setup → List Said → List Slot
cards_after setup script =
    map (λ place. place.slot) (traced_places setup (past_at_end setup script))
