-- How many moves and other events a script has.
use Rattle.std.proofs.Common.{◌≡◌, ℕ, ◌+◌, Bool, not, cond, List, [], ◌∷◌, ◌++◌, length, map, count_by, refl, ap, ◌∙◌, arith}
use Rattle.std.proofs.lemmas.List.{map-append}
use Rattle.std.proofs.lemmas.List.FromFn.{length-range_with_len}
use Rattle.card_set.proofs.Counting.{count_by-cons, count_by-joined}
use Rattle.play_event.specs.PlayedScript.{is_move_event}
use Rattle.chip_ledger.specs.Seat.{seats_of}
use Rattle.play_event.specs.declared.event.Event.{Event}
use Rattle.play_event.specs.Said.{Said, Numbered, numbered, said_of}
use Rattle.ohh_rounds.specs.Steps.{PlainActionEffect, PlainStep, Posted, Dealt, Happened, Passed, is_move_effect, is_other_effect, moves_in, others_in}
use Rattle.ohh_rounds.specs.Play.{event_in, events_in, hole_deal, script_said}

-- numbered events, without the numbers
abbrev pub said_in : List Numbered → List Said
said_in events = map (λ event. event.1) events

-- events without their numbers are the same
pub said_numbered : (events : List Event) → map said_of events ≡ said_in (map numbered events)
said_numbered [] = refl
said_numbered (event ∷ rest) = ap (λ others. said_of event ∷ others) (said_numbered rest)

move_in : (step : PlainStep) (effect : PlainActionEffect) → count_by is_move_event (said_in (event_in step effect)) ≡ cond (is_move_effect effect) 1 0
move_in step (Happened event) = count_by-cons is_move_event event [] ∙ omega arith
move_in step (Posted post) = refl
move_in step (Dealt seat slots) = refl
move_in step Passed = refl

other_in : (step : PlainStep) (effect : PlainActionEffect) → count_by (λ event. not (is_move_event event)) (said_in (event_in step effect)) ≡ cond (is_other_effect effect) 1 0
other_in step (Happened event) = count_by-cons (λ event. not (is_move_event event)) event [] ∙ omega arith
other_in step (Posted post) = refl
other_in step (Dealt seat slots) = refl
other_in step Passed = refl

two_parts : (p : Said → Bool) (xs ys : List Numbered) → count_by p (said_in (xs ++ ys)) ≡ count_by p (said_in xs) + count_by p (said_in ys)
two_parts p xs ys = ap (count_by p) (map-append (λ (event : Numbered). event.1) xs ys) ∙ count_by-joined p (said_in xs) (said_in ys)

moves_of_events : (steps : List PlainStep) → count_by is_move_event (said_in (events_in steps)) ≡ moves_in steps
moves_of_events [] = refl
moves_of_events (step ∷ rest) = omega (arith, two_parts is_move_event (event_in step step.effect) (events_in rest), move_in step step.effect, moves_of_events rest, count_by-cons (λ x. is_move_effect x.effect) step rest)

others_of_events : (steps : List PlainStep) → count_by (λ event. not (is_move_event event)) (said_in (events_in steps)) ≡ others_in steps
others_of_events [] = refl
others_of_events (step ∷ rest) = omega (arith, two_parts (λ event. not (is_move_event event)) (event_in step step.effect) (events_in rest), other_in step step.effect, others_of_events rest, count_by-cons (λ x. is_other_effect x.effect) step rest)

moves_of_deals : (count : ℕ) (steps : List PlainStep) (seats : List ℕ) → count_by is_move_event (said_in (map (hole_deal count steps) seats)) ≡ 0
moves_of_deals count steps [] = refl
moves_of_deals count steps (seat ∷ seats) = omega (arith, count_by-cons is_move_event ((hole_deal count steps seat).1) (said_in (map (hole_deal count steps) seats)), moves_of_deals count steps seats)

others_of_deals : (count : ℕ) (steps : List PlainStep) (seats : List ℕ) → count_by (λ event. not (is_move_event event)) (said_in (map (hole_deal count steps) seats)) ≡ length seats
others_of_deals count steps [] = refl
others_of_deals count steps (seat ∷ seats) = omega (arith, count_by-cons (λ event. not (is_move_event event)) ((hole_deal count steps seat).1) (said_in (map (hole_deal count steps) seats)), others_of_deals count steps seats)

-- the moves of a script are those of the steps
pub script_moves : (seats count : ℕ) (steps : List PlainStep) (events : List Event) → map numbered events ≡ script_said seats count steps → count_by is_move_event (map said_of events) ≡ moves_in steps
unfolding script_said
script_moves seats count steps events is =
    let same = ap (count_by is_move_event) (said_numbered events ∙ ap said_in is) in
    omega (arith, same, two_parts is_move_event (map (hole_deal count steps) (seats_of seats)) (events_in steps), moves_of_deals count steps (seats_of seats), moves_of_events steps)

-- its other events are the hole deals, and those of the steps
pub script_others : (seats count : ℕ) (steps : List PlainStep) (events : List Event) → map numbered events ≡ script_said seats count steps → count_by (λ event. not (is_move_event event)) (map said_of events) ≡ seats + others_in steps
unfolding script_said
script_others seats count steps events is =
    let same = ap (count_by (λ event. not (is_move_event event))) (said_numbered events ∙ ap said_in is) in
    omega (arith, same, two_parts (λ event. not (is_move_event event)) (map (hole_deal count steps) (seats_of seats)) (events_in steps), others_of_deals count steps (seats_of seats), length-range_with_len 1 seats, others_of_events steps)
