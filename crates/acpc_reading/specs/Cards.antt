-- The cards of a hand, and the events of its script, which its cards and its betting give.
use Rattle.std.specs.Prelude.{ℕ, ◌+◌, ◌==◌, not, ◌&&◌, if◌then◌else◌, List, [], ◌∷◌, ◌++◌, length, Option, Some, None, option_and_then, Result, Ok}
use Rattle.std.specs.List.{list_any}
use Rattle.std.specs.Option.{option_map, option_map_or}
use Rattle.card_set.specs.declared.card.Card.{Card}
use Rattle.card_set.specs.declared.card.Slot.{Slot}
use Rattle.card_set.specs.declared.card.Slot.TheVariants as slots
use Rattle.card_set.specs.Known.{hides_card, known_among}
use Rattle.card_set.specs.Spelling.{slots_spelled}
use Rattle.play_event.specs.declared.event.Spelled.TheVariants as spelled
use Rattle.play_event.specs.Said as said
use Rattle.play_event.specs.Said.{Said, Numbered}
use Rattle.first_fault.specs.Reading.{◌>>=◌}
use Rattle.acpc_game.specs.declared.fault.LineFault.{LineFault}
use Rattle.acpc_game.specs.declared.fault.LineFaultKind.TheVariants as whats
use Rattle.acpc_game.specs.Faults.{wrong}
use Rattle.acpc_game.specs.Parts.{parts_of}
use Rattle.acpc_reading.specs.declared.step.BettingStep.{BettingStep}
use Rattle.acpc_reading.specs.declared.step.BettingStep.TheVariants as steps
use Rattle.first_fault.specs.Numbers.{saturated}

-- these cards, if there are `count` of them and all are known
abbrev pub only_known : ℕ → List Slot → Option (List Slot)
only_known count cards =
    if length cards == count && not (list_any hides_card cards) then Some cards else None

-- the `count` known cards that a text says
unfoldable pub known_said : ℕ → List ℕ → Option (List Slot)
known_said count text = option_and_then (only_known count) (slots_spelled text)

-- the `count` cards of the board that a text says
abbrev pub board_said : ℕ → List ℕ → Option (List Card)
board_said count text = option_map known_among (known_said count text)

-- the hole cards of a seat: two known ones, or an empty text if they are unknown
unfoldable pub hole_said : List ℕ → Option (List Slot)
hole_said text =
    if length text == 0 then Some (slots.Unknown ∷ slots.Unknown ∷ []) else known_said 2 text

-- the cards cannot be read
abbrev pub bad_cards : {A : Type 0} → ℕ → Result A LineFault
bad_cards at = wrong whats.BadCards at

-- the events, and the deal of a seat's hole cards
unfoldable pub hole_after : ℕ → List Numbered → ℕ → List ℕ → Result (List Numbered) LineFault
hole_after at events seat part =
    option_map_or (λ cards. Ok (events ++ (0, said.Hole seat cards) ∷ [])) (hole_said part)
    (bad_cards at)

-- the same for more seats, from this one on
unfoldable pub holes_after : ℕ → List Numbered → ℕ → List (List ℕ)
    → Result (List Numbered) LineFault
holes_after at events seat [] = Ok events
holes_after at events seat (part ∷ parts) =
    hole_after at events seat part >>= λ more. holes_after at more (seat + 1) parts

-- the script so far: its events, the number of the next letter, the number of cards of the next
-- board deal, and the cards of the rounds that are left
pub record Written : Type 0 where
  pub events : List Numbered
  pub number : ℕ
  pub size : ℕ
  pub boards : List (List ℕ)

-- one more letter, which does not name its seat
abbrev pub with_letter : Written → Said → Written
with_letter so_far move =
    record {
      events = so_far.events ++ (saturated so_far.number, move) ∷ [];
      number = so_far.number + 1;
      size = so_far.size;
      boards = so_far.boards;
    }

-- the board deal before the next round
unfoldable pub next_round : ℕ → Written → List (List ℕ) → Result Written LineFault
next_round at so_far [] = bad_cards at
next_round at so_far (board ∷ boards) =
    option_map_or
    (λ cards.
    Ok
    (record {
      events = so_far.events ++ (0, said.Board cards) ∷ [];
      number = so_far.number;
      size = 1;
      boards = boards;
    }))
    (board_said so_far.size board) (bad_cards at)

-- one more step: a letter with its number, or a board deal
unfoldable pub step_after : ℕ → Written → BettingStep → Result Written LineFault
step_after at so_far steps.Fold = Ok (with_letter so_far (said.Fold None))
step_after at so_far steps.Call = Ok (with_letter so_far (said.Call None None))
step_after at so_far steps.Raise = Ok (with_letter so_far (said.Raise None spelled.Unit))
step_after at so_far (steps.RaiseTo total) =
    Ok (with_letter so_far (said.Raise None (spelled.HandTotal total)))
step_after at so_far steps.NextRound = next_round at so_far so_far.boards

-- the same for more steps
unfoldable pub steps_after : ℕ → Written → List BettingStep → Result Written LineFault
steps_after at so_far [] = Ok so_far
steps_after at so_far (step ∷ rest) = step_after at so_far step >>= λ more. steps_after at more rest

-- the script with these events, if no board cards are left over
abbrev pub without_rest : ℕ → Written → Result (List Numbered) LineFault
without_rest at written = if length written.boards == 0 then Ok written.events else bad_cards at

-- the script before the first letter
abbrev pub dealt : List Numbered → List (List ℕ) → Written
dealt events boards = record { events = events; number = 1; size = 3; boards = boards }

-- the events of all steps, if no board cards are left over
unfoldable pub steps_said : ℕ → Written → List BettingStep → Result (List Numbered) LineFault
steps_said at so_far bets = steps_after at so_far bets >>= without_rest at

-- The cards field at this byte: the hole cards before its first stroke, and one part for each
-- further round.
unfoldable pub script_said : ℕ → List BettingStep → ℕ → List (List ℕ)
    → Result (List Numbered) LineFault
script_said players bets at [] = bad_cards at
script_said players bets at (holes ∷ boards) =
    if length (parts_of 124 holes) == players
    then (holes_after at [] 1 (parts_of 124 holes)
    >>= λ events. steps_said at (dealt events boards) bets)
    else wrong whats.SeatCount at
