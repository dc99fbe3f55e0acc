-- The rounds of a hand, each with its street, its cards and its actions.
use Rattle.std.specs.Prelude.{ℕ, ◌==◌, if◌then◌else◌, List, [], ◌∷◌, ◌++◌, length, Option, Some, None, Result, Ok}
use Rattle.serde_json.specs.Data.{Data}
use Rattle.card_set.specs.declared.card.Card.{Card}
use Rattle.play_event.specs.Said as said
use Rattle.first_fault.specs.Reading.{◌>>=◌, added_from}
use Rattle.ohh_members.specs.declared.fault.RoundMember.{RoundMember}
use Rattle.ohh_members.specs.declared.fault.RoundMember.TheVariants as members
use Rattle.ohh_members.specs.declared.fault.Path.{Path}
use Rattle.ohh_members.specs.declared.fault.Path.TheVariants as paths
use Rattle.ohh_members.specs.declared.fault.MemberFaultKind.TheVariants as whats
use Rattle.ohh_members.specs.declared.fault.MemberFault.{MemberFault}
use Rattle.ohh_members.specs.Values.{cards_said, list_said, member_at, object_said, or_wrong, required_value, text_said, wrong}
use Rattle.ohh_members.specs.declared.street.StreetName.{StreetName}
use Rattle.ohh_rounds.specs.Streets.{has_board_cards, street_after}
use Rattle.ohh_rounds.specs.Steps.{PlainStep, Happened}
use Rattle.ohh_rounds.specs.HandContext.{PlainHandContext}
use Rattle.ohh_rounds.specs.Actions.{event_counted, step_said}

-- the path of a member of a round
abbrev pub at_round : ℕ → RoundMember → Path
at_round round member = paths.Round round member

-- the street of a round after the last one
unfoldable pub street_said : Option StreetName → ℕ → Data → Result StreetName MemberFault
street_said last index round = do
  text ← required_value (at_round index members.Street) round
      >>= text_said (at_round index members.Street)
  or_wrong whats.BadStreet (at_round index members.Street) (street_after last text)

-- a list without cards
unfoldable pub no_cards : Path → Data → Result (List Card) MemberFault
no_cards path cards = do
  items ← list_said path cards
  if length items == 0 then Ok [] else wrong whats.BadStreet path

-- the board cards of a round: known ones if its street deals some, and none if they are missing
unfoldable pub board_said : StreetName → ℕ → Data → Result (List Card) MemberFault
board_said street index round = elim (member_at (at_round index members.Cards) round) [
  | None ↦ Ok []
  | Some cards ↦
      if has_board_cards street
      then cards_said (at_round index members.Cards) cards
      else no_cards (at_round index members.Cards) cards
]

-- the steps with a deal to the board, if there are cards
unfoldable pub board_dealt : PlainHandContext → List PlainStep → ℕ → List Card
    → Result (List PlainStep) MemberFault
board_dealt setting earlier index cards =
    if length cards == 0 then Ok earlier
    else (event_counted setting earlier (at_round index members.Cards) (said.Board cards)
    >>= λ counted.
    Ok (earlier ++ record { number = 0; effect = Happened (said.Board cards) } ∷ []))

-- the steps with one more action of a round
abbrev pub action_added : PlainHandContext → ℕ → List PlainStep → ℕ → Data
    → Result (List PlainStep) MemberFault
action_added setting round earlier index value =
    step_said setting earlier (record { round = round; action = index }) value
    >>= λ step. Ok (earlier ++ step ∷ [])

-- the steps with the actions of a round
abbrev pub actions_added : PlainHandContext → ℕ → List PlainStep → List Data
    → Result (List PlainStep) MemberFault
actions_added setting round earlier items = added_from (action_added setting round) earlier 0 items

-- the steps with the actions that a round lists
abbrev pub actions_said : PlainHandContext → ℕ → List PlainStep → Data
    → Result (List PlainStep) MemberFault
actions_said setting index earlier round = do
  items ← required_value (at_round index members.Actions) round
      >>= list_said (at_round index members.Actions)
  actions_added setting index earlier items

-- the last street, and the steps so far
abbrev pub SoFar : Type 0
SoFar = Option StreetName × List PlainStep

-- the street and the cards of a round, and the steps with its deal to the board
unfoldable pub opening_said : PlainHandContext → SoFar → ℕ → Data
    → Result (StreetName × List PlainStep) MemberFault
opening_said setting before index round = do
  street ← street_said before.0 index round
  cards ← board_said street index round
  steps ← board_dealt setting before.1 index cards
  Ok (street, steps)

-- one more round
unfoldable pub round_said : PlainHandContext → SoFar → ℕ → Data → Result SoFar MemberFault
round_said setting before index value = do
  round ← object_said (at_round index members.Itself) value
  opening ← opening_said setting before index round
  steps ← actions_said setting index opening.1 round
  Ok (Some opening.0, steps)

-- the list of rounds: at least one
unfoldable pub rounds_listed : Data → Result (List Data) MemberFault
rounds_listed ohh = do
  items ← required_value paths.Rounds ohh >>= list_said paths.Rounds
  if length items == 0 then wrong whats.BadStreet paths.Rounds else Ok items

-- the steps of a list of rounds
abbrev pub all_steps : PlainHandContext → List Data → Result (List PlainStep) MemberFault
all_steps setting items = added_from (round_said setting) (None, []) 0 items >>= λ found. Ok found.1

-- the steps of the rounds
unfoldable pub steps_said : PlainHandContext → Data → Result (List PlainStep) MemberFault
steps_said setting ohh = rounds_listed ohh >>= all_steps setting
