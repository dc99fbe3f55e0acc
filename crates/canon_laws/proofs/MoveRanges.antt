-- Each move of a legal past is by a seat of the hand, and its target may be stated.
use Rattle.std.proofs.Common.{◌≡◌, ℕ, ◌≤◌, Bool, true, false, ◌==◌, if◌then◌else◌, List, [], ◌∷◌, ap, arith}
use Rattle.std.specs.List.{AllByRecursion}
use Rattle.std.proofs.Math.Nat.{min-le_right}
use Rattle.std.proofs.lemmas.Bool.{ltb-false}
use Rattle.chip_ledger.specs.SeatRow.{amount_of}
use Rattle.chip_ledger.specs.declared.numbers.TheConstants.{MOST_CHIPS}
use Rattle.play_event.specs.Amounts.{raise_target}
use Rattle.play_event.specs.Chips.{all_in, blind_posted, brought, chips_added, posted, street_chips}
use Rattle.play_event.specs.Laws.{AreLegal, NoneHold}
use Rattle.play_event.specs.MoveReasons.{actor_of}
use Rattle.play_event.specs.Openers.{TheSeat}
use Rattle.play_event.specs.Past.{Move, Moved, moves_of, moves_on}
use Rattle.play_event.specs.CurrentBet.{current_bet}
use Rattle.play_event.specs.Said.{Said}
use Rattle.play_event.specs.Scripts.{past_of, resolved_by}
use Rattle.play_event.specs.Streets.{limit_of}
use Rattle.play_event.specs.Table.{places_of}
use Rattle.play_event.specs.Targets.{greatest_target}
use Rattle.play_event.specs.ValidSetup.{IsValid}
use Rattle.play_event.specs.declared.setup.Rules.{Rules}
use Rattle.play_event.specs.declared.setup.Setup.{Setup}
use Rattle.play_event.proofs.ChipLaws.{WithinStacks, greatest_within, puts_within}
use Rattle.play_event.specs.Places.{Place}
use Rattle.play_laws.proofs.FittingPasts.{legal_moves}
use Rattle.play_laws.proofs.MoveKinds.{IsMoveSaid, bring_said, call_said, fold_said, raise_said}
use Rattle.play_laws.proofs.MovesLaw.{IsPlayerToAct, MovesLaw, free, shown}
use Rattle.play_laws.proofs.NamedMoves.{move_reasons, same_actor}
use Rattle.canon_laws.proofs.PlayerToActSeats.{player_to_act_in_hand}
use Rattle.chip_ledger.specs.Seat.{IsSeatOf}
use Rattle.play_laws.proofs.ResolvedMoves.{target_of}

-- a move of a seat of the hand, whose target may be stated
pub record IsMoveInRange (setup : Setup) (move : Move) : Type 0 where
  pub seat : IsSeatOf setup.stacks.seats move.seat
  pub to : move.to ≤ MOST_CHIPS

-- a seat adds no more on a street than in the hand
pub added_less : (street seat : ℕ) (moves : List Move) → chips_added seat (moves_on street moves) ≤ chips_added seat moves
added_less street seat [] = omega arith
added_less street seat (move ∷ before) = by_street (move.street == street) (added_less street seat before)
  where
    by_street : (here : Bool) → chips_added seat (moves_on street before) ≤ chips_added seat before → chips_added seat (if here then (move ∷ moves_on street before) else moves_on street before) ≤ chips_added seat (move ∷ before)
    by_street true less = omega (arith, less)
    by_street false less = omega (arith, less)

-- and puts no more on a street than it posted and added
pub brought_less : (setup : Setup) (street seat : ℕ) → brought setup street seat ≤ posted setup seat
brought_less setup street seat = by_first (street == 1)
  where
    by_first : (first : Bool) → (if first then blind_posted setup seat else 0) ≤ posted setup seat
    by_first true = omega arith
    by_first false = omega arith

-- all-in is within the stack
all_in_within : (setup : Setup) (moves : List Move) (street seat : ℕ) → WithinStacks setup moves → all_in setup moves street seat ≤ amount_of setup.stacks seat
all_in_within setup moves street seat within =
    omega (arith, within seat, added_less street seat moves, brought_less setup street seat)

-- so it was before the newest move
within_before : (setup : Setup) (move : Move) (older : List Move) → WithinStacks setup (move ∷ older) → WithinStacks setup older
within_before setup move older within seat = omega (arith, within seat)

in_turn_in_hand : (setup : Setup) (placed : List Place) (older : List Move) (street seat : ℕ) → IsPlayerToAct setup placed older street seat → IsSeatOf setup.stacks.seats seat
in_turn_in_hand setup placed older street seat (free by) = player_to_act_in_hand setup (λ _. []) older street seat (by (λ _. []))
in_turn_in_hand setup placed older street seat (shown known by) = player_to_act_in_hand setup _ older street seat by

module _ (setup : Setup) (rules : Rules) (older : List Move) (street seat : ℕ) where
  abbrev most : ℕ
  most = all_in setup older street seat

  -- the target of a move is at most all-in
  reaches : (event : Said) (move : Move) (due : Rattle.play_event.specs.declared.reason.Due.Due) → IsMoveSaid event → NoneHold (move_reasons setup rules older (street, due) (TheSeat seat) event) → resolved_by setup older street (TheSeat seat) event ≡ Moved move → move.to ≤ most
  unfolding target_of
  reaches _ move due (fold_said named) none is =
      let same = same_actor setup older named seat none.1.1.0 in
      let to : street_chips setup older street (actor_of named (TheSeat seat)) ≡ move.to = ap target_of is in
      omega (arith, to, ap (street_chips setup older street) same)
  reaches _ move due (call_said named stated) none is =
      let same = same_actor setup older named seat none.1.1.0 in
      let to = ap target_of is in
      omega (arith, to, min-le_right (current_bet setup older street) (all_in setup older street (actor_of named (TheSeat seat))), ap (all_in setup older street) same)
  reaches _ move due (raise_said named amount) none is =
      let actor = actor_of named (TheSeat seat) in
      let same = same_actor setup older named seat none.1.1.0 in
      let to = ap target_of is in
      let few = ltb-false (greatest_target setup older street actor) (raise_target setup older street actor amount) none.1.1.1.1.1.1.1.1.1.1.0 in
      omega (arith, to, few, greatest_within (limit_of setup.code) setup older street actor, ap (all_in setup older street) same)
  reaches _ move due (bring_said named) none is =
      let same = same_actor setup older named seat none.1.1.0 in
      let to = ap target_of is in
      omega (arith, to, min-le_right setup.bring_in (all_in setup older street (actor_of named (TheSeat seat))), ap (all_in setup older street) same)

each_move : (setup : Setup) (rules : Rules) (placed : List Place) (moves : List Move) → IsValid setup → MovesLaw setup rules placed moves → WithinStacks setup moves → AllByRecursion (IsMoveInRange setup) moves
each_move setup rules placed [] valid law within = tt
each_move setup rules placed (move ∷ older) valid law within =
    let fits = law.0 in
    let before = within_before setup move older within in
    let seat = in_turn_in_hand setup placed older move.street move.seat fits.in_turn in
    let far = reaches setup rules older move.street move.seat fits.event move fits.due fits.is_move fits.none fits.place in
    let stack = valid.stacks move.seat seat.first seat.last in (
      record { seat = seat; to = omega (arith, far, all_in_within setup older move.street move.seat before, stack.1) },
      each_move setup rules placed older valid law.1 before,
    )

-- after legal events
pub moves_in_range : (setup : Setup) (rules : Rules) (events : List Said) → IsValid setup → AreLegal setup rules events → AllByRecursion (IsMoveInRange setup) (moves_of (past_of setup events))
moves_in_range setup rules events valid legal =
    each_move setup rules (places_of setup.code (past_of setup events)) (moves_of (past_of setup events)) valid (legal_moves setup rules events legal) (puts_within setup rules events valid.antes legal)
