-- After legal events no seat has put in more than its stack.
use Rattle.std.proofs.Common.{◌≡◌, ℕ, ◌+◌, ◌-◌, ◌≤◌, ◌==◌, Bool, true, false, None, List, [], ◌∷◌, refl, sym, subst, arith, if◌then◌else◌}
use Rattle.std.proofs.Math.Nat.{min-le_left, min-le_right}
use Rattle.std.proofs.lemmas.Bool.{ltb-false, eqb-true}
use Rattle.chip_ledger.specs.SeatRow.{amount_of}
use Rattle.play_event.specs.declared.setup.Setup.{Setup}
use Rattle.play_event.specs.declared.setup.Rules.{Rules}
use Rattle.play_event.specs.declared.limit.Limit.{Limit}
use Rattle.play_event.specs.declared.limit.Limit.TheVariants as limits
use Rattle.play_event.specs.Streets.{limit_of}
use Rattle.play_event.specs.Said as said
use Rattle.play_event.specs.Said.{Said}
use Rattle.play_event.specs.Past as past
use Rattle.play_event.specs.Past.{Past, Move, Act, moves_of}
use Rattle.play_event.specs.Chips.{chips_put, chips_left, street_chips, all_in, posted, chips_added}
use Rattle.play_event.specs.CurrentBet.{current_bet}
use Rattle.chip_ledger.specs.Greatest.{greatest}
use Rattle.play_event.specs.Amounts.{call_target, raise_target, bring_in_target}
use Rattle.play_event.specs.Targets.{greatest_target, greatest_target_in, pot_ceiling, full_targets}
use Rattle.play_event.specs.Openers.{InTurn}
use Rattle.play_event.specs.PlayerToAct.{player_to_act}
use Rattle.play_event.specs.Table.{up_cards}
use Rattle.play_event.specs.MoveReasons.{actor_of, is_raise_too_big}
use Rattle.play_event.specs.Due.{turn}
use Rattle.play_event.specs.Reasons.{why}
use Rattle.play_event.specs.Scripts.{with_event, past_of, resolved_by}
use Rattle.play_event.specs.Laws.{AreLegal}
use Rattle.play_event.proofs.ReasonLaws.{not_too_big}

-- no seat has put in more than its stack
abbrev pub WithinStacks : Setup → List Move → Type 0
WithinStacks setup moves = (seat : ℕ) → chips_put setup moves seat ≤ amount_of setup.stacks seat

-- what is posted is within the stack
pub posted_within : (setup : Setup) → ((seat : ℕ) → amount_of setup.antes seat ≤ amount_of setup.stacks seat) → WithinStacks setup []
posted_within setup antes seat = omega (arith, antes seat, min-le_right (amount_of setup.blinds seat) (amount_of setup.stacks seat - amount_of setup.antes seat))

-- a move that goes no further than all-in leaves its seat within its stack
added_within : (setup : Setup) (moves : List Move) (street seat other target : ℕ) (b : Bool) → WithinStacks setup moves → (b ≡ true → seat ≡ other) → target ≤ all_in setup moves street seat → (posted setup other + ((if b then target - street_chips setup moves street seat else 0) + chips_added other moves)) ≤ amount_of setup.stacks other
added_within setup moves street seat other target false within same most = omega (arith, within other)
added_within setup moves street seat other target true within same most =
    let mine : seat ≡ other = same refl in
    let P : ℕ → Type 0 = λ n. target ≤ all_in setup moves street n → (posted setup other + ((target - street_chips setup moves street n) + chips_added other moves)) ≤ amount_of setup.stacks other in
    subst P (sym mine) (λ reach. omega (arith, within other, reach)) most

moved_within : (setup : Setup) (moves : List Move) (street seat : ℕ) (act : Act) (target : ℕ) → WithinStacks setup moves → target ≤ all_in setup moves street seat → WithinStacks setup (record { street = street; seat = seat; act = act; from = street_chips setup moves street seat; to = target } ∷ moves)
moved_within setup moves street seat act target within most other =
    added_within setup moves street seat other target (seat == other) within (λ is. eqb-true seat other is) most

-- the highest legal target is at most all-in
pub greatest_within : (limit : Limit) (setup : Setup) (moves : List Move) (street seat : ℕ) → greatest_target_in limit setup moves street seat ≤ all_in setup moves street seat
greatest_within limits.No setup moves street seat = omega arith
greatest_within limits.Pot setup moves street seat = min-le_left (all_in setup moves street seat) (pot_ceiling setup moves street seat)
greatest_within limits.Fixed setup moves street seat = min-le_left (all_in setup moves street seat) (greatest (full_targets setup moves street))

-- an event that takes place leaves each seat within its stack
resolved_within : (setup : Setup) (before : Past) (street : ℕ) (turn : InTurn) (event : Said) → WithinStacks setup (moves_of before) → is_raise_too_big setup (moves_of before) street turn event ≡ false → WithinStacks setup (moves_of (resolved_by setup (moves_of before) street turn event ∷ before))
resolved_within setup before street turn (said.Hole seat cards) within legal = within
resolved_within setup before street turn (said.Board cards) within legal = within
resolved_within setup before street turn (said.Discard seat cards) within legal = within
resolved_within setup before street turn (said.Show seat cards) within legal = within
resolved_within setup before street turn (said.Muck seat) within legal = within
resolved_within setup before street turn (said.Fold named) within legal =
    let seat = actor_of named turn in
    moved_within setup (moves_of before) street seat past.Folded (street_chips setup (moves_of before) street seat) within (omega arith)
resolved_within setup before street turn (said.Call named stated) within legal =
    let seat = actor_of named turn in
    moved_within setup (moves_of before) street seat past.Called (call_target setup (moves_of before) street seat) within (min-le_right (current_bet setup (moves_of before) street) (all_in setup (moves_of before) street seat))
resolved_within setup before street turn (said.BringIn named) within legal =
    let seat = actor_of named turn in
    moved_within setup (moves_of before) street seat past.BroughtIn (bring_in_target setup (moves_of before) street seat) within (min-le_right setup.bring_in (all_in setup (moves_of before) street seat))
resolved_within setup before street turn (said.Raise named amount) within legal =
    let seat = actor_of named turn in
    let target = raise_target setup (moves_of before) street seat amount in
    let most : target ≤ greatest_target setup (moves_of before) street seat = ltb-false (greatest_target setup (moves_of before) street seat) target legal in
    let reach : greatest_target setup (moves_of before) street seat ≤ all_in setup (moves_of before) street seat = greatest_within (limit_of setup.code) setup (moves_of before) street seat in
    moved_within setup (moves_of before) street seat past.Raised target within (omega (arith, most, reach))

-- and so does each legal event
event_within : (setup : Setup) (rules : Rules) (before : Past) (event : Said) → WithinStacks setup (moves_of before) → why setup rules before event ≡ None → WithinStacks setup (moves_of (with_event setup event before))
unfolding with_event
event_within setup rules before event within legal =
    let street = (turn setup before).0 in
    resolved_within setup before street (player_to_act setup (up_cards setup.code before) (moves_of before) street) event within (not_too_big setup rules before event legal)

pub puts_within : (setup : Setup) (rules : Rules) (events : List Said) → ((seat : ℕ) → amount_of setup.antes seat ≤ amount_of setup.stacks seat) → AreLegal setup rules events → (seat : ℕ) → chips_put setup (moves_of (past_of setup events)) seat ≤ amount_of setup.stacks seat
puts_within setup rules [] antes legal = posted_within setup antes
puts_within setup rules (event ∷ before) antes legal =
    event_within setup rules (past_of setup before) event (puts_within setup rules before antes legal.1) legal.0

-- what was put in and what is left add up to the stack
pub put_and_left : (setup : Setup) (rules : Rules) (events : List Said) → ((seat : ℕ) → amount_of setup.antes seat ≤ amount_of setup.stacks seat) → AreLegal setup rules events → (seat : ℕ) → chips_put setup (moves_of (past_of setup events)) seat + chips_left setup (moves_of (past_of setup events)) seat ≡ amount_of setup.stacks seat
put_and_left setup rules events antes legal seat = omega (arith, puts_within setup rules events antes legal seat)
