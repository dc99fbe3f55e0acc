-- The player to act that is kept, or that opens by up-cards, is the player to act by the rules.
use Rattle.std.proofs.Common.{◌≡◌, ◌≤◌, Bool, true, false, if◌then◌else◌, Option, Some, None, IfSome, is_some, ℕ, refl, sym, ap, subst, ◌∙◌}
use Rattle.std.proofs.lemmas.Bool.{true≢false}
use Rattle.chip_ledger.specs.declared.numbers.Seat.{Seat}
use Rattle.play_event.specs.declared.up_cards.UpRow.{UpRow}
use Rattle.play_event.specs.declared.reason.Due.{Due}
use Rattle.play_event.specs.declared.reason.Due.TheVariants as dues
use Rattle.play_event.specs.declared.limit.Opener.{Opener}
use Rattle.play_event.specs.declared.limit.Opener.TheVariants as openers
use Rattle.play_event.specs.Openers.{TheSeat, blinds_opener, in_turn}
use Rattle.play_event.specs.Past.{Past}
use Rattle.play_event.specs.Streets.{is_stud_game, is_opened_by_up_cards, opener_of}
use Rattle.play_event.specs.TurnTargets.{is_bet_due}
use Rattle.play_laws.specs.Dues.{is_move, is_before_moves}
use Rattle.play_laws.proofs.Unsettled.{bring_in_is_due}
use Rattle.betting_numbers.specs.declared.betting_state.BettingState.{BettingState}
use Rattle.betting_numbers.specs.LegalMoves.{IsTurn}
use Rattle.chip_ledger.specs.SeatsSaid.{seat_said}
use Rattle.betting_numbers.specs.TurnSaid.{turn_of}
use Rattle.betting_numbers.specs.Standing.{StandsFor}
use Rattle.betting_numbers.specs.Seen.{first_behind_seen, has_to_move_seen, is_move_due_seen}
use Rattle.betting_numbers.specs.Turn.{IsFirstBehind, IsNextUp, KeepsTurn}
use Rattle.betting_numbers.specs.UpSeen.{HoldsUps, known_opener_seen}
use Rattle.betting_numbers.proofs.InTurn.{turn_blinds, turn_found}
use Rattle.betting_numbers.proofs.Passing.{opener_in}
use Rattle.betting_numbers.proofs.UpOpener.{bets_move, turn_first, turn_later}

-- a due bet that is no bring-in is a move
move_of_bets : (due : Due) → is_bet_due due ≡ true → (due ≡ dues.BringIn → ⊥) → is_move due ≡ true
move_of_bets dues.Move bets other = refl
move_of_bets dues.BringIn bets other = absurd (other refl)
move_of_bets (dues.Deal street) bets other = absurd (true≢false (sym bets))
move_of_bets (dues.Draw street) bets other = absurd (true≢false (sym bets))
move_of_bets dues.Show bets other = absurd (true≢false (sym bets))
move_of_bets dues.Over bets other = absurd (true≢false (sym bets))

some_is_none : (seat : Seat) → Some seat ≡ None → ⊥
some_is_none seat is = cc

-- if up-cards open, and no seat has moved on the street
pub by_cards : (b : BettingState) (past : Past) → StandsFor b past → is_bet_due b.due ≡ true → (up : UpRow) → b.last ≡ None → HoldsUps b.setup up past
    → (opener : Opener) → opener_of b.setup.code ≡ opener → is_opened_by_up_cards opener ≡ true
    → (found : Option Seat) → IfSome found (λ seat. seat.number ≤ b.setup.stacks.seats) → seat_said found ≡ known_opener_seen opener b up → IsTurn b past (turn_of (seat_said found))
by_cards b past stands bets up none holds opener game cards =
    turn_first b past stands up holds opener game cards none (bets_move b past stands b.due refl bets (λ due_is. none))

module _ (b : BettingState) (past : Past) (stands : StandsFor b past) (keeps : KeepsTurn b) (bets : is_bet_due b.due ≡ true) where
  -- in a game with blinds
  pub kept_blinds : opener_of b.setup.code ≡ openers.Blinds → IsTurn b past (turn_of (seat_said b.next))
  kept_blinds game =
      turn_blinds b past stands (blinds_opener b.setup b.street) (opener_in b) (seat_said b.next)
      (keeps (move_of_bets b.due bets (λ is.
      let stud : is_stud_game b.setup.code ≡ true = bring_in_is_due b.setup past b.street (stands.turn_is ∙ ap (λ (d : Due). (b.street, d)) is) in
      true≢false (sym stud ∙ ap is_opened_by_up_cards game))))
      bets refl game

  -- if some seat has moved on the street
  pub kept_later : (is_before_moves b.due ≡ true → b.last ≡ None) → (last : Seat) → b.last ≡ Some last → IsTurn b past (turn_of (seat_said b.next))
  kept_later begins last is =
      let other : b.due ≡ dues.BringIn → ⊥ = λ due_is. some_is_none last (sym is ∙ begins (ap is_before_moves due_is)) in
      turn_later b past stands last is (blinds_opener b.setup b.street) (opener_in b) (seat_said b.next) (keeps (move_of_bets b.due bets other))
      (bets_move b past stands b.due refl bets (λ due_is. absurd (other due_is)))

-- the seat after the one that is kept was not looked for
pub none_behind : (turn : Option Seat) (P : Seat → Seat → Type 0) → IfSome turn (λ seat. IfSome None (P seat))
none_behind None P = tt
none_behind (Some seat) P = tt

-- the seat after the one that opens by up-cards
pub opened_behind : (b : BettingState) → b.last ≡ None → (opens behind : Option Seat)
    → IfSome opens (λ seat. in_turn (seat_said behind) ≡ first_behind_seen b seat.number)
    → IfSome behind (λ seat. seat.number ≤ b.setup.stacks.seats) → IfSome opens (λ seat. IfSome behind (IsFirstBehind b seat.number))
opened_behind b none None behind first in_hand = tt
opened_behind b none (Some seat) None first in_hand = tt
opened_behind b none (Some seat) (Some other) first in_hand = record { before_moves = none; first = first; in_hand = in_hand }

-- a move is due if the next seat to act has one to make
some_seat : (goes : Bool) (seat : ℕ) → goes ≡ is_some (if goes then Some seat else None)
some_seat true seat = refl
some_seat false seat = refl

pub next_due : (b : BettingState) (behind : Option Seat) (seat : Seat) → behind ≡ Some seat → IfSome behind (IsNextUp b) → (goes : Bool) → has_to_move_seen b seat.number ≡ goes → goes ≡ is_move_due_seen b
next_due b behind seat is next_up goes goes_is =
    let next : IsNextUp b seat = subst (λ (o : Option Seat). IfSome o (IsNextUp b)) is next_up in
    some_seat goes seat.number
    ∙ turn_found b (blinds_opener b.setup b.street) (opener_in b) (if goes then Some seat.number else None)
    (ap (λ (g : Bool). in_turn (if g then Some seat.number else None)) (sym goes_is) ∙ next.turn (TheSeat (blinds_opener b.setup b.street)))
