-- What a legal event of cards is, by what is due.
use Rattle.std.proofs.Common.{◌≡◌, ℕ, true, false, ◌&&◌, ◌||◌, not, nat_le, ◌∷◌, refl, sym, ap}
use Rattle.std.proofs.lemmas.Bool.{true≢false}
use Rattle.play_event.specs.Dealing.{is_draw_due}
use Rattle.play_event.specs.Due.{is_settled, has_able_seat_to_call}
use Rattle.play_event.specs.Past.{Past, moves_of, street_of}
use Rattle.play_event.specs.Reasons.{may_come}
use Rattle.play_event.specs.Said as said
use Rattle.play_event.specs.Said.{Said}
use Rattle.play_event.specs.Scripts.{resolved_on}
use Rattle.play_event.specs.Seats.{able_count, live_count}
use Rattle.play_event.specs.Showing.{has_to_show}
use Rattle.play_event.specs.declared.reason.Due.TheVariants as dues
use Rattle.play_event.specs.declared.reason.Due.{Due}
use Rattle.play_event.specs.declared.setup.Setup.{Setup}
use Rattle.play_laws.specs.CardEvents.{is_card_event, is_showing, is_card_said}
use Rattle.play_event.specs.TurnTargets.{is_bet_due}

pub at_street : (setup : Setup) (past : Past) (street : ℕ) (event : Said) → street_of (resolved_on setup past street event) ≡ street
at_street setup past street (said.Hole seat cards) = refl
at_street setup past street (said.Board cards) = refl
at_street setup past street (said.Fold named) = refl
at_street setup past street (said.Call named stated) = refl
at_street setup past street (said.Raise named amount) = refl
at_street setup past street (said.BringIn named) = refl
at_street setup past street (said.Discard seat cards) = refl
at_street setup past street (said.Show seat cards) = refl
at_street setup past street (said.Muck seat) = refl

pub card_resolved : (setup : Setup) (past : Past) (street : ℕ) (event : Said) → is_card_said event ≡ true → is_card_event (resolved_on setup past street event) ≡ true
card_resolved setup past street (said.Hole seat cards) is = refl
card_resolved setup past street (said.Board cards) is = refl
card_resolved setup past street (said.Fold named) is = absurd (true≢false (sym is))
card_resolved setup past street (said.Call named stated) is = absurd (true≢false (sym is))
card_resolved setup past street (said.Raise named amount) is = absurd (true≢false (sym is))
card_resolved setup past street (said.BringIn named) is = absurd (true≢false (sym is))
card_resolved setup past street (said.Discard seat cards) is = refl
card_resolved setup past street (said.Show seat cards) is = refl
card_resolved setup past street (said.Muck seat) is = refl

-- an event that is not a show leaves the same seats to show
pub shows_kept : (setup : Setup) (past : Past) (street : ℕ) (event : Said) (seat : ℕ) → is_card_said event ≡ true → is_showing event ≡ false → has_to_show (resolved_on setup past street event ∷ past) seat ≡ has_to_show past seat
shows_kept setup past street (said.Hole owner cards) seat card unshown = refl
shows_kept setup past street (said.Board cards) seat card unshown = refl
shows_kept setup past street (said.Discard owner cards) seat card unshown = refl
shows_kept setup past street (said.Fold named) seat card unshown = absurd (true≢false (sym card))
shows_kept setup past street (said.Call named stated) seat card unshown = absurd (true≢false (sym card))
shows_kept setup past street (said.Raise named amount) seat card unshown = absurd (true≢false (sym card))
shows_kept setup past street (said.BringIn named) seat card unshown = absurd (true≢false (sym card))
shows_kept setup past street (said.Show owner cards) seat card unshown = absurd (true≢false unshown)
shows_kept setup past street (said.Muck owner) seat card unshown = absurd (true≢false unshown)

-- a show that may come, comes in a settled hand
module _ (setup : Setup) (past : Past) (street : ℕ) (several : nat_le 2 (live_count setup (moves_of past)) ≡ true) where
  after_is : is_settled setup (moves_of past) (street, dues.Show) ≡ true
  after_is = ap (λ l. l && (true || (nat_le (able_count setup (moves_of past)) 1 && not (has_able_seat_to_call setup (moves_of past) street)))) several

  pub settled_at : (due : Due) (event : Said) → is_showing event ≡ true → may_come setup past (street, due) event ≡ true → (due ≡ dues.Over → ⊥) → is_settled setup (moves_of past) (street, due) ≡ true
  settled_at dues.Over event shows is other = absurd (other refl)
  settled_at dues.Show event shows is other = after_is
  settled_at (dues.Deal on) (said.Show seat cards) shows is other = is
  settled_at (dues.Deal on) (said.Muck seat) shows is other = absurd (true≢false (sym is))
  settled_at (dues.Draw on) (said.Show seat cards) shows is other = is
  settled_at (dues.Draw on) (said.Muck seat) shows is other = absurd (true≢false (sym is))
  settled_at dues.BringIn (said.Show seat cards) shows is other = is
  settled_at dues.BringIn (said.Muck seat) shows is other = absurd (true≢false (sym is))
  settled_at dues.Move (said.Show seat cards) shows is other = is
  settled_at dues.Move (said.Muck seat) shows is other = absurd (true≢false (sym is))
  settled_at due (said.Hole seat cards) shows is other = absurd (true≢false (sym shows))
  settled_at due (said.Board cards) shows is other = absurd (true≢false (sym shows))
  settled_at due (said.Fold named) shows is other = absurd (true≢false (sym shows))
  settled_at due (said.Call named stated) shows is other = absurd (true≢false (sym shows))
  settled_at due (said.Raise named amount) shows is other = absurd (true≢false (sym shows))
  settled_at due (said.BringIn named) shows is other = absurd (true≢false (sym shows))
  settled_at due (said.Discard seat cards) shows is other = absurd (true≢false (sym shows))

-- if betting is due, no event of cards may come except a show of a settled hand
pub betting_event : (setup : Setup) (past : Past) (street : ℕ) (due : Due) (event : Said) → is_bet_due due ≡ true → is_card_said event ≡ true → may_come setup past (street, due) event ≡ true → is_settled setup (moves_of past) (street, due) ≡ true
betting_event setup past street dues.BringIn (said.Show seat cards) bets card is = is
betting_event setup past street dues.Move (said.Show seat cards) bets card is = is
betting_event setup past street dues.BringIn (said.Hole seat cards) bets card is = absurd (true≢false (sym is))
betting_event setup past street dues.Move (said.Hole seat cards) bets card is = absurd (true≢false (sym is))
betting_event setup past street dues.BringIn (said.Board cards) bets card is = absurd (true≢false (sym is))
betting_event setup past street dues.Move (said.Board cards) bets card is = absurd (true≢false (sym is))
betting_event setup past street dues.BringIn (said.Discard seat cards) bets card is = absurd (true≢false (sym is))
betting_event setup past street dues.Move (said.Discard seat cards) bets card is = absurd (true≢false (sym is))
betting_event setup past street dues.BringIn (said.Muck seat) bets card is = absurd (true≢false (sym is))
betting_event setup past street dues.Move (said.Muck seat) bets card is = absurd (true≢false (sym is))
betting_event setup past street due (said.Fold named) bets card is = absurd (true≢false (sym card))
betting_event setup past street due (said.Call named stated) bets card is = absurd (true≢false (sym card))
betting_event setup past street due (said.Raise named amount) bets card is = absurd (true≢false (sym card))
betting_event setup past street due (said.BringIn named) bets card is = absurd (true≢false (sym card))
betting_event setup past street (dues.Deal on) event bets card is = absurd (true≢false (sym bets))
betting_event setup past street (dues.Draw on) event bets card is = absurd (true≢false (sym bets))
betting_event setup past street dues.Show event bets card is = absurd (true≢false (sym bets))
betting_event setup past street dues.Over event bets card is = absurd (true≢false (sym bets))

-- at the showdown no event draws
pub undrawn : (setup : Setup) (past : Past) (street : ℕ) (event : Said) → is_card_said event ≡ true → may_come setup past (street, dues.Show) event ≡ true → is_draw_due setup past street ≡ false → is_draw_due setup (resolved_on setup past street event ∷ past) street ≡ false
undrawn setup past street (said.Show seat cards) card is none = none
undrawn setup past street (said.Muck seat) card is none = none
undrawn setup past street (said.Hole seat cards) card is none = absurd (true≢false (sym is))
undrawn setup past street (said.Board cards) card is none = absurd (true≢false (sym is))
undrawn setup past street (said.Discard seat cards) card is none = absurd (true≢false (sym is))
undrawn setup past street (said.Fold named) card is none = absurd (true≢false (sym card))
undrawn setup past street (said.Call named stated) card is none = absurd (true≢false (sym card))
undrawn setup past street (said.Raise named amount) card is none = absurd (true≢false (sym card))
undrawn setup past street (said.BringIn named) card is none = absurd (true≢false (sym card))
