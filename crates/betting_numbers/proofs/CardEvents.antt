-- An event of cards does not change the running numbers: the state stands for the longer past, or
-- stands for it up to its due.
use Rattle.std.proofs.Common.{◌≡◌, ℕ, ◌≤◌, true, false, nat_le, List, ◌∷◌, Some, sym, ap, subst, ◌∙◌, arith}
use Rattle.std.proofs.lemmas.Bool.{and_from, le-leb}
use Rattle.play_event.specs.declared.reason.Due.TheVariants as dues
use Rattle.play_event.specs.Games.{street_count}
use Rattle.play_event.specs.Past.{Past, Move, Resolved, moves_of, street_of}
use Rattle.play_event.specs.Seats.{is_live, live_count}
use Rattle.play_event.specs.Showing.{has_to_show}
use Rattle.play_event.specs.Due.{due_on, is_settled}
use Rattle.play_event.proofs.StreetLaws.{first_is_due}
use Rattle.betting_numbers.specs.declared.betting_state.BettingState.{BettingState}
use Rattle.betting_numbers.specs.Standing.{Standing, StandsFor}
use Rattle.play_laws.specs.Walk.{has_nothing_later}
use Rattle.betting_numbers.specs.UpTo.{StandsUpTo}
use Rattle.play_laws.specs.Done.{HasCome, is_done}
use Rattle.play_laws.specs.CardEvents.{is_card_event}
use Rattle.play_laws.proofs.CardTurns.{moves_kept, several_live}

-- an event of cards on the street of the state
module _ (b : BettingState) (past : Past) (event : Resolved) (stands : StandsFor b past) (card : is_card_event event ≡ true) (at : street_of event ≡ b.street) (from_one : 1 ≤ b.street) (within : b.street ≤ street_count b.setup.code)
    (still : is_settled b.setup (moves_of past) (b.street, b.due) ≡ false → (seat : ℕ) → is_live (moves_of past) seat ≡ true → has_to_show (event ∷ past) seat ≡ true) where
  pub standing_now : Standing b.setup b.street b (moves_of (event ∷ past))
  standing_now = subst (λ (ms : List Move). Standing b.setup b.street b ms) (sym (moves_kept event past card)) stands.standing

  pub early_now : has_nothing_later (event ∷ past) b.street ≡ true
  early_now = and_from (nat_le (street_of event) b.street) (has_nothing_later past b.street) (le-leb (street_of event) b.street (omega (arith, at))) stands.early

  pub someone_now : 1 ≤ live_count b.setup (moves_of (event ∷ past))
  someone_now = subst (λ (ms : List Move). 1 ≤ live_count b.setup ms) (sym (moves_kept event past card)) stands.someone

  pub more_now : (b.due ≡ dues.Over → ⊥) → nat_le (live_count b.setup (moves_of (event ∷ past))) 1 ≡ false
  more_now other = ap (λ (ms : List Move). nat_le (live_count b.setup ms) 1) (moves_kept event past card) ∙ several_live b.setup past b.street b.due stands.turn_is other

  pub unshown_now : is_settled b.setup (moves_of (event ∷ past)) (b.street, b.due) ≡ false → (seat : ℕ) → is_live (moves_of (event ∷ past)) seat ≡ true → has_to_show (event ∷ past) seat ≡ true
  unshown_now unended seat live =
      still (sym (ap (λ (ms : List Move). is_settled b.setup ms (b.street, b.due)) (moves_kept event past card)) ∙ unended) seat
      (sym (ap (λ (ms : List Move). is_live ms seat) (moves_kept event past card)) ∙ live)

  -- if the same thing is due on the street, the state stands for the past
  pub stands_still : (b.due ≡ dues.Over → ⊥) → due_on b.setup (event ∷ past) b.street ≡ Some b.due → StandsFor b (event ∷ past)
  stands_still other is = record {
    valid = stands.valid;
    standing = standing_now;
    turn_is = first_is_due b.setup (event ∷ past) b.street b.due (more_now other) (record { reached = omega (arith, at); is_due = is; quiet = λ between low high. absurd (omega (arith, low, high, at)) }) within;
    someone = someone_now;
    early = early_now;
    unshown = λ other. unshown_now;
  }

  -- or, if it is complete, up to its due
  pub stands_up_to : (b.due ≡ dues.Over → ⊥) → HasCome b.setup (event ∷ past) b.street b.due → is_done b.setup (event ∷ past) b.due ≡ true → StandsUpTo b (event ∷ past)
  stands_up_to other come done = record {
    valid = stands.valid;
    standing = standing_now;
    early = early_now;
    more = more_now other;
    reached = omega (arith, at);
    quiet = λ between low high. absurd (omega (arith, low, high, at));
    come = come;
    done = done;
    unshown = unshown_now;
  }
