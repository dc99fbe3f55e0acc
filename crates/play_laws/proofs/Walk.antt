-- What is due once the cards of a street are dealt: its betting, then the next street's cards, then
-- the showdown.
use Rattle.std.proofs.Common.{◌≡◌, ℕ, ◌+◌, ◌<◌, ◌≤◌, Bool, true, false, nat_lt, nat_le, if◌then◌else◌, inl, inr, ◌∷◌, Some, None, refl, ap, ◌∙◌, arith}
use Rattle.std.proofs.lemmas.Bool.{and_from, cases_lt, ltb-true, ltb-false, le-leb}
use Rattle.card_set.proofs.Any.{list_any-weaker}
use Rattle.play_event.proofs.StreetLaws.{first_is_due}
use Rattle.play_event.specs.Dealing.{is_draw_due}
use Rattle.play_event.specs.Due.{turn, due_on, showdown, is_bring_in_due, is_move_due}
use Rattle.play_event.specs.Games.{street_count}
use Rattle.play_event.specs.Past.{Past, Move, Moved, moves_of, newest_street}
use Rattle.play_event.specs.Seats.{is_live, live_count, all_seats}
use Rattle.play_event.specs.Showing.{has_to_show}
use Rattle.play_event.specs.declared.reason.Due.TheVariants as dues
use Rattle.play_event.specs.declared.reason.Due.{Due}
use Rattle.play_event.specs.declared.setup.Setup.{Setup}
use Rattle.play_laws.proofs.TurnAfter.{AreDealt, due_by, cards_come, quiet_is_showdown, few_is_over, one_live}
use Rattle.play_laws.specs.Walk.{has_nothing_later, street_cards, turn_after, walked}

module _ (setup : Setup) (past : Past) (street : ℕ) (are : AreDealt setup past street) (early : has_nothing_later past street ≡ true) (reached : newest_street past ≤ street) (quiet : (between : ℕ) → newest_street past ≤ between → between < street → due_on setup past between ≡ None) (within : street ≤ street_count setup.code) (more : nat_le (live_count setup (moves_of past)) 1 ≡ false) where
  pub due_here : (bring_in move : Bool) → is_bring_in_due setup (moves_of past) street ≡ bring_in → is_move_due setup (moves_of past) street ≡ move → due_on setup past street ≡ due_by street false false bring_in move
  due_here bring_in move bring_is move_is =
      ap (λ d. due_by street d (is_draw_due setup past street) (is_bring_in_due setup (moves_of past) street) (is_move_due setup (moves_of past) street)) are.dealt
      ∙ ap (λ d. due_by street false d (is_bring_in_due setup (moves_of past) street) (is_move_due setup (moves_of past) street)) are.drawn
      ∙ ap (λ d. due_by street false false d (is_move_due setup (moves_of past) street)) bring_is
      ∙ ap (due_by street false false bring_in) move_is

  here : (due : Due) → due_on setup past street ≡ Some due → turn setup past ≡ (street, due)
  here due is = first_is_due setup past street due more (record { reached = reached; is_due = is; quiet = quiet }) within

  quiet_to : due_on setup past street ≡ None → (between : ℕ) → newest_street past ≤ between → between ≤ street → due_on setup past between ≡ None
  quiet_to none between low high = elim (cases_lt between street) [
    | inl before ↦ quiet between low before
    | inr reach ↦ let same : between ≡ street = omega (arith, reach, high) in ap (due_on setup past) same ∙ none
  ]

  walk_by : (bring_in move before : Bool) → is_bring_in_due setup (moves_of past) street ≡ bring_in → is_move_due setup (moves_of past) street ≡ move → nat_lt street (street_count setup.code) ≡ before
      → turn setup past ≡ (if bring_in then (street, dues.BringIn) else if move then (street, dues.Move) else if before then (street + 1, street_cards setup.code (street + 1)) else (street, showdown setup past))
  walk_by true move before bring_is move_is before_is = here dues.BringIn (due_here true move bring_is move_is)
  walk_by false true before bring_is move_is before_is = here dues.Move (due_here false true bring_is move_is)
  walk_by false false true bring_is move_is before_is =
      let less : street < street_count setup.code = ltb-true street (street_count setup.code) before_is in
      let come : due_on setup past (street + 1) ≡ Some (street_cards setup.code (street + 1)) = cards_come setup past street (street + 1) early (omega arith) (omega (arith, less)) more in
      first_is_due setup past (street + 1) (street_cards setup.code (street + 1)) more (record { reached = omega (arith, reached); is_due = come; quiet = λ between low high. quiet_to (due_here false false bring_is move_is) between low (omega (arith, high)) }) (omega (arith, less))
  walk_by false false false bring_is move_is before_is =
      let least : street_count setup.code ≤ street = ltb-false street (street_count setup.code) before_is in
      let same : street_count setup.code ≡ street = omega (arith, least, within) in
      quiet_is_showdown setup past more (λ between low high. quiet_to (due_here false false bring_is move_is) between low (omega (arith, high, within))) (omega (arith, reached, within))
      ∙ ap (λ (n : ℕ). (n, showdown setup past)) same

  pub walk_on : turn setup past ≡ walked setup.code street (is_bring_in_due setup (moves_of past) street) (is_move_due setup (moves_of past) street) (showdown setup past)
  walk_on = walk_by (is_bring_in_due setup (moves_of past) street) (is_move_due setup (moves_of past) street) (nat_lt street (street_count setup.code)) refl refl refl

-- if each live seat has to show, the showdown is not over
pub shows_come : (setup : Setup) (past : Past) → nat_le (live_count setup (moves_of past)) 1 ≡ false → ((seat : ℕ) → is_live (moves_of past) seat ≡ true → has_to_show past seat ≡ true) → showdown setup past ≡ dues.Show
shows_come setup past more each =
    ap (λ (b : Bool). if b then dues.Show else dues.Over) (list_any-weaker (is_live (moves_of past)) (has_to_show past) each (all_seats setup) (one_live setup (moves_of past) more))

-- what is due after a move
module _ (setup : Setup) (past : Past) (move : Move) (are : AreDealt setup (Moved move ∷ past) move.street) (early : has_nothing_later past move.street ≡ true) (within : move.street ≤ street_count setup.code) (each : (seat : ℕ) → is_live (move ∷ moves_of past) seat ≡ true → has_to_show (Moved move ∷ past) seat ≡ true) where
  early_now : has_nothing_later (Moved move ∷ past) move.street ≡ true
  early_now = and_from (nat_le move.street move.street) (has_nothing_later past move.street) (le-leb move.street move.street (omega arith)) early

  after_by : (few : Bool) → nat_le (live_count setup (move ∷ moves_of past)) 1 ≡ few → turn setup (Moved move ∷ past) ≡ turn_after setup.code move.street few (is_bring_in_due setup (move ∷ moves_of past) move.street) (is_move_due setup (move ∷ moves_of past) move.street)
  after_by true few_is = few_is_over setup (Moved move ∷ past) few_is
  after_by false few_is =
      walk_on setup (Moved move ∷ past) move.street are early_now (omega arith) (λ between low high. absurd (omega (arith, low, high))) within few_is
      ∙ ap (walked setup.code move.street (is_bring_in_due setup (move ∷ moves_of past) move.street) (is_move_due setup (move ∷ moves_of past) move.street)) (shows_come setup (Moved move ∷ past) few_is each)

  pub turn_after_move : turn setup (Moved move ∷ past) ≡ turn_after setup.code move.street (nat_le (live_count setup (move ∷ moves_of past)) 1) (is_bring_in_due setup (move ∷ moves_of past) move.street) (is_move_due setup (move ∷ moves_of past) move.street)
  turn_after_move = after_by (nat_le (live_count setup (move ∷ moves_of past)) 1) refl
