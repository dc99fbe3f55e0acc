-- After a legal event of cards the state stands for the past, or stands for it up to its due if
-- that is complete.
use Rattle.std.proofs.Common.{◌≡◌, ℕ, ◌≤◌, Bool, true, false, if◌then◌else◌, List, ◌∷◌, Some, None, refl, sym, ap, subst, ◌∙◌, arith}
use Rattle.std.proofs.lemmas.Bool.{not-false}
use Rattle.play_event.specs.declared.reason.Due.{Due}
use Rattle.play_event.specs.declared.reason.Due.TheVariants as dues
use Rattle.play_event.specs.Games.{street_count}
use Rattle.play_event.specs.Past.{Past, Move, Resolved, moves_of, newest_street, street_of}
use Rattle.play_event.specs.Seats.{is_live}
use Rattle.play_event.specs.Dealing.{is_deal_due, is_draw_due}
use Rattle.play_event.specs.Showing.{is_show_due, has_to_show}
use Rattle.play_event.specs.Due.{turn, due_on, is_bring_in_due, is_move_due, is_settled}
use Rattle.play_event.proofs.StreetLaws.{due_is_first}
use Rattle.betting_numbers.specs.declared.betting_state.BettingState.{BettingState}
use Rattle.betting_numbers.specs.Standing.{StandsFor}
use Rattle.betting_numbers.specs.UpTo.{StandsUpTo}
use Rattle.play_laws.specs.Done.{HasCome, is_done}
use Rattle.play_laws.proofs.TurnAfter.{due_by, quiet_is_showdown}
use Rattle.play_laws.specs.CardEvents.{is_card_event}
use Rattle.play_laws.proofs.CardTurns.{moves_kept, dealt_more, deal_by, draw_by, none_dealt_in_draw}
use Rattle.betting_numbers.proofs.CardEvents.{stands_still, stands_up_to, standing_now, early_now, more_now, unshown_now, someone_now}
use Rattle.play_laws.proofs.Showdown.{nothing_by, show_over, show_is_last}

module _ (b : BettingState) (past : Past) (event : Resolved) (stands : StandsFor b past) (card : is_card_event event ≡ true) (at : street_of event ≡ b.street) (from_one : 1 ≤ b.street) (within : b.street ≤ street_count b.setup.code)
    (still : is_settled b.setup (moves_of past) (b.street, b.due) ≡ false → (seat : ℕ) → is_live (moves_of past) seat ≡ true → has_to_show (event ∷ past) seat ≡ true) where
  turn_at : (due : Due) → b.due ≡ due → turn b.setup past ≡ (b.street, due)
  turn_at due is = stands.turn_is ∙ ap (λ (d : Due). (b.street, d)) is

  -- while cards are dealt
  pub deal_kept : (on : ℕ) → b.due ≡ dues.Deal on → is_done b.setup (event ∷ past) b.due ≡ false → StandsFor b (event ∷ past)
  deal_kept on is unended =
      let parts = deal_by b.street on (is_deal_due b.setup past b.street) (is_draw_due b.setup past b.street) (is_bring_in_due b.setup (moves_of past) b.street) (is_move_due b.setup (moves_of past) b.street) (due_is_first b.setup past b.street (dues.Deal on) (turn_at (dues.Deal on) is) refl).is_due in
      let due : is_deal_due b.setup (event ∷ past) b.street ≡ true =
      ap (is_deal_due b.setup (event ∷ past)) (sym parts.0) ∙ not-false (is_deal_due b.setup (event ∷ past) on) (sym (ap (is_done b.setup (event ∷ past)) is) ∙ unended) in
      stands_still b past event stands card at from_one within still (λ over. absurd (differ on (sym is ∙ over)))
      (ap (λ d. due_by b.street d (is_draw_due b.setup (event ∷ past) b.street) (is_bring_in_due b.setup (moves_of (event ∷ past)) b.street) (is_move_due b.setup (moves_of (event ∷ past)) b.street)) due
      ∙ ap (λ (n : ℕ). Some (dues.Deal n)) (sym parts.0) ∙ ap Some (sym is))
    where
      differ : (n : ℕ) → dues.Deal n ≡ dues.Over → ⊥
      differ n e = cc

  pub deal_ended : (on : ℕ) → b.due ≡ dues.Deal on → is_done b.setup (event ∷ past) b.due ≡ true → StandsUpTo b (event ∷ past)
  deal_ended on is done =
      let parts = deal_by b.street on (is_deal_due b.setup past b.street) (is_draw_due b.setup past b.street) (is_bring_in_due b.setup (moves_of past) b.street) (is_move_due b.setup (moves_of past) b.street) (due_is_first b.setup past b.street (dues.Deal on) (turn_at (dues.Deal on) is) refl).is_due in
      stands_up_to b past event stands card at from_one within still (λ over. absurd (differ on (sym is ∙ over)))
      (subst (HasCome b.setup (event ∷ past) b.street) (sym is) (parts.0, none_dealt_in_draw b.setup past b.street from_one within parts.1)) done
    where
      differ : (n : ℕ) → dues.Deal n ≡ dues.Over → ⊥
      differ n e = cc

  -- while seats draw
  pub draw_kept : (on : ℕ) → b.due ≡ dues.Draw on → is_done b.setup (event ∷ past) b.due ≡ false → StandsFor b (event ∷ past)
  draw_kept on is unended =
      let parts = draw_by b.street on (is_deal_due b.setup past b.street) (is_draw_due b.setup past b.street) (is_bring_in_due b.setup (moves_of past) b.street) (is_move_due b.setup (moves_of past) b.street) (due_is_first b.setup past b.street (dues.Draw on) (turn_at (dues.Draw on) is) refl).is_due in
      let due : is_draw_due b.setup (event ∷ past) b.street ≡ true =
      ap (is_draw_due b.setup (event ∷ past)) (sym parts.0) ∙ not-false (is_draw_due b.setup (event ∷ past) on) (sym (ap (is_done b.setup (event ∷ past)) is) ∙ unended) in
      stands_still b past event stands card at from_one within still (λ over. absurd (differ on (sym is ∙ over)))
      (ap (λ d. due_by b.street d (is_draw_due b.setup (event ∷ past) b.street) (is_bring_in_due b.setup (moves_of (event ∷ past)) b.street) (is_move_due b.setup (moves_of (event ∷ past)) b.street)) (dealt_more b.setup event past b.street card parts.1)
      ∙ ap (λ d. due_by b.street false d (is_bring_in_due b.setup (moves_of (event ∷ past)) b.street) (is_move_due b.setup (moves_of (event ∷ past)) b.street)) due
      ∙ ap (λ (n : ℕ). Some (dues.Draw n)) (sym parts.0) ∙ ap Some (sym is))
    where
      differ : (n : ℕ) → dues.Draw n ≡ dues.Over → ⊥
      differ n e = cc

  pub draw_ended : (on : ℕ) → b.due ≡ dues.Draw on → is_done b.setup (event ∷ past) b.due ≡ true → StandsUpTo b (event ∷ past)
  draw_ended on is done =
      let parts = draw_by b.street on (is_deal_due b.setup past b.street) (is_draw_due b.setup past b.street) (is_bring_in_due b.setup (moves_of past) b.street) (is_move_due b.setup (moves_of past) b.street) (due_is_first b.setup past b.street (dues.Draw on) (turn_at (dues.Draw on) is) refl).is_due in
      stands_up_to b past event stands card at from_one within still (λ over. absurd (differ on (sym is ∙ over)))
      (subst (HasCome b.setup (event ∷ past) b.street) (sym is) (parts.0, dealt_more b.setup event past b.street card parts.1)) done
    where
      differ : (n : ℕ) → dues.Draw n ≡ dues.Over → ⊥
      differ n e = cc

  -- while seats show, which does not change the draws
  module _ (draws : is_draw_due b.setup past b.street ≡ false → is_draw_due b.setup (event ∷ past) b.street ≡ false) (reached : newest_street past ≤ b.street) where
    quiet_now : b.due ≡ dues.Show → due_on b.setup (event ∷ past) b.street ≡ None
    quiet_now is =
        let parts = nothing_by b.street (is_deal_due b.setup past b.street) (is_draw_due b.setup past b.street) (is_bring_in_due b.setup (moves_of past) b.street) (is_move_due b.setup (moves_of past) b.street) ((show_is_last b.setup past b.street (turn_at dues.Show is)).quiet reached) in
        ap (λ d. due_by b.street d (is_draw_due b.setup (event ∷ past) b.street) (is_bring_in_due b.setup (moves_of (event ∷ past)) b.street) (is_move_due b.setup (moves_of (event ∷ past)) b.street)) (dealt_more b.setup event past b.street card parts.0)
        ∙ ap (λ d. due_by b.street false d (is_bring_in_due b.setup (moves_of (event ∷ past)) b.street) (is_move_due b.setup (moves_of (event ∷ past)) b.street)) (draws parts.1)
        ∙ ap (λ (ms : List Move). due_by b.street false false (is_bring_in_due b.setup ms b.street) (is_move_due b.setup ms b.street)) (moves_kept event past card)
        ∙ ap (λ i. due_by b.street false false i (is_move_due b.setup (moves_of past) b.street)) parts.2
        ∙ ap (due_by b.street false false false) parts.3

    pub show_done : b.due ≡ dues.Show → is_done b.setup (event ∷ past) b.due ≡ true → StandsUpTo b (event ∷ past)
    show_done is done =
        stands_up_to b past event stands card at from_one within still (λ over. show_over (sym is ∙ over))
        (subst (HasCome b.setup (event ∷ past) b.street) (sym is) ((show_is_last b.setup past b.street (turn_at dues.Show is)).last, quiet_now is)) done

    pub show_kept : b.due ≡ dues.Show → is_done b.setup (event ∷ past) b.due ≡ false → StandsFor b (event ∷ past)
    show_kept is unended =
        let last : b.street ≡ street_count b.setup.code = (show_is_last b.setup past b.street (turn_at dues.Show is)).last in
        let shows : is_show_due b.setup (event ∷ past) ≡ true = not-false (is_show_due b.setup (event ∷ past)) (sym (ap (is_done b.setup (event ∷ past)) is) ∙ unended) in
        let other : b.due ≡ dues.Over → ⊥ = λ over. show_over (sym is ∙ over) in
        record {
          valid = stands.valid;
          standing = standing_now b past event stands card at from_one within still;
          turn_is =
              quiet_is_showdown b.setup (event ∷ past) (more_now b past event stands card at from_one within still other)
              (λ between low high. let same : between ≡ b.street = omega (arith, low, high, at, last) in ap (due_on b.setup (event ∷ past)) same ∙ quiet_now is)
              (omega (arith, at, last))
              ∙ ap (λ (s : Bool). (street_count b.setup.code, if s then dues.Show else dues.Over)) shows
              ∙ ap (λ (n : ℕ). (n, dues.Show)) (sym last)
              ∙ ap (λ (d : Due). (b.street, d)) (sym is);
          someone = someone_now b past event stands card at from_one within still;
          early = early_now b past event stands card at from_one within still;
          unshown = λ other. unshown_now b past event stands card at from_one within still;
        }
