-- The street of a due deal or draw.
use Rattle.std.proofs.Common.{◌≡◌, ℕ, ◌≤◌, true, refl, sym, ap, subst}
use Rattle.std.proofs.lemmas.Bool.{eqb-true}
use Rattle.play_event.proofs.StreetLaws.{due_is_first}
use Rattle.play_event.specs.Dealing.{is_deal_due, is_draw_due}
use Rattle.play_event.specs.Due.{turn, is_bring_in_due, is_move_due}
use Rattle.play_event.specs.Past.{Past, moves_of}
use Rattle.play_event.specs.declared.reason.Due.TheVariants as dues
use Rattle.play_event.specs.declared.reason.Due.{Due}
use Rattle.play_event.specs.declared.setup.Setup.{Setup}
use Rattle.play_laws.specs.Dues.{IsDueWithin, is_of_street}
use Rattle.play_laws.proofs.CardTurns.{deal_by, draw_by}

-- what is due on a street is due within the streets
pub here_within : (due : Due) (street most : ℕ) → is_of_street street due ≡ true → 1 ≤ street → street ≤ most → IsDueWithin most due
here_within (dues.Deal on) street most is low high = let same : street ≡ on = sym (eqb-true on street is) in (subst (λ (n : ℕ). 1 ≤ n) same low, subst (λ (n : ℕ). n ≤ most) same high)
here_within (dues.Draw on) street most is low high = let same : street ≡ on = sym (eqb-true on street is) in (subst (λ (n : ℕ). 1 ≤ n) same low, subst (λ (n : ℕ). n ≤ most) same high)
here_within dues.BringIn street most is low high = tt
here_within dues.Move street most is low high = tt
here_within dues.Show street most is low high = tt
here_within dues.Over street most is low high = tt

-- a deal or a draw that is due is of the street that is due
pub deal_street : (setup : Setup) (past : Past) (on : ℕ) → (turn setup past).1 ≡ dues.Deal on → on ≡ (turn setup past).0
deal_street setup past on due_is =
    let street = (turn setup past).0 in
    (deal_by street on (is_deal_due setup past street) (is_draw_due setup past street) (is_bring_in_due setup (moves_of past) street) (is_move_due setup (moves_of past) street)
    (due_is_first setup past street (dues.Deal on) (ap (λ (d : Due). ((turn setup past).0, d)) due_is) refl).is_due).0

pub draw_street : (setup : Setup) (past : Past) (on : ℕ) → (turn setup past).1 ≡ dues.Draw on → on ≡ (turn setup past).0
draw_street setup past on due_is =
    let street = (turn setup past).0 in
    (draw_by street on (is_deal_due setup past street) (is_draw_due setup past street) (is_bring_in_due setup (moves_of past) street) (is_move_due setup (moves_of past) street)
    (due_is_first setup past street (dues.Draw on) (ap (λ (d : Due). ((turn setup past).0, d)) due_is) refl).is_due).0
