-- The text of one more seat.
use Rattle.std.proofs.Common.{◌≡◌, ℕ, ◌+◌, ◌-◌, ◌≤◌, List, [], ◌∷◌, ◌++◌, None, IfSome, IsUtf8, slice_index_or, ap, sym, subst, ◌∙◌, append_assoc, arith, inl, inr}
use Rattle.std.specs.List.{AllByRecursion}
use Rattle.std.proofs.lemmas.Bool.{cases_eq}
use Rattle.hand_canon.proofs.OneByOne.{seat_more}
use Rattle.hand_canon.specs.declared.notes.Notes.{Notes}
use Rattle.hand_canon.specs.declared.trace.Play.{Play}
use Rattle.acpc_format.specs.Seats.{bar_before, for_seats}
use Rattle.acpc_format.specs.Texts.{AreTexts, HasTexts}

-- what is written with the bar and the text of one more seat
pub text_more : (text : ℕ → List ℕ) (count : ℕ) (old so_far barred new : List ℕ) → so_far ≡ old ++ for_seats text count
    → barred ≡ so_far ++ bar_before (count + 1) → new ≡ barred ++ text (count + 1) → new ≡ old ++ for_seats text (count + 1)
text_more text count old so_far barred new before bar more =
    seat_more (λ seat. bar_before seat ++ text seat) count old so_far new before
    (more ∙ ap (λ (l : List ℕ). l ++ text (count + 1)) bar ∙ append_assoc so_far (bar_before (count + 1)) (text (count + 1)))

-- one more name that is a text
pub texts_more : (notes : Notes) (count : ℕ) → AreTexts count notes → IfSome (slice_index_or notes.names (count + 1 - 1) None) IsUtf8 → AreTexts (count + 1) notes
texts_more notes count before last = λ seat low high. elim (cases_eq seat (count + 1)) [
  | inl same ↦ subst (λ (n : ℕ). IfSome (slice_index_or notes.names (n - 1) None) IsUtf8) (sym same) last
  | inr other ↦ before seat low (omega (arith, earlier seat (count + 1) other high))
]
  where
    earlier : (a b : ℕ) → (a ≡ b → ⊥) → a ≤ b → a + 1 ≤ b
    earlier a b differ most = omega (arith, differ, most)

-- one more play whose names are texts
pub plays_more : (plays : List Play) (play : Play) → AllByRecursion HasTexts plays → HasTexts play → AllByRecursion HasTexts (plays ++ play ∷ [])
plays_more [] play each one = (one, tt)
plays_more (first ∷ rest) play each one = (each.0, plays_more rest play each.1 one)
