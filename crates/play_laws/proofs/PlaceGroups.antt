-- Places with ascending numbers, the places that pass a filter, and the cards of an owner on a
-- street.
use Rattle.std.proofs.Common.{◌≡◌, ℕ, ◌+◌, ◌≤◌, Bool, true, false, inl, inr, Option, List, [], ◌∷◌, ◌++◌, map, filter, length, count_by, refl, sym, ◌∙◌, ap, arith, if◌then◌else◌, ◌<◌}
use Rattle.std.proofs.lemmas.List.Sums.{length-filter}
use Rattle.card_set.specs.declared.card.Slot.{Slot}
use Rattle.play_event.specs.Places.{Place, group_of}
use Rattle.play_event.specs.Laws.{IsAmong}

-- numbers count up
abbrev pub AreRising : List Place → Type 0
AreRising [] = Unit {0}
AreRising (first ∷ rest) = ((later : Place) → IsAmong rest later → first.number < later.number) × AreRising rest

-- so a number determines its place
pub one_number : (placed : List Place) (a b : Place) → AreRising placed → IsAmong placed a → IsAmong placed b → a.number ≡ b.number → a ≡ b
one_number [] a b rising in_a in_b same = absurd in_a
one_number (first ∷ rest) a b rising (inl is_a) (inl is_b) same = sym is_a ∙ is_b
one_number (first ∷ rest) a b rising (inl is_a) (inr in_b) same = absurd (omega (arith, same, ap (λ (p : Place). p.number) is_a, rising.0 b in_b))
one_number (first ∷ rest) a b rising (inr in_a) (inl is_b) same = absurd (omega (arith, same, ap (λ (p : Place). p.number) is_b, rising.0 a in_a))
one_number (first ∷ rest) a b rising (inr in_a) (inr in_b) same = one_number rest a b rising.1 in_a in_b same

-- what passes a filter
pub record Passed (p : Place → Bool) (placed : List Place) (place : Place) : Type 0 where
  pub among : IsAmong placed place
  pub passes : p place ≡ true

passed_at : (p : Place → Bool) (first : Place) (rest : List Place) (place : Place) (b : Bool) → p first ≡ b → (IsAmong (filter p rest) place → Passed p rest place) → IsAmong (if b then (first ∷ filter p rest) else filter p rest) place → Passed p (first ∷ rest) place
passed_at p first rest place true here later (inl is) = record { among = inl is; passes = ap p (sym is) ∙ here }
passed_at p first rest place true here later (inr more) = let it = later more in record { among = inr it.among; passes = it.passes }
passed_at p first rest place false here later more = let it = later more in record { among = inr it.among; passes = it.passes }

-- a place that a filter kept passes and was there
pub passed : (p : Place → Bool) (placed : List Place) (place : Place) → IsAmong (filter p placed) place → Passed p placed place
passed p [] place among = absurd among
passed p (first ∷ rest) place among = passed_at p first rest place (p first) refl (passed p rest place) among

rising_at : (p : Place → Bool) (first : Place) (rest : List Place) (b : Bool) → AreRising (first ∷ rest) → AreRising (filter p rest) → AreRising (if b then (first ∷ filter p rest) else filter p rest)
rising_at p first rest true rising later = (λ other among. rising.0 other (passed p rest other among).among, later)
rising_at p first rest false rising later = later

-- a filter keeps numbers ascending
pub rising_filter : (p : Place → Bool) (placed : List Place) → AreRising placed → AreRising (filter p placed)
rising_filter p [] rising = tt
rising_filter p (first ∷ rest) rising = rising_at p first rest (p first) rising (rising_filter p rest rising.1)

-- and what is known of them
abbrev pub group_slots : List Place → ℕ → Option ℕ → List Slot
group_slots placed street owner = map (λ place. place.slot) (group_of placed street owner)

-- the indices of a group count up
abbrev pub AreIndexed : ℕ → List Place → Type 0
AreIndexed index [] = Unit {0}
AreIndexed index (first ∷ rest) = (first.index ≡ index) × AreIndexed (index + 1) rest

-- counts do not decrease
more_step : (p : Place → Bool) (first : Place) (rest more : List Place) (b : Bool) → length (filter p rest) ≤ length (filter p (rest ++ more)) → length (if b then (first ∷ filter p rest) else filter p rest) ≤ length (if b then (first ∷ filter p (rest ++ more)) else filter p (rest ++ more))
more_step p first rest more true later = omega (arith, later)
more_step p first rest more false later = later

more_length : (p : Place → Bool) (places more : List Place) → length (filter p places) ≤ length (filter p (places ++ more))
more_length p [] more = omega arith
more_length p (first ∷ rest) more = more_step p first rest more (p first) (more_length p rest more)

-- a longer list has at least as many places that pass
pub more_count : (p : Place → Bool) (places more : List Place) → count_by p places ≤ count_by p (places ++ more)
more_count p places more = omega (arith, length-filter p places, length-filter p (places ++ more), more_length p places more)
