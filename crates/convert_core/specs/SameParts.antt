-- Parts of records that say the same are equal: scripts, and the names of the seats.
-- This is a proof: no reader needs it.
use Rattle.std.proofs.Common.{◌≡◌, ℕ, ◌≤◌, inl, inr, List, map, take, get_or, slice_index_or, Option, None, sym, ap, ◌∙◌}
use Rattle.std.proofs.lemmas.Bool.{cases_lt}
use Rattle.std.proofs.lemmas.List.{get_or-take}
use Rattle.hand_canon.specs.declared.record.Record.{Record}
use Rattle.hand_canon.proofs.SamePlay.{same_script}
use Rattle.play_event.specs.Said.{Numbered, numbered}
use Rattle.hand_canon.specs.PlainHands.{plain}

-- scripts with the same events are equal, as in hand histories
pub one_script : (a b : Record) → map numbered a.script ≡ map numbered b.script
    → a.script ≡ b.script
one_script a b same =
    same_script a (record a { script = b.script })
    (ap (λ (events : List Numbered). record (plain a) { script = events }) same)

-- the names of this number of seats, after which there are none
pub names_same : (count : ℕ) (x y : List (Option (List ℕ))) → take count x ≡ take count y
    → ((index : ℕ) → count ≤ index → slice_index_or x index None ≡ None)
    → ((index : ℕ) → count ≤ index → slice_index_or y index None ≡ None)
    → (index : ℕ) → slice_index_or x index None ≡ slice_index_or y index None
names_same count x y same none no_others index = elim (cases_lt index count) [
  | inl within ↦
      sym (get_or-take count x index None within)
      ∙ ap (λ (names : List (Option (List ℕ))). get_or names index None) same
      ∙ get_or-take count y index None within
  | inr late ↦ none index late ∙ sym (no_others index late)
]
