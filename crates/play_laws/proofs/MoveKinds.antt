-- The four kinds of moves: its kind decides whether a move may come.
use Rattle.std.proofs.Common.{◌≡◌, ℕ, Option, refl}
use Rattle.play_event.specs.Reasons.{is_due_kind}
use Rattle.play_event.specs.Said as said
use Rattle.play_event.specs.Said.{Said}
use Rattle.play_event.specs.declared.code.Code.{Code}
use Rattle.play_event.specs.declared.event.Spelled.{Spelled}
use Rattle.play_event.specs.declared.reason.Due.TheVariants as dues
use Rattle.play_event.specs.declared.reason.Due.{Due}

-- an event is a move
pub data IsMoveSaid : Said → Type 0 where
  fold_said : (named : Option ℕ) → IsMoveSaid (said.Fold named)
  call_said : (named stated : Option ℕ) → IsMoveSaid (said.Call named stated)
  raise_said : (named : Option ℕ) (amount : Spelled) → IsMoveSaid (said.Raise named amount)
  bring_said : (named : Option ℕ) → IsMoveSaid (said.BringIn named)

-- two moves are of the same kind
pub data AreAlike : Said → Said → Type 0 where
  folds : (named other : Option ℕ) → AreAlike (said.Fold named) (said.Fold other)
  calls : (named other stated states : Option ℕ) → AreAlike (said.Call named stated) (said.Call other states)
  raises : (named other : Option ℕ) (amount amounts : Spelled) → AreAlike (said.Raise named amount) (said.Raise other amounts)
  brings : (named other : Option ℕ) → AreAlike (said.BringIn named) (said.BringIn other)

-- if one may come, the other may
pub alike_kind : (code : Code) (due : Due) (event other : Said) → AreAlike event other → is_due_kind code due event ≡ is_due_kind code due other
alike_kind code (dues.Deal street) _ _ (folds named other) = refl
alike_kind code (dues.Draw street) _ _ (folds named other) = refl
alike_kind code dues.BringIn _ _ (folds named other) = refl
alike_kind code dues.Move _ _ (folds named other) = refl
alike_kind code dues.Show _ _ (folds named other) = refl
alike_kind code dues.Over _ _ (folds named other) = refl
alike_kind code (dues.Deal street) _ _ (calls named other stated states) = refl
alike_kind code (dues.Draw street) _ _ (calls named other stated states) = refl
alike_kind code dues.BringIn _ _ (calls named other stated states) = refl
alike_kind code dues.Move _ _ (calls named other stated states) = refl
alike_kind code dues.Show _ _ (calls named other stated states) = refl
alike_kind code dues.Over _ _ (calls named other stated states) = refl
alike_kind code (dues.Deal street) _ _ (raises named other amount amounts) = refl
alike_kind code (dues.Draw street) _ _ (raises named other amount amounts) = refl
alike_kind code dues.BringIn _ _ (raises named other amount amounts) = refl
alike_kind code dues.Move _ _ (raises named other amount amounts) = refl
alike_kind code dues.Show _ _ (raises named other amount amounts) = refl
alike_kind code dues.Over _ _ (raises named other amount amounts) = refl
alike_kind code (dues.Deal street) _ _ (brings named other) = refl
alike_kind code (dues.Draw street) _ _ (brings named other) = refl
alike_kind code dues.BringIn _ _ (brings named other) = refl
alike_kind code dues.Move _ _ (brings named other) = refl
alike_kind code dues.Show _ _ (brings named other) = refl
alike_kind code dues.Over _ _ (brings named other) = refl
