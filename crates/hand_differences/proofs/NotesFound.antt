-- The first of some notes that differs comes after those that are the same.
use Rattle.std.proofs.Common.{◌≡◌, ℕ, ◌+◌, ◌-◌, ◌≤◌, ◌<◌, Bool, false, true, cond, List, [], ◌∷◌, drop, find, get_or, length, take, Option, Some, None, sym, ap, ap₂, ◌∙◌, arith}
use Rattle.std.proofs.lemmas.List.{get_or_default, take_all}
use Rattle.hand_canon.specs.declared.notes.NoteName.{NoteName}
use Rattle.hand_differences.specs.SameParts.{is_same_text}

-- a note that is the same is passed over
pub passed_over : (p : NoteName → Bool) (names : List NoteName) (default : NoteName) (found : Option NoteName) → 1 ≤ length names → p (get_or names 0 default) ≡ false → found ≡ find p (take (length names - 1) (drop 1 names)) → found ≡ find p names
passed_over p [] default found some off is = absurd (omega (arith, some))
passed_over p (name ∷ rest) default found some off is =
    let left : length (name ∷ rest) - 1 ≡ length rest = omega arith in
    is ∙ ap (λ n. find p (take n rest)) left ∙ ap (find p) (take_all (length rest) rest (omega arith))
    ∙ sym (ap (λ b. cond b (Some name) (find p rest)) off)

-- texts at one place, read with any default
pub same_entry : (xs ys : List (Option (List ℕ))) (index : ℕ) (a b : Option (List ℕ)) → index < length xs → index < length ys → is_same_text (get_or xs index a) (get_or ys index b) ≡ true
    → is_same_text (get_or xs (index + 1 - 1) None) (get_or ys (index + 1 - 1) None) ≡ true
same_entry xs ys index a b in_xs in_ys is =
    let here : index + 1 - 1 ≡ index = omega arith in
    ap₂ is_same_text (ap (λ k. get_or xs k None) here ∙ get_or_default xs index None a in_xs) (ap (λ k. get_or ys k None) here ∙ get_or_default ys index None b in_ys) ∙ is
