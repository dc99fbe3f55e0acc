-- The document of one hand, and of others: each hand goes before those after it.
use Rattle.std.proofs.Common.{◌≡◌, ℕ, ◌+◌, List, [], ◌∷◌, length, drop, Some, refl, sym, ap, ◌∙◌, arith, decimal}
use Rattle.std.specs.List.{slice_get}
use Rattle.std.proofs.lemmas.List.{drop_more}
use Rattle.std.proofs.lemmas.Option.{get_or_from_slice_get, slice_get_within}
use Rattle.toml.specs.Data.{Members, table}
use Rattle.hand_canon.specs.declared.trace.Play.{Play}
use Rattle.phh_format.specs.Members.{table_of, with_member}
use Rattle.phh_format.specs.Document.{document, hand_table, numbered_hands}

-- the document of one hand is its table
pub of_one : (plays : List Play) (play : Play) → length plays ≡ 1 → slice_get plays 0 ≡ Some play → hand_table 0 play ≡ document plays
of_one [] play one here = absurd (omega (arith, one))
of_one (first ∷ []) play one here = ap (hand_table 0) (sym (get_or_from_slice_get (first ∷ []) 0 play play here))
of_one (first ∷ next ∷ rest) play one here = absurd (omega (arith, one))

-- the document of none, or of several, is the table of the numbered hands
pub of_others : (plays : List Play) → (length plays ≡ 1 → ⊥) → table_of (numbered_hands 0 plays) ≡ document plays
of_others [] other = refl
of_others (play ∷ []) other = absurd (other refl)
of_others (play ∷ next ∷ rest) other = refl

-- one more hand before those from a number on
pub one_before : (plays : List Play) (index left : ℕ) (play : Play) (key : List ℕ) (old new : Members) → left ≡ index + 1 → slice_get plays index ≡ Some play → key ≡ decimal (index + 1)
    → old ≡ table_of (numbered_hands left (drop left plays)) → new ≡ with_member key (table (hand_table index play)) old → new ≡ table_of (numbered_hands index (drop index plays))
one_before plays index left play key old new is here named so_far more =
    let within = slice_get_within plays index play here in
    let cut : drop index plays ≡ play ∷ drop (index + 1) plays =
    drop_more plays index play within ∙ ap (λ (p : Play). p ∷ drop (index + 1) plays) (get_or_from_slice_get plays index play play here) in
    more
    ∙ ap (λ (k : List ℕ). with_member k (table (hand_table index play)) old) named
    ∙ ap (with_member (decimal (index + 1)) (table (hand_table index play))) (so_far ∙ ap (λ (n : ℕ). table_of (numbered_hands n (drop n plays))) is)
    ∙ ap (λ (list : List Play). table_of (numbered_hands index list)) (sym cut)
