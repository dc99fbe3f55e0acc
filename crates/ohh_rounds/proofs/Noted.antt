-- The first posts of each seat, with one more post.
use Rattle.std.proofs.Common.{◌≡◌, ℕ, ◌-◌, ◌≤◌, ◌==◌, Bool, true, false, ◌&&◌, ◌||◌, cond, List, [], ◌∷◌, ◌++◌, length, set, get_or, find, Option, Some, None, option_map, refl, sym, ap, ◌∙◌, arith}
use Rattle.std.specs.List.{list_any}
use Rattle.std.specs.Option.{option_or}
use Rattle.std.proofs.lemmas.Bool.{eqb-true}
use Rattle.std.proofs.lemmas.Grind.{get_or-set_at}
use Rattle.std.proofs.lemmas.List.{get_or-set_other}
use Rattle.std.proofs.lemmas.List.Folds.{find-append}
use Rattle.std.proofs.Math.Bool.{or-true}
use Rattle.card_set.proofs.Finding.{list_any-push}
use Rattle.card_set.proofs.Tests.{or_false}
use Rattle.chip_ledger.specs.declared.numbers.Chips.{Chips}
use Rattle.ohh_rounds.specs.declared.post.PostKind.{PostKind}
use Rattle.ohh_rounds.specs.Posts.{PlainPost, chips_in, first_post}
use Rattle.card_set.proofs.Options.{or_nothing}

either : (found : Option PlainPost) (post : PlainPost) (is_one : Bool) → option_map (λ x. x.amount) (option_or found (cond is_one (Some post) None)) ≡ option_or (option_map (λ x. x.amount) found) (cond is_one (Some post.amount) None)
either (Some x) post is_one = refl
either None post true = refl
either None post false = refl

one_more : (is_kind : PostKind → Bool) (seat : ℕ) (posts : List PlainPost) (post : PlainPost) → first_post is_kind seat (posts ++ post ∷ []) ≡ option_or (first_post is_kind seat posts) (cond (is_kind post.kind && (post.seat == seat)) (Some post.amount) None)
one_more is_kind seat posts post =
    ap (option_map (λ x. x.amount)) (find-append (λ x. is_kind x.kind && (x.seat == seat)) posts (post ∷ []))
    ∙ either (find (λ x. is_kind x.kind && (x.seat == seat)) posts) post (is_kind post.kind && (post.seat == seat))

-- a post of another kind
pub other_kind : (is_kind : PostKind → Bool) (seat : ℕ) (posts : List PlainPost) (post : PlainPost) → is_kind post.kind ≡ false → first_post is_kind seat (posts ++ post ∷ []) ≡ first_post is_kind seat posts
other_kind is_kind seat posts post other = one_more is_kind seat posts post ∙ rw other (or_nothing (first_post is_kind seat posts))

numbers : (kept : Option Chips) (chips : Chips) → option_map (λ x. x.number) (option_or kept (Some chips)) ≡ option_or (option_map (λ x. x.number) kept) (Some chips.number)
numbers (Some x) chips = refl
numbers None chips = refl

-- a post of this kind
pub noted : (is_kind : PostKind → Bool) (row : List (Option Chips)) (posts : List PlainPost) (post : PlainPost) (chips : Chips)
    → is_kind post.kind ≡ true → chips.number ≡ post.amount → length row ≡ 10 → 1 ≤ post.seat → post.seat ≤ 10
    → ((seat : ℕ) → 1 ≤ seat → seat ≤ 10 → chips_in row seat ≡ first_post is_kind seat posts)
    → (seat : ℕ) → 1 ≤ seat → seat ≤ 10
    → chips_in (set row (post.seat - 1) (option_or (get_or row (post.seat - 1) None) (Some chips))) seat ≡ first_post is_kind seat (posts ++ post ∷ [])
noted is_kind row posts post chips is same ten first last kept seat from to = by_seat (post.seat == seat) refl
  where
    by_seat : (here : Bool) → (post.seat == seat) ≡ here → chips_in (set row (post.seat - 1) (option_or (get_or row (post.seat - 1) None) (Some chips))) seat ≡ first_post is_kind seat (posts ++ post ∷ [])
    by_seat true e =
        let at : post.seat ≡ seat = eqb-true post.seat seat e in
        let left = ap (option_map (λ x. x.number)) (get_or-set_at row (post.seat - 1) (seat - 1) (option_or (get_or row (post.seat - 1) None) (Some chips)) None (omega (arith, at)) (omega (arith, ten, first, last))) in
        left ∙ numbers (get_or row (post.seat - 1) None) chips
        ∙ ap (λ found. option_or found (Some chips.number)) (kept post.seat first last)
        ∙ ap (λ n. option_or (first_post is_kind post.seat posts) (Some n)) same
        ∙ ap (λ n. option_or (first_post is_kind n posts) (Some post.amount)) at
        ∙ sym (one_more is_kind seat posts post ∙ rw (is, e) refl)
    by_seat false e =
        ap (option_map (λ x. x.number)) (grind (arith, get_or-set_other, e, first, from))
        ∙ kept seat from to
        ∙ sym (one_more is_kind seat posts post ∙ rw (is, e) (or_nothing (first_post is_kind seat posts)))

-- a post that is not a blind of this kind
pub other_blind : (is_kind : PostKind → Bool) (posts : List PlainPost) (post : PlainPost) → is_kind post.kind ≡ false → list_any (λ x. is_kind x.kind) posts ≡ list_any (λ x. is_kind x.kind) (posts ++ post ∷ [])
other_blind is_kind posts post other =
    sym (list_any-push (λ x. is_kind x.kind) posts post ∙ ap (λ b. list_any (λ x. is_kind x.kind) posts || b) other ∙ or_false (list_any (λ x. is_kind x.kind) posts))

-- a blind of this kind
pub this_blind : (is_kind : PostKind → Bool) (posts : List PlainPost) (post : PlainPost) → is_kind post.kind ≡ true → true ≡ list_any (λ x. is_kind x.kind) (posts ++ post ∷ [])
this_blind is_kind posts post is =
    sym (list_any-push (λ x. is_kind x.kind) posts post ∙ ap (λ b. list_any (λ x. is_kind x.kind) posts || b) is ∙ or-true (list_any (λ x. is_kind x.kind) posts))
