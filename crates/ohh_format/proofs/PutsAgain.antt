-- The posts that are written for a setup, without their places: the first of each seat, and what
-- comes before each.
use Rattle.std.proofs.Common.{◌≡◌, ℕ, zero, suc, ◌+◌, ◌<◌, ◌≤◌, ◌==◌, Bool, true, false, ◌&&◌, ◌||◌, cond, if◌then◌else◌, List, [], ◌∷◌, ◌++◌, length, find, Option, Some, None, option_map, refl, sym, ap, subst, ◌∙◌, arith}
use Rattle.std.specs.List.{flat_map, list_any, range_with_len}
use Rattle.std.specs.Option.{option_or}
use Rattle.std.proofs.lemmas.Bool.Decides.{nat_tests}
use Rattle.std.proofs.lemmas.List.Folds.{find-append}
use Rattle.card_set.proofs.Tests.{and_false}
use Rattle.ohh_rounds.specs.declared.post.PostKind.{PostKind}
use Rattle.ohh_rounds.specs.Posts.{PlainPost, first_post}
use Rattle.card_set.proofs.Options.{or_nothing}

-- a post: its kind, its seat and its chips
pub record Put : Type 0 where
  pub kind : PostKind
  pub seat : ℕ
  pub amount : ℕ

-- a post of the first round before any move, at this index
abbrev pub post_at : ℕ → Put → PlainPost
post_at index put = record { kind = put.kind; seat = put.seat; amount = put.amount; early = true; place = record { round = 0; action = index } }

-- posts; the first is at this index
abbrev pub posts_at : ℕ → List Put → List PlainPost
posts_at index [] = []
posts_at index (put ∷ rest) = post_at index put ∷ posts_at (index + 1) rest

pub posts_both : (index : ℕ) (some more : List Put) → posts_at index (some ++ more) ≡ posts_at index some ++ posts_at (index + length some) more
posts_both index [] more = ap (λ n. posts_at n more) (omega arith)
posts_both index (put ∷ some) more =
    let next : index + 1 + length some ≡ index + length (put ∷ some) = omega arith in
    ap (λ (l : List PlainPost). post_at index put ∷ l) (posts_both (index + 1) some more ∙ ap (λ n. posts_at (index + 1) some ++ posts_at n more) next)

-- the post is one of this seat, of a kind
abbrev pub is_of : (PostKind → Bool) → ℕ → Put → Bool
is_of is_kind seat put = is_kind put.kind && (put.seat == seat)

-- the chips of the first post of a kind that this seat has
abbrev pub first_put : (PostKind → Bool) → ℕ → List Put → Option ℕ
first_put is_kind seat puts = option_map (λ put. put.amount) (find (is_of is_kind seat) puts)

-- there is a post of the kind
abbrev pub has_put : (PostKind → Bool) → List Put → Bool
has_put is_kind puts = list_any (λ put. is_kind put.kind) puts

pub first_is : (is_kind : PostKind → Bool) (seat index : ℕ) (puts : List Put) → first_post is_kind seat (posts_at index puts) ≡ first_put is_kind seat puts
first_is is_kind seat index [] = refl
first_is is_kind seat index (put ∷ rest) = by_first (is_of is_kind seat put) (first_is is_kind seat (index + 1) rest)
  where
    by_first : (here : Bool) → first_post is_kind seat (posts_at (index + 1) rest) ≡ first_put is_kind seat rest
        → option_map (λ (post : PlainPost). post.amount) (cond here (Some (post_at index put)) (find (λ (post : PlainPost). is_kind post.kind && (post.seat == seat)) (posts_at (index + 1) rest)))
        ≡ option_map (λ (put : Put). put.amount) (cond here (Some put) (find (is_of is_kind seat) rest))
    by_first true later = refl
    by_first false later = later

pub has_is : (is_kind : PostKind → Bool) (index : ℕ) (puts : List Put) → list_any (λ (post : PlainPost). is_kind post.kind) (posts_at index puts) ≡ has_put is_kind puts
has_is is_kind index [] = refl
has_is is_kind index (put ∷ rest) = ap (λ b. is_kind put.kind || b) (has_is is_kind (index + 1) rest)

-- the first of two values, if it is there
abbrev or_else : Option ℕ → Option ℕ → Option ℕ
or_else one other = option_or one other

amounts_or : (one other : Option Put) → option_map (λ (put : Put). put.amount) (option_or one other) ≡ or_else (option_map (λ (put : Put). put.amount) one) (option_map (λ (put : Put). put.amount) other)
amounts_or None other = refl
amounts_or (Some put) other = refl

pub first_both : (is_kind : PostKind → Bool) (seat : ℕ) (some more : List Put) → first_put is_kind seat (some ++ more) ≡ option_or (first_put is_kind seat some) (first_put is_kind seat more)
first_both is_kind seat some more =
    ap (option_map (λ (put : Put). put.amount)) (find-append (is_of is_kind seat) some more)
    ∙ amounts_or (find (is_of is_kind seat) some) (find (is_of is_kind seat) more)

-- one more post of another kind or another seat
pub other_put : (is_kind : PostKind → Bool) (seat : ℕ) (puts : List Put) (put : Put) → is_of is_kind seat put ≡ false → first_put is_kind seat (puts ++ put ∷ []) ≡ first_put is_kind seat puts
other_put is_kind seat puts put other =
    first_both is_kind seat puts (put ∷ [])
    ∙ ap (λ b. option_or (first_put is_kind seat puts) (option_map (λ (put : Put). put.amount) (cond b (Some put) None))) other
    ∙ or_nothing (first_put is_kind seat puts)

-- posts of one kind, one of each of some seats
module _ (kind : PostKind) (amount : ℕ → ℕ) (some : ℕ → Bool) where
  abbrev pub put_of : ℕ → List Put
  put_of seat = if some seat then record { kind = kind; seat = seat; amount = amount seat } ∷ [] else []

  abbrev pub puts_of : List ℕ → List Put
  puts_of seats = flat_map put_of seats

  put_other : (is_kind : PostKind → Bool) (seat other : ℕ) → (is_kind kind && (other == seat)) ≡ false → (b : Bool) (rest : List Put)
      → first_put is_kind seat ((if b then record { kind = kind; seat = other; amount = amount other } ∷ [] else []) ++ rest) ≡ first_put is_kind seat rest
  put_other is_kind seat other not true rest = rw not refl
  put_other is_kind seat other not false rest = refl

  -- they are no posts of another kind
  pub no_kind : (is_kind : PostKind → Bool) (seat : ℕ) → is_kind kind ≡ false → (seats : List ℕ) → first_put is_kind seat (puts_of seats) ≡ None
  no_kind is_kind seat other [] = refl
  no_kind is_kind seat other (first ∷ rest) = put_other is_kind seat first (ap (λ b. b && (first == seat)) other) (some first) (puts_of rest) ∙ no_kind is_kind seat other rest

  -- no post is of a seat before the first
  pub not_before : (is_kind : PostKind → Bool) (seat first count : ℕ) → seat < first → first_put is_kind seat (puts_of (range_with_len first count)) ≡ None
  not_before is_kind seat first zero before = refl
  not_before is_kind seat first (suc count) before =
      let apart : (first == seat) ≡ false = grind (arith, nat_tests, before) in
      put_other is_kind seat first (ap (λ b. is_kind kind && b) apart ∙ and_false (is_kind kind)) (some first) (puts_of (range_with_len (first + 1) count))
      ∙ not_before is_kind seat (first + 1) count (omega (arith, before))

  here : (is_kind : PostKind → Bool) (seat : ℕ) (rest : List Put) → is_kind kind ≡ true → (seat == seat) ≡ true → first_put is_kind seat rest ≡ None → (b : Bool)
      → first_put is_kind seat ((if b then record { kind = kind; seat = seat; amount = amount seat } ∷ [] else []) ++ rest) ≡ cond b (Some (amount seat)) None
  here is_kind seat rest is same none true = rw (is, same) refl
  here is_kind seat rest is same none false = none

  -- the post of a seat
  pub of_seat : (is_kind : PostKind → Bool) (seat first count : ℕ) → is_kind kind ≡ true → first ≤ seat → seat < first + count → first_put is_kind seat (puts_of (range_with_len first count)) ≡ cond (some seat) (Some (amount seat)) None
  of_seat is_kind seat first zero is from within = absurd (omega (arith, from, within))
  of_seat is_kind seat first (suc count) is from within = by_first (first == seat) refl (λ later. of_seat is_kind seat (first + 1) count is later (omega (arith, within)))
    where
      by_first : (same : Bool) → (first == seat) ≡ same → (first + 1 ≤ seat → first_put is_kind seat (puts_of (range_with_len (first + 1) count)) ≡ cond (some seat) (Some (amount seat)) None)
          → first_put is_kind seat (puts_of (range_with_len first (suc count))) ≡ cond (some seat) (Some (amount seat)) None
      by_first true e behind =
          let at : first ≡ seat = grind (arith, nat_tests) in
          subst (λ (f : ℕ). first_put is_kind seat (puts_of (range_with_len f (suc count))) ≡ cond (some seat) (Some (amount seat)) None) (sym at)
          (here is_kind seat (puts_of (range_with_len (seat + 1) count)) is (grind (arith, nat_tests)) (not_before is_kind seat (seat + 1) count (omega arith)) (some seat))
      by_first false e behind =
          let later : first + 1 ≤ seat = grind (arith, nat_tests, from) in
          put_other is_kind seat first (ap (λ b. is_kind kind && b) e ∙ and_false (is_kind kind)) (some first) (puts_of (range_with_len (first + 1) count))
          ∙ behind later

  -- a post of another kind is not among them
  pub has_no : (is_kind : PostKind → Bool) → is_kind kind ≡ false → (seats : List ℕ) → has_put is_kind (puts_of seats) ≡ false
  has_no is_kind other [] = refl
  has_no is_kind other (first ∷ rest) = by_first (some first) (has_no is_kind other rest)
    where
      by_first : (b : Bool) → has_put is_kind (puts_of rest) ≡ false → has_put is_kind ((if b then record { kind = kind; seat = first; amount = amount first } ∷ [] else []) ++ puts_of rest) ≡ false
      by_first true behind = rw other behind
      by_first false behind = behind

pub has_both : (is_kind : PostKind → Bool) (some more : List Put) → has_put is_kind (some ++ more) ≡ (has_put is_kind some || has_put is_kind more)
has_both is_kind [] more = refl
has_both is_kind (put ∷ some) more = by_first (is_kind put.kind) (has_both is_kind some more)
  where
    by_first : (b : Bool) → has_put is_kind (some ++ more) ≡ (has_put is_kind some || has_put is_kind more) → (b || has_put is_kind (some ++ more)) ≡ ((b || has_put is_kind some) || has_put is_kind more)
    by_first true later = refl
    by_first false later = later
