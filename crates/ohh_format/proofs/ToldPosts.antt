-- Posts that meet their conditions: antes are within the stacks, and even if all seats post them,
-- and straddles are covered.
use Rattle.std.proofs.Common.{◌≡◌, ℕ, ◌≤◌, Bool, true, false, not, ◌&&◌, ◌||◌, ◌==◌, nat_le, nat_lt, min, if◌then◌else◌, List, [], ◌∷◌, ◌++◌, find, Option, Some, None, is_some, option_map, Result, Ok, Err, refl, sym, subst, arith, true≢false}
use Rattle.std.specs.Bool.{⊤}
use Rattle.std.specs.List.{AllByRecursion}
use Rattle.std.specs.Option.{option_map_or}
use Rattle.std.proofs.lemmas.Bool.{and_parts, eqb-true, ltb-false, not-false}
use Rattle.first_fault.specs.Reading.{◌>>=◌}
use Rattle.ohh_rounds.specs.PostRules.{at_first, first_breaking, greatest_ante, has_all_antes, has_blinds, holds, is_breaking, left_of, posts_checked}
use Rattle.ohh_rounds.specs.Posts.{PlainPost, ante_of, first_ante, first_post, first_straddle, is_ante, is_straddle}
use Rattle.ohh_rounds.specs.NamedBlinds.{PlainNamedBlinds, stack_of}
use Rattle.ohh_rounds.specs.declared.checking.PostRule.{PostRule}
use Rattle.ohh_rounds.specs.declared.checking.PostRule.TheVariants as conditions
use Rattle.ohh_rounds.specs.declared.post.ActionLocation.{ActionLocation}
use Rattle.ohh_rounds.specs.declared.post.PostKind.{PostKind}

-- the first result, if all was read
then_ok : {A B F : Type 0} (first : Result A F) (next : A → Result B F) (b : B) → (first >>= next) ≡ Ok b → (a : A) × ((first ≡ Ok a) × (next a ≡ Ok b))
then_ok (Ok a) next b is = (a, (refl, is))
then_ok (Err fault) next b is = absurd (cc (is))

none_first : (found : Option ActionLocation) (met : ⊤) → at_first found ≡ Ok met → found ≡ None
none_first None met is = refl
none_first (Some place) met is = absurd (cc (is))

-- the fourth of four conditions
fourth_of : (kind a b c d : Bool) → kind ≡ true → (kind && (a || (b || (c || d)))) ≡ false → d ≡ false
fourth_of true true b c d is none = absurd (true≢false none)
fourth_of true false true c d is none = absurd (true≢false none)
fourth_of true false false true d is none = absurd (true≢false none)
fourth_of true false false false d is none = none
fourth_of false a b c d is none = absurd (true≢false (sym is))

first_of : (kind a b : Bool) → kind ≡ true → (kind && (a || b)) ≡ false → a ≡ false
first_of true true b is none = absurd (true≢false none)
first_of true false b is none = refl
first_of false a b is none = absurd (true≢false (sym is))

second_of : (kind a b : Bool) → kind ≡ true → a ≡ true → (kind && (a && not b)) ≡ false → b ≡ true
second_of true true b is all none = not-false b none
second_of true false b is all none = absurd (true≢false (sym all))
second_of false a b is all none = absurd (true≢false (sym is))

-- a first post is one of the posts
first_is : (is_kind : PostKind → Bool) (Q : ℕ → ℕ → Type 0) (posts : List PlainPost) → AllByRecursion (λ (post : PlainPost). is_kind post.kind ≡ true → Q post.seat post.amount) posts
    → (seat amount : ℕ) → first_post is_kind seat posts ≡ Some amount → Q seat amount
first_is is_kind Q [] each seat amount found = absurd (cc (found))
first_is is_kind Q (post ∷ rest) each seat amount found = by_test (is_kind post.kind && (post.seat == seat)) refl found (first_is is_kind Q rest each.1 seat amount)
  where
    by_test : (here : Bool) → (is_kind post.kind && (post.seat == seat)) ≡ here
        → option_map (λ (p : PlainPost). p.amount) (if here then Some post else find (λ (p : PlainPost). is_kind p.kind && (p.seat == seat)) rest) ≡ Some amount
        → (first_post is_kind seat rest ≡ Some amount → Q seat amount) → Q seat amount
    by_test true here found later =
        let both = and_parts (is_kind post.kind) (post.seat == seat) here in
        let same : post.amount ≡ amount = cc in
        subst (λ (n : ℕ). Q n amount) (eqb-true post.seat seat both.1) (subst (Q post.seat) same (each.0 both.0))
    by_test false here found later = later found

module _ (table : PlainNamedBlinds) (posts : List PlainPost) (checked : posts_checked table posts ≡ Ok tt) where
  -- what holds of each post that does not break a condition
  kept : (condition : PostRule) (P : PlainPost → Type 0) → ((before : List PlainPost) (post : PlainPost) → is_breaking condition table posts before post ≡ false → P post)
      → (before rest : List PlainPost) → first_breaking condition table posts before rest ≡ None → AllByRecursion P rest
  kept condition P each before [] none = tt
  kept condition P each before (post ∷ rest) none = by_break (is_breaking condition table posts before post) refl none (kept condition P each (before ++ post ∷ []) rest)
    where
      by_break : (broken : Bool) → is_breaking condition table posts before post ≡ broken → (if broken then Some post.place else first_breaking condition table posts (before ++ post ∷ []) rest) ≡ None
          → (first_breaking condition table posts (before ++ post ∷ []) rest ≡ None → AllByRecursion P rest) → P post × AllByRecursion P rest
      by_break true is none later = absurd (cc (none))
      by_break false is none later = (each before post is, later none)

  -- the last three conditions
  met : (first_breaking conditions.Straddles table posts [] posts ≡ None) × ((first_breaking conditions.Antes table posts [] posts ≡ None) × (first_breaking conditions.EvenAntes table posts [] posts ≡ None))
  unfolding posts_checked
  met =
      let early = then_ok (holds conditions.Early table posts) _ tt checked in
      let blinds = then_ok (has_blinds posts) _ tt early.1.1 in
      let once = then_ok (holds conditions.OneOfEachBlind table posts) _ tt blinds.1.1 in
      let seats = then_ok (holds conditions.BlindSeats table posts) _ tt once.1.1 in
      let amounts = then_ok (holds conditions.BlindAmounts table posts) _ tt seats.1.1 in
      let straddles = then_ok (holds conditions.Straddles table posts) _ tt amounts.1.1 in
      let antes = then_ok (holds conditions.Antes table posts) _ tt straddles.1.1 in (
        none_first (first_breaking conditions.Straddles table posts [] posts) straddles.0 straddles.1.0,
        (none_first (first_breaking conditions.Antes table posts [] posts) antes.0 antes.1.0, none_first (first_breaking conditions.EvenAntes table posts [] posts) tt antes.1.1),
      )

  -- a straddle is no more than the stack without the ante
  pub straddle_few : (seat amount : ℕ) → first_straddle seat posts ≡ Some amount → amount ≤ left_of table posts seat
  unfolding is_breaking
  straddle_few =
      first_is is_straddle (λ seat amount. amount ≤ left_of table posts seat) posts
      (kept conditions.Straddles (λ (post : PlainPost). is_straddle post.kind ≡ true → post.amount ≤ left_of table posts post.seat)
      (λ before post fits is.
      ltb-false (left_of table posts post.seat) post.amount
      (fourth_of (is_straddle post.kind) (nat_le post.seat 2) (post.amount == 0) (is_some (first_straddle post.seat before)) (nat_lt (left_of table posts post.seat) post.amount) is fits)) [] posts met.0)

  -- an ante is no more than the stack
  pub ante_few : (seat amount : ℕ) → first_ante seat posts ≡ Some amount → amount ≤ stack_of table seat
  unfolding is_breaking
  ante_few =
      first_is is_ante (λ seat amount. amount ≤ stack_of table seat) posts
      (kept conditions.Antes (λ (post : PlainPost). is_ante post.kind ≡ true → post.amount ≤ stack_of table post.seat)
      (λ before post fits is.
      ltb-false (stack_of table post.seat) post.amount
      (first_of (is_ante post.kind) (nat_lt (stack_of table post.seat) post.amount) ((post.amount == 0) || is_some (first_ante post.seat before)) is fits)) [] posts met.1.0)

  -- if all post antes, each is the greatest, or all of a smaller stack
  pub ante_even : has_all_antes table posts ≡ true → (seat amount : ℕ) → first_ante seat posts ≡ Some amount → amount ≡ min (greatest_ante table posts) (stack_of table seat)
  unfolding is_breaking
  ante_even all =
      first_is is_ante (λ seat amount. amount ≡ min (greatest_ante table posts) (stack_of table seat)) posts
      (kept conditions.EvenAntes (λ (post : PlainPost). is_ante post.kind ≡ true → post.amount ≡ min (greatest_ante table posts) (stack_of table post.seat))
      (λ before post fits is.
      eqb-true post.amount (min (greatest_ante table posts) (stack_of table post.seat))
      (second_of (is_ante post.kind) (has_all_antes table posts) (post.amount == min (greatest_ante table posts) (stack_of table post.seat)) is all fits)) [] posts met.1.1)

  -- so no seat posts more than its stack
  pub ante_within : (seat : ℕ) → ante_of posts seat ≤ stack_of table seat
  ante_within seat = by_first (first_ante seat posts) refl
    where
      by_first : (found : Option ℕ) → first_ante seat posts ≡ found → option_map_or (λ ante. ante) found 0 ≤ stack_of table seat
      by_first None is = omega arith
      by_first (Some ante) is = ante_few seat ante is
