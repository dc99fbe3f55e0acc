-- Which of two things is reported first.
use Rattle.std.proofs.Common.{◌≡◌, true, false, is_some, option_map, IfNone, Option, Some, None, sym, ap, ◌∙◌}
use Rattle.std.specs.Option.{option_or}
use Rattle.card_set.proofs.Tests.{false_true}

-- what was found comes before what follows
pub or_first : {A B : Type 0} (said : A → B) (found : Option A) (first second : Option B) → option_map said found ≡ first → is_some found ≡ true → option_map said found ≡ option_or first second
or_first said (Some d) first second is there = ap (λ o. option_or o second) is
or_first said None first second is there = false_true there

-- if nothing was found, what follows is reported
pub or_later : {A B : Type 0} (said : A → B) (found : Option A) (first second next : Option B) → option_map said found ≡ first → is_some found ≡ false → next ≡ second → next ≡ option_or first second
or_later said (Some d) first second next is missing then = false_true (sym missing)
or_later said None first second next is missing then = then ∙ ap (λ o. option_or o second) is

-- what holds if nothing was found
pub none_then : {A : Type 0} {P : Type 0} (found : Option A) → IfNone found P → is_some found ≡ false → P
none_then (Some d) if_none missing = false_true (sym missing)
none_then None if_none missing = if_none
