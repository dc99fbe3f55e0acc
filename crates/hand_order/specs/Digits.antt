-- The points that a class and a list of heights make, each height a digit in base 16.
use Rattle.std.specs.Prelude.{ℕ, ◌+◌, ◌*◌, ◌^◌, ◌<◌, List, [], ◌∷◌, fold}

-- the number with these digits after those of another
unfoldable pub with_digits : ℕ → List ℕ → ℕ
with_digits value digits = fold (λ sofar digit. sofar * 16 + digit) value digits

-- the points of a class above five digits
abbrev pub class_above : ℕ → List ℕ → ℕ
class_above class digits = class * 16 ^ 5 + with_digits 0 digits

-- each digit is below sixteen
abbrev pub AreDigits : List ℕ → Type 0
AreDigits [] = Unit {0}
AreDigits (digit ∷ digits) = (digit < 16) × AreDigits digits
