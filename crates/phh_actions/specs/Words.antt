-- A text and its words: what comes after the first # is commentary, and spaces separate the words
-- before it.
use Rattle.std.specs.Prelude.{ℕ, ◌==◌, List, take}
use Rattle.std.specs.List.{position_or_len}

-- the character that begins a commentary: #
abbrev pub commentary_sign : ℕ
commentary_sign = 35

-- the text before its commentary
abbrev pub before_commentary : List ℕ → List ℕ
before_commentary text = take (position_or_len (λ sign. sign == commentary_sign) text) text
