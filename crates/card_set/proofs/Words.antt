-- Laws of the words of a text, whatever characters separate them: the first word, and what comes
-- after it.
use Rattle.std.proofs.Common.{◌≡◌, ℕ, ◌+◌, ◌<◌, ◌≤◌, ◌⊎◌, true, false, not, cond, nat_lt, Bool, List, [], ◌∷◌, length, get_or, take, drop, refl, ap, sym, ◌∙◌, arith, All, filter, take_all, inl, inr}
use Rattle.std.specs.List.{slice_split, position_or_len}
use Rattle.std.proofs.lemmas.Bool.{cases_lt, lt-ltb}
use Rattle.std.proofs.lemmas.List.{length-take-le, drop_more, drop_all}
use Rattle.std.proofs.lemmas.List.Sums.{prefix_len-le-length, fails_before_first, passes_at_first}
use Rattle.std.proofs.lemmas.List.Splits.{slice_split_first, slice_split_none, slice_split-cons_yes}

-- the parts that are words
abbrev pub kept : List (List ℕ) → List (List ℕ)
kept parts = filter (λ part. nat_lt 0 (length part)) parts

-- the words of a text that some characters separate
abbrev pub words : (ℕ → Bool) → List ℕ → List (List ℕ)
words divides text = kept (slice_split divides text)

kept-cons : (part : List ℕ) (parts : List (List ℕ)) → 0 < length part → kept (part ∷ parts) ≡ part ∷ kept parts
kept-cons part parts some = ap (λ b. cond b (part ∷ kept parts) (kept parts)) (lt-ltb 0 (length part) some)

-- a space before a text
pub words-space : (divides : ℕ → Bool) (sign : ℕ) (text : List ℕ) → divides sign ≡ true → words divides (sign ∷ text) ≡ words divides text
words-space divides sign text space = ap kept (slice_split-cons_yes divides sign text space)

-- a text that is not empty and begins with no space begins with a word
pub begins_word : (divides : ℕ → Bool) (text : List ℕ) → 0 < length text → (text ≡ []) ⊎ (divides (get_or text 0 0) ≡ false) → 0 < position_or_len divides text
begins_word divides [] some begins = absurd (omega (arith, some))
begins_word divides (sign ∷ text) some (inl empty) = absurd (omega (arith, ap length empty))
begins_word divides (sign ∷ text) some (inr begins) = rw begins (omega arith)

before_space : (divides : ℕ → Bool) (text : List ℕ) (len : ℕ) → len ≡ position_or_len divides text → 0 < len → len < length text → words divides text ≡ take len text ∷ words divides (drop len text)
before_space divides text len is some inside =
    let within : position_or_len divides text < length text = omega (arith, is, inside) in
    let space : divides (get_or text len 0) ≡ true = rw is (passes_at_first divides text 0 within) in
    let cut : slice_split divides text ≡ take len text ∷ slice_split divides (drop (len + 1) text) = rw is (slice_split_first divides text 0 within) in
    let long : 0 < length (take len text) = omega (arith, length-take-le len text (omega arith)) in
    ap kept cut
    ∙ kept-cons (take len text) (slice_split divides (drop (len + 1) text)) long
    ∙ ap (λ (rest : List (List ℕ)). take len text ∷ rest) (sym (ap (words divides) (drop_more text len 0 inside) ∙ words-space divides (get_or text len 0) (drop (len + 1) text) space))

last_word : (divides : ℕ → Bool) (text : List ℕ) → length text ≤ position_or_len divides text → 0 < length text → words divides text ≡ text ∷ []
last_word divides text whole some =
    let no_space : All (λ sign. divides sign ≡ false) text = λ k d within. fails_before_first divides text k d (omega (arith, whole, within)) in
    ap kept (slice_split_none divides text no_space) ∙ kept-cons text [] some

-- the words of a text that begins with a word: that word, and those after it
pub first_word : (divides : ℕ → Bool) (text : List ℕ) (len : ℕ) → len ≡ position_or_len divides text → 0 < len → words divides text ≡ take len text ∷ words divides (drop len text)
first_word divides text len is some =
    let most : position_or_len divides text ≤ length text = prefix_len-le-length (λ sign. not (divides sign)) text in
    elim (cases_lt len (length text)) [
      | inl inside ↦ before_space divides text len is some inside
      | inr whole ↦
          let same : len ≡ length text = omega (arith, most, is, whole) in
          last_word divides text (omega (arith, is, whole)) (omega (arith, same, some))
          ∙ rw (same, take_all (length text) text (omega arith), drop_all (length text) text (omega arith)) refl
    ]
