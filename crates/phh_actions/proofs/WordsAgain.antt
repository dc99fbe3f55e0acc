-- Words that are written with a space between two read back as these words.
use Rattle.std.proofs.Common.{◌≡◌, ℕ, ◌<◌, Bool, true, false, ◌&&◌, ◌==◌, not, nat_lt, List, [], ◌∷◌, length, get_or, filter, take_all, All, refl, ap, ◌∙◌, arith}
use Rattle.std.specs.List.{slice_split, join_with_byte, list_all, position_or_len, AllByRecursion}
use Rattle.std.proofs.lemmas.Bool.{and_parts, lt-ltb, not-true}
use Rattle.std.proofs.lemmas.List.Folds.{list_all-append}
use Rattle.std.proofs.lemmas.List.Splits.{slice_split_at, slice_split_none}
use Rattle.std.proofs.lemmas.List.Sums.{AllPass-from_list_all, position_or_len_is}
use Rattle.phh_actions.specs.Words.{before_commentary, commentary_sign}
use Rattle.first_fault.specs.Words.{is_space, words_of}

-- a byte that may be in a word: not a space, and not the character that begins a commentary
abbrev pub is_plain : ℕ → Bool
is_plain sign = not (is_space sign) && not (sign == commentary_sign)

-- one or more such bytes
pub record IsWord (word : List ℕ) : Type 0 where
  pub some : 0 < length word
  pub plain : list_all is_plain word ≡ true

no_space : (word : List ℕ) → list_all is_plain word ≡ true → All (λ sign. is_space sign ≡ false) word
no_space word plain k d within =
    let sign = get_or word k d in
    not-true (is_space sign) (and_parts (not (is_space sign)) (not (sign == commentary_sign)) (AllPass-from_list_all is_plain word plain k d within)).0

kept : (word : List ℕ) (parts : List (List ℕ)) → IsWord word → filter (λ part. nat_lt 0 (length part)) (word ∷ parts) ≡ word ∷ filter (λ part. nat_lt 0 (length part)) parts
kept word parts is = rw (lt-ltb 0 (length word) is.some) refl

cut_again : (words : List (List ℕ)) → AllByRecursion IsWord words → words_of (join_with_byte 32 words) ≡ words
cut_again [] each = refl
cut_again (word ∷ []) each =
    ap (filter (λ part. nat_lt 0 (length part))) (slice_split_none is_space word (no_space word each.0.plain)) ∙ kept word [] each.0
cut_again (word ∷ next ∷ more) each =
    ap (filter (λ part. nat_lt 0 (length part))) (slice_split_at is_space word 32 (join_with_byte 32 (next ∷ more)) (no_space word each.0.plain) refl)
    ∙ kept word (slice_split is_space (join_with_byte 32 (next ∷ more))) each.0
    ∙ ap (λ (words : List (List ℕ)). word ∷ words) (cut_again (next ∷ more) each.1)

-- no commentary begins at a byte
abbrev is_said : ℕ → Bool
is_said sign = not (sign == commentary_sign)

word_said : (word : List ℕ) → list_all is_plain word ≡ true → list_all is_said word ≡ true
word_said [] plain = refl
word_said (sign ∷ rest) plain =
    let parts = and_parts (is_plain sign) (list_all is_plain rest) plain in
    rw ((and_parts (not (is_space sign)) (is_said sign) parts.0).1, word_said rest parts.1) refl

all_said : (words : List (List ℕ)) → AllByRecursion IsWord words → list_all is_said (join_with_byte 32 words) ≡ true
all_said [] each = refl
all_said (word ∷ []) each = word_said word each.0.plain
all_said (word ∷ next ∷ more) each =
    list_all-append is_said word (32 ∷ join_with_byte 32 (next ∷ more)) ∙ rw (word_said word each.0.plain, all_said (next ∷ more) each.1) refl

uncommented : (text : List ℕ) → list_all is_said text ≡ true → before_commentary text ≡ text
uncommented text all =
    let none = λ (k : ℕ) (within : k < length text). not-true (get_or text k 0 == commentary_sign) (AllPass-from_list_all is_said text all k 0 within) in
    let whole : position_or_len (λ sign. sign == commentary_sign) text ≡ length text =
    position_or_len_is (λ sign. sign == commentary_sign) text (length text) 0 (omega arith) none (λ within. absurd (omega (arith, within))) in
    rw whole (take_all (length text) text (omega arith))

-- the words of the text of some words
pub words_again : (words : List (List ℕ)) → AllByRecursion IsWord words → words_of (before_commentary (join_with_byte 32 words)) ≡ words
words_again words each = ap words_of (uncommented (join_with_byte 32 words) (all_said words each)) ∙ cut_again words each
