-- Lines that are written one after another are read as their entries.
use Rattle.std.proofs.Common.{◌≡◌, ℕ, ◌+◌, ◌-◌, ◌≤◌, ◌<◌, ◌^◌, Bool, true, false, not, ◌&&◌, ◌||◌, ◌==◌, eqb, codes, decimal, List, [], ◌∷◌, ◌++◌, length, map, slice_index, Some, Ok, refl, sym, ap, ap₂, ◌∙◌, arith, append_assoc, ne_eqb}
use Rattle.std.specs.List.{AllByRecursion, flat_map, list_all}
use Rattle.std.proofs.lemmas.Bool.{and_parts}
use Rattle.std.proofs.lemmas.List.{append-nil, length-map}
use Rattle.std.proofs.lemmas.List.Folds.{list_all-append}
use Rattle.std.proofs.lemmas.List.Splits.{slice_split_at, slice_split_none}
use Rattle.chip_ledger.specs.AmountTexts.{spaced}
use Rattle.card_set.proofs.Entries.{never_at}
use Rattle.card_set.proofs.Tests.{both_true}
use Rattle.acpc_game.proofs.LineLaws.{line_and_more}
use Rattle.acpc_game.specs.Parts.{lines_of, parts_of, without_return}
use Rattle.acpc_game.specs.declared.key.GameKey.{GameKey}
use Rattle.acpc_game.specs.Forms.{form_of, form_with, is_passed_over, is_unused, key_and_numbers, key_before, numbers_behind}
use Rattle.acpc_game.specs.GameEntries.{EntrySaid, entries_after, entries_after_line, entries_with, may_come_next}
use Rattle.acpc_game.specs.GameText.{ended}
use Rattle.acpc_game.specs.Keys.{most_of, takes_count}
use Rattle.acpc_game.proofs.Bounds.{most_few}
use Rattle.acpc_game.proofs.NumbersAgain.{all_digits, are_within, ends_in_digit, numbers_again, spaced_pass, words_again}

-- a line without its newline, and the key and the numbers that it is written for
pub record WrittenLine : Type 0 where
  pub text : List ℕ
  pub key : GameKey
  pub numbers : List ℕ

-- a sign ends no line
abbrev pub is_inner : ℕ → Bool
is_inner sign = not (sign == 13 || sign == 10)

-- a sign is inside a line, and does not separate a key from its numbers
abbrev is_undivided : ℕ → Bool
is_undivided sign = not (sign == 61)

-- a line reads as its key and its numbers, in a limit or no-limit game
pub record Reads (no_limit : Bool) (line : WrittenLine) : Type 0 where
  pub said : is_passed_over line.text ≡ false
  pub form : form_of no_limit line.text ≡ Some (line.key, map decimal line.numbers)
  pub few : are_within (most_of line.key) line.numbers ≡ true
  pub inner : list_all is_inner line.text ≡ true

-- ---- a line of a key and numbers

-- the line of a key and numbers, without its newline
abbrev pub number_text : List ℕ → List ℕ → List ℕ
number_text word numbers = word ++ (codes " =" ++ spaced numbers)

abbrev pub number_line : List ℕ → GameKey → List ℕ → WrittenLine
number_line word key numbers = record { text = number_text word numbers; key = key; numbers = numbers }

-- a word names a key, and a line that begins with it has only this key
pub record Names (word : List ℕ) (key : GameKey) : Type 0 where
  pub said : (behind : List ℕ) → is_passed_over (word ++ behind) ≡ false
  pub form : (no_limit : Bool) (behind : List ℕ) → form_of no_limit (word ++ behind) ≡ key_and_numbers no_limit (parts_of 61 (word ++ behind))
  pub named : key_before (word ++ 32 ∷ []) ≡ Some key
  pub undivided : list_all is_undivided (word ++ 32 ∷ []) ≡ true
  pub inner : list_all is_inner word ≡ true

digit_undivided : (sign : ℕ) → 48 ≤ sign → sign ≤ 57 → is_undivided sign ≡ true
digit_undivided sign low high = rw (ne_eqb sign 61 (λ is. omega (arith, is, high))) refl

digit_inner : (sign : ℕ) → 48 ≤ sign → sign ≤ 57 → is_inner sign ≡ true
digit_inner sign low high = rw (ne_eqb sign 13 (λ is. omega (arith, is, low)), ne_eqb sign 10 (λ is. omega (arith, is, low))) refl

most_small : (key : GameKey) → most_of key < 2 ^ 64
most_small key = omega (arith, most_few key)

-- the parts of a line of a key and numbers
two_parts : (word numbers : List ℕ) → list_all is_undivided (word ++ 32 ∷ []) ≡ true → list_all is_undivided (spaced numbers) ≡ true
    → parts_of 61 (number_text word numbers) ≡ (word ++ 32 ∷ []) ∷ spaced numbers ∷ []
two_parts word numbers one other =
    ap (parts_of 61) (sym (append_assoc word (32 ∷ []) (61 ∷ spaced numbers)))
    ∙ slice_split_at (λ b. eqb b 61) (word ++ 32 ∷ []) 61 (spaced numbers) (λ k d within. never_at is_undivided 61 (word ++ 32 ∷ []) refl one k d within) refl
    ∙ ap (λ (parts : List (List ℕ)). (word ++ 32 ∷ []) ∷ parts) (slice_split_none (λ b. eqb b 61) (spaced numbers) (λ k d within. never_at is_undivided 61 (spaced numbers) refl other k d within))

numbers_form : (no_limit : Bool) (key : GameKey) (n : ℕ) (numbers : List ℕ) → is_unused no_limit key ≡ false → takes_count key (length (n ∷ numbers)) ≡ true → are_within (most_of key) (n ∷ numbers) ≡ true
    → numbers_behind no_limit key (spaced (n ∷ numbers)) ≡ Some (key, map decimal (n ∷ numbers))
unfolding numbers_behind form_with
numbers_form no_limit key n numbers used count few =
    let most = most_of key in
    let as_many : takes_count key (length (map decimal (n ∷ numbers))) ≡ true = ap (takes_count key) (length-map (n ∷ numbers) decimal) ∙ count in
    rw (ends_in_digit most (most_small key) n numbers few, words_again most (most_small key) n numbers few, all_digits most (most_small key) (n ∷ numbers) few, used, as_many) refl

-- a line of a key and numbers reads as these
pub number_reads : (no_limit : Bool) (word : List ℕ) (key : GameKey) (n : ℕ) (numbers : List ℕ) → Names word key → is_unused no_limit key ≡ false → takes_count key (length (n ∷ numbers)) ≡ true
    → are_within (most_of key) (n ∷ numbers) ≡ true → Reads no_limit (number_line word key (n ∷ numbers))
number_reads no_limit word key n numbers names used count few =
    let behind = codes " =" ++ spaced (n ∷ numbers) in
    let undivided = spaced_pass (most_of key) (most_small key) is_undivided (n ∷ numbers) refl digit_undivided few in
    let inner = spaced_pass (most_of key) (most_small key) is_inner (n ∷ numbers) refl digit_inner few in
    record {
      said = names.said behind;
      form = names.form no_limit behind ∙ ap (key_and_numbers no_limit) (two_parts word (n ∷ numbers) names.undivided undivided)
          ∙ rw names.named (numbers_form no_limit key n numbers used count few);
      few = few;
      inner = list_all-append is_inner word behind ∙ both_true (list_all is_inner word) (list_all is_inner behind) names.inner inner;
    }

-- ---- lines one after another

-- the text of lines, each of which ends with a newline
abbrev pub text_of : List WrittenLine → List ℕ
text_of lines = flat_map (λ line. ended line.text) lines

-- the lines without their newlines
abbrev pub texts_of : List WrittenLine → List (List ℕ)
texts_of lines = map (λ line. line.text) lines

same_line : (text : List ℕ) → list_all is_inner text ≡ true → without_return text ≡ text
same_line [] inner = refl
same_line (sign ∷ text) inner =
    let none : eqb (slice_index (sign ∷ text) (length (sign ∷ text) - 1)) 13 ≡ false = never_at is_inner 13 (sign ∷ text) refl inner (length (sign ∷ text) - 1) 0 (omega arith) in
    rw none refl

-- the lines of a text of lines are these lines
pub lines_again : (no_limit : Bool) (lines : List WrittenLine) → AllByRecursion (Reads no_limit) lines → lines_of (text_of lines) ≡ texts_of lines
lines_again no_limit [] each = refl
lines_again no_limit (line ∷ lines) each =
    let inner = each.0.inner in
    let cut : parts_of 10 (line.text ++ 10 ∷ text_of lines) ≡ line.text ∷ parts_of 10 (text_of lines) =
    slice_split_at (λ b. eqb b 10) line.text 10 (text_of lines) (λ k d within. never_at is_inner 10 line.text refl inner k d within) refl in
    ap lines_of (append_assoc line.text (10 ∷ []) (text_of lines))
    ∙ line_and_more (line.text ++ 10 ∷ text_of lines) line.text (text_of lines) cut
    ∙ ap₂ (λ (l : List ℕ) (ls : List (List ℕ)). l ∷ ls) (same_line line.text inner) (lines_again no_limit lines each.1)

-- the entry of a line with this number
abbrev pub entry_of : ℕ → WrittenLine → EntrySaid
entry_of number line = record { key = line.key; line = number; numbers = line.numbers }

-- the entries of lines, the first of which has this number
abbrev pub entries_from : ℕ → List WrittenLine → List EntrySaid
entries_from number [] = []
entries_from number (line ∷ lines) = entry_of number line ∷ entries_from (number + 1) lines

-- the key of each line is allowed after the entries before it
abbrev pub may_follow : List EntrySaid → ℕ → List WrittenLine → Bool
may_follow entries number [] = true
may_follow entries number (line ∷ lines) = may_come_next line.key entries && may_follow (entries ++ entry_of number line ∷ []) (number + 1) lines

one_more : (no_limit : Bool) (entries : List EntrySaid) (number : ℕ) (line : WrittenLine) → Reads no_limit line → may_come_next line.key entries ≡ true
    → entries_after_line no_limit entries number line.text ≡ Ok (entries ++ entry_of number line ∷ [])
unfolding entries_after_line entries_with
one_more no_limit entries number line reads stands =
    rw (reads.said, reads.form, stands, numbers_again (most_of line.key) (most_small line.key) number [] line.numbers reads.few) refl

-- lines that may follow one another are read as their entries
pub entries_again : (no_limit : Bool) (entries : List EntrySaid) (number : ℕ) (lines : List WrittenLine) → AllByRecursion (Reads no_limit) lines → may_follow entries number lines ≡ true
    → entries_after no_limit entries number (texts_of lines) ≡ Ok (entries ++ entries_from number lines)
unfolding entries_after
entries_again no_limit entries number [] each follow = ap Ok (sym (append-nil entries))
entries_again no_limit entries number (line ∷ lines) each follow =
    let parts = and_parts (may_come_next line.key entries) (may_follow (entries ++ entry_of number line ∷ []) (number + 1) lines) follow in
    rw (one_more no_limit entries number line each.0 parts.0)
    (entries_again no_limit (entries ++ entry_of number line ∷ []) (number + 1) lines each.1 parts.1
    ∙ ap Ok (append_assoc entries (entry_of number line ∷ []) (entries_from (number + 1) lines)))
