-- The hands of a text that is read one table at a time.
use Rattle.std.proofs.Common.{◌≡◌, ℕ, ◌+◌, ◌<◌, ◌≤◌, nat_lt, nat_le, if◌then◌else◌, inl, inr, None, true, List, [], ◌∷◌, ◌++◌, length, Some, Ok, Err, Result, refl, sym, ap, subst, ◌∙◌, arith, append_assoc, length-append}
use Rattle.std.proofs.lemmas.Bool.{cases_Bool}
use Rattle.std.proofs.lemmas.Bool.Decides.{nat_tests}
use Rattle.std.proofs.lemmas.Option.{none-some, same_Some}
use Rattle.std.proofs.lemmas.List.{append-nil}
use Rattle.std.specs.Str.Parse.{digits_value}
use Rattle.toml_parser.specs.Lexical.{skip_blank}
use Rattle.toml.specs.Data.{Members}
use Rattle.toml.specs.Parse.{parse_document, skip_bom}
use Rattle.first_fault.specs.Digits.{are_digits, number_of}
use Rattle.first_fault.specs.Reading.{◌>>=◌, thread_from}
use Rattle.first_fault.proofs.Thread.{behind}
use Rattle.hand_canon.specs.PlainHands.{PlainHand}
use Rattle.phh_reading.specs.Tables.{Entry, IsCut, IsTable}
use Rattle.phh_reading.proofs.Cutting.{cut_document}
use Rattle.phh_reading.specs.NextTable.{IsNextHand}
use Rattle.phh_reading.specs.Reading.{Wrong, document_said, hands_said, numbered_hand}
use Rattle.phh_reading.proofs.Ascending.{Ascend, ascending_apart, ascending_hands, tables_of}

-- what is read of a file
abbrev Read : Type 0
Read = Result (List PlainHand × ℕ) Wrong

-- the text is cut into tables with numbers that ascend, and this is read of their hands
abbrev IsRead : List ℕ → Read → Type 0
IsRead text read =
    (entries : List Entry) × IsCut text entries × Ascend 0 entries × (hands_said (tables_of entries) ≡ read)

-- However the rest is cut into tables with numbers that ascend from the least one on, the whole is
-- cut into tables, and the hands so far and those of these tables are read of it.
abbrev pub IsLeft : List ℕ → List ℕ → ℕ → ℕ → List PlainHand → Type 0
IsLeft text rest least file_moves hands =
    (entries : List Entry) → IsCut rest entries → Ascend least entries
    → IsRead text (behind hands (thread_from numbered_hand file_moves (length hands + 1) (tables_of entries)))

behind_none : (read : Read) → behind [] read ≡ read
behind_none (Ok found) = refl
behind_none (Err fault) = refl

-- a hand and what is read after it
hand_first : (hands : List PlainHand) (hand : PlainHand) (read : Read) → behind hands (read >>= λ others. Ok (hand ∷ others.0, others.1)) ≡ behind (hands ++ hand ∷ []) read
hand_first hands hand (Ok found) = ap (λ (all : List PlainHand). Ok (all, found.1)) (sym (append_assoc hands (hand ∷ []) found.0))
hand_first hands hand (Err fault) = refl

-- at the start all is left
pub left_at_start : (text : List ℕ) → IsLeft text text 0 0 []
left_at_start text entries cut ascend =
    (entries, cut, ascend, sym (behind_none (hands_said (tables_of entries))))

pub numbers_are : (text key lines next : List ℕ) (members : Members) → IsTable text key lines next members → are_digits key ≡ true
unfolding are_digits
numbers_are text key lines next members is =
    let some : nat_lt 0 (length key) ≡ true = grind (arith, nat_tests, is.some_digit) in
    rw (some, is.digits) refl

-- one more hand was read
pub left_after : (whole text next : List ℕ) (least number file_moves place moves : ℕ) (hands : List PlainHand) (hand : PlainHand)
    → IsNextHand file_moves place least text number next (hand, moves) → place ≡ length hands + 1
    → IsLeft whole text least file_moves hands → IsLeft whole next (number + 1) moves (hands ++ hand ∷ [])
unfolding thread_from
left_after whole text next least number file_moves place moves hands hand is place_is left entries cut ascend =
    let key = is.key in
    let members = is.members in
    let said : numbered_hand file_moves (length hands + 1) members ≡ Ok (hand ∷ [], moves) =
    subst (λ n. numbered_hand file_moves n members ≡ Ok (hand ∷ [], moves)) place_is is.said in
    let above : least ≤ digits_value 10 key = omega (arith, is.above, is.number_is) in
    let later : Ascend (digits_value 10 key + 1) entries = subst (λ n. Ascend (n + 1) entries) is.number_is ascend in
    let (all, whole_cut, whole_ascend, read) = left ((key, members) ∷ entries) (is.lines, next, is.table.table, cut) (numbers_are text key is.lines next members is.table.table, above, later) in
    let size : length (hands ++ hand ∷ []) ≡ length hands + 1 = omega (arith, length-append hands (hand ∷ [])) in
    (all, whole_cut, whole_ascend, read ∙ rw (said, size) (hand_first hands hand (thread_from numbered_hand moves (length hands + 1 + 1) (tables_of entries))))

-- what is left after a hand is shorter
pub shorter : (text next : List ℕ) (least number file_moves place : ℕ) (found : PlainHand × ℕ)
    → IsNextHand file_moves place least text number next found → length next < length text
shorter text next least number file_moves place found is =
    omega (arith, ap length is.table.table.text_is, length-append is.key (93 ∷ (is.lines ++ next)), length-append is.lines next)

-- nothing is left
pub nothing_left : (text rest : List ℕ) (least file_moves : ℕ) (hands : List PlainHand) → length rest ≡ 0 → IsLeft (skip_blank (skip_bom text)) rest least file_moves hands
    → document_said (parse_document text) ≡ Ok hands
unfolding thread_from
nothing_left text (c ∷ cs) least file_moves hands none left = absurd (omega (arith, none))
nothing_left text [] least file_moves hands none left =
    let (entries, cut, ascend, read) = left [] refl tt in
    let is_read : hands_said (tables_of entries) ≡ Ok (hands, file_moves) = read ∙ ap (λ (all : List PlainHand). Ok (all, file_moves)) (append-nil hands) in
    rw (cut_document text entries cut (ascending_apart entries 0 ascend), ascending_hands entries 0 ascend, is_read) refl

-- the number that digits say, if it is at most so great
pub number_said : (most : ℕ) (digits : List ℕ) (number : ℕ) → number_of most digits ≡ Some number → (number ≡ digits_value 10 digits) × (number ≤ most)
unfolding number_of
number_said most digits number is =
    elim (cases_Bool (nat_le (digits_value 10 digits) most)) [
      | inl within ↦
          let same : digits_value 10 digits ≡ number = same_Some (digits_value 10 digits) number (sym (ap (λ b. if b then Some (digits_value 10 digits) else None) within) ∙ is) in
          (sym same, grind (arith, nat_tests))
      | inr above ↦ absurd (none-some number (sym (ap (λ b. if b then Some (digits_value 10 digits) else None) above) ∙ is))
    ]
