-- The parts of an action read back as what they were written for: the name of a seat, an amount,
-- and cards.
use Rattle.std.proofs.Common.{◌≡◌, ℕ, zero, suc, ◌+◌, ◌<◌, ◌≤◌, ◌^◌, Bool, true, false, bytes_eq, List, [], ◌∷◌, length, drop, find, decimal, Some, Ok, refl, ap, ◌∙◌, arith, inl, inr}
use Rattle.std.specs.Char.{digit_value}
use Rattle.std.specs.List.{list_all, list_any, range_with_len}
use Rattle.std.specs.Str.Parse.{AllDigits}
use Rattle.std.proofs.lemmas.Bool.{cases_Bool, cases_lt, le-leb, lt-ltb}
use Rattle.std.proofs.lemmas.Fmt.{decimal_is_IsNumeral, decimal_injective}
use Rattle.std.proofs.lemmas.List.{length-map}
use Rattle.std.proofs.lemmas.Slice.Eq.{bytes_eq-Decides}
use Rattle.card_set.specs.declared.card.Card.{Card}
use Rattle.card_set.specs.declared.card.Slot.{Slot}
use Rattle.card_set.specs.declared.card.Slot.TheVariants as slots
use Rattle.card_set.specs.Known.{hides_card, known_slots}
use Rattle.card_set.specs.Spelling.{spelling}
use Rattle.chip_ledger.specs.declared.numbers.TheConstants.{MOST_CHIPS}
use Rattle.first_fault.specs.Digits.{are_digits, number_of}
use Rattle.phh_actions.specs.Action.{amount_said, cards_said, seat_named, seat_said, slots_said}
use Rattle.phh_actions.proofs.CardLaws.{slots_read}
use Rattle.phh_actions.proofs.WordsAgain.{IsWord, is_plain}
use Rattle.card_set.proofs.KnownCards.{all_known}
use Rattle.card_set.proofs.Letters.{each_rank, each_suit}
use Rattle.card_set.proofs.Digits.{of_digits}
use Rattle.chip_ledger.specs.SeatsSaid.{default_name}

-- digits are bytes of a word
digit_plain : (sign : ℕ) → digit_value sign < 10 → is_plain sign ≡ true
digit_plain sign small = grind arith

digits_plain : (digits : List ℕ) → AllDigits 10 digits → list_all is_plain digits ≡ true
digits_plain [] each = refl
digits_plain (digit ∷ digits) each = rw (digit_plain digit each.0, digits_plain digits each.1) refl

-- a number that is written is a word
pub decimal_word : (number : ℕ) → number < 2 ^ 64 → IsWord (decimal number)
decimal_word number small =
    let is = decimal_is_IsNumeral number small in
    record { some = is.0.0; plain = digits_plain (decimal number) is.0.1 }

-- the name of a seat is a word
pub name_word : (seat : ℕ) → seat ≤ 10 → IsWord (default_name seat)
name_word seat few =
    record { some = omega arith; plain = digits_plain (decimal seat) (decimal_is_IsNumeral seat (omega (arith, few))).0.1 }

spelling_plain : (cards : List Slot) → list_all is_plain (spelling cards) ≡ true
spelling_plain [] = refl
spelling_plain (slots.Known card ∷ rest) = rw (each_rank is_plain refl card.rank, each_suit is_plain refl card.suit, spelling_plain rest) refl
spelling_plain (slots.Unknown ∷ rest) = spelling_plain rest

spelling_some : (cards : List Slot) → 1 ≤ length cards → 0 < length (spelling cards)
spelling_some [] some = absurd (omega (arith, some))
spelling_some (slots.Known card ∷ rest) some = omega arith
spelling_some (slots.Unknown ∷ rest) some = omega arith

-- the letters of slots are a word
pub slots_word : (cards : List Slot) → 1 ≤ length cards → IsWord (spelling cards)
slots_word cards some = record { some = spelling_some cards some; plain = spelling_plain cards }

-- the letters of cards are a word
pub cards_word : (cards : List Card) → 1 ≤ length cards → IsWord (spelling (known_slots cards))
cards_word cards some = slots_word (known_slots cards) (omega (arith, some, length-map cards (λ card. slots.Known card)))

-- the first number that passes
first_found : (test : ℕ → Bool) (first count n : ℕ) → first ≤ n → n < first + count → ((m : ℕ) → first ≤ m → m < n → test m ≡ false) → test n ≡ true → find test (range_with_len first count) ≡ Some n
first_found test first zero n from within before passes = absurd (omega (arith, from, within))
first_found test first (suc count) n from within before passes =
    elim (cases_lt first n) [
      | inl later ↦ rw (before first (omega arith) later) (first_found test (first + 1) count n (omega (arith, later)) (omega (arith, within)) (λ m start below. before m (omega (arith, start)) below) passes)
      | inr here ↦ let same : first ≡ n = omega (arith, here, from) in rw (ap test same ∙ passes) (ap (λ m. Some m) same)
    ]

-- the name of a seat is that of no other seat
names_differ : (seat other : ℕ) → seat ≤ 10 → other < seat → bytes_eq (default_name seat) (default_name other) ≡ false
names_differ seat other few below =
    elim (cases_Bool (bytes_eq (default_name seat) (default_name other))) [
      | inl same ↦
          let names : default_name seat ≡ default_name other = (bytes_eq-Decides (default_name seat) (default_name other)).0 same in
          let numbers : decimal seat ≡ decimal other = ap (λ (name : List ℕ). drop 1 name) names in
          absurd (omega (arith, below, decimal_injective seat other (omega (arith, few)) (omega (arith, few, below)) numbers))
      | inr differ ↦ differ
    ]

-- the name of a seat names that seat
pub seat_again : (seats seat : ℕ) → seats ≤ 10 → 1 ≤ seat → seat ≤ seats → seat_said seats (default_name seat) ≡ Ok seat
unfolding seat_said seat_named
seat_again seats seat few from within =
    let found = first_found (λ other. bytes_eq (default_name seat) (default_name other)) 1 seats seat from (omega (arith, within))
    (λ other _ below. names_differ seat other (omega (arith, few, within)) below) ((bytes_eq-Decides (default_name seat) (default_name seat)).1 refl) in
    rw found refl

-- an amount that is written reads as that amount
pub amount_again : (amount : ℕ) → amount ≤ MOST_CHIPS → amount_said (decimal amount) ≡ Ok amount
unfolding amount_said are_digits number_of
amount_again amount most =
    let is = decimal_is_IsNumeral amount (omega (arith, most)) in
    rw (lt-ltb 0 (length (decimal amount)) is.0.0, of_digits (decimal amount) is.0.1, is.1, le-leb amount MOST_CHIPS most) refl

-- cards, known or unknown, that are written read as these
pub slots_again : (most : ℕ) (cards : List Slot) → 1 ≤ length cards → length cards ≤ most → slots_said most (spelling cards) ≡ Ok cards
slots_again most cards some few = slots_read most (spelling cards) cards refl ∙ rw (le-leb 1 (length cards) some, le-leb (length cards) most few) refl

none_unknown : (cards : List Card) → list_any hides_card (known_slots cards) ≡ false
none_unknown [] = refl
none_unknown (card ∷ rest) = none_unknown rest

-- cards that are written read as these
pub cards_again : (most : ℕ) (cards : List Card) → 1 ≤ length cards → length cards ≤ most → cards_said most (spelling (known_slots cards)) ≡ Ok cards
unfolding cards_said
cards_again most cards some few =
    let count : length (known_slots cards) ≡ length cards = length-map cards (λ card. slots.Known card) in
    rw (slots_again most (known_slots cards) (omega (arith, some, count)) (omega (arith, few, count)), none_unknown cards, all_known cards) refl
