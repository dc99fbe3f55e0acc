-- Laws of writing slots: what is written has one reading, and its first fault is unique.
use Rattle.std.proofs.Common.{◌≡◌, ℕ, ◌+◌, ◌*◌, ◌%◌, ◌<◌, ◌≤◌, ◌==◌, Bool, true, false, not, ◌&&◌, List, [], ◌∷◌, ◌++◌, length, take, drop, get_or, take-append-drop, Option, Some, None, refl, sym, ◌∙◌, ap, subst, arith, append_assoc, length-append, inl, inr, find, option_and_then, eqb-true}
use Rattle.std.specs.Option.{option_map}
use Rattle.std.proofs.lemmas.Bool.{and_parts, not-true}
use Rattle.std.proofs.lemmas.List.{drop_more}
use Rattle.card_set.specs.declared.card.Rank.{Rank}
use Rattle.card_set.specs.declared.card.Rank.TheVariants as ranks
use Rattle.card_set.specs.declared.card.Suit.{Suit}
use Rattle.card_set.specs.declared.card.Suit.TheVariants as suits
use Rattle.card_set.specs.declared.card.Slot.{Slot}
use Rattle.card_set.specs.declared.card.Slot.TheVariants as slots
use Rattle.card_set.specs.declared.spelling.CardFault.{CardFault}
use Rattle.card_set.specs.declared.spelling.CardFault.TheVariants as faults
use Rattle.card_set.specs.Deck.{all_ranks, all_suits}
use Rattle.card_set.specs.Spelling.{rank_letter, suit_letter, slot_spelling, spelling, rank_lettered, suit_lettered, slot_spelled, slots_spelled, HasFault, PairFault, BeginsSlot, SpellsSlot, FirstBadPair}
use Rattle.card_set.proofs.Letters.{each_rank}
use Rattle.card_set.proofs.Lists.{pair_more}
use Rattle.card_set.proofs.Tests.{chosen_either}

-- one more slot is its two letters more
pub spelling-push : (row : List Slot) (slot : Slot) → spelling (row ++ slot ∷ []) ≡ spelling row ++ slot_spelling slot
spelling-push [] (slots.Known card) = refl
spelling-push [] slots.Unknown = refl
spelling-push (s ∷ row) slot = ap (λ (l : List ℕ). slot_spelling s ++ l) (spelling-push row slot) ∙ sym (append_assoc (slot_spelling s) (spelling row) (slot_spelling slot))

-- each slot has two letters
pub length-slot_spelling : (slot : Slot) → length (slot_spelling slot) ≡ 2
length-slot_spelling (slots.Known card) = refl
length-slot_spelling slots.Unknown = refl

-- slots have twice as many letters
pub length-spelling : (row : List Slot) → length (spelling row) ≡ 2 * length row
length-spelling [] = refl
length-spelling (s ∷ row) = omega (arith, length-append (slot_spelling s) (spelling row), length-slot_spelling s, length-spelling row)

-- the letter of a rank is read as that rank
pub rank_lettered-rank_letter : (rank : Rank) → rank_lettered (rank_letter rank) ≡ Some rank
unfolding rank_lettered
rank_lettered-rank_letter ranks.Two = refl
rank_lettered-rank_letter ranks.Three = refl
rank_lettered-rank_letter ranks.Four = refl
rank_lettered-rank_letter ranks.Five = refl
rank_lettered-rank_letter ranks.Six = refl
rank_lettered-rank_letter ranks.Seven = refl
rank_lettered-rank_letter ranks.Eight = refl
rank_lettered-rank_letter ranks.Nine = refl
rank_lettered-rank_letter ranks.Ten = refl
rank_lettered-rank_letter ranks.Jack = refl
rank_lettered-rank_letter ranks.Queen = refl
rank_lettered-rank_letter ranks.King = refl
rank_lettered-rank_letter ranks.Ace = refl

-- the letter of a suit is read as that suit
pub suit_lettered-suit_letter : (suit : Suit) → suit_lettered (suit_letter suit) ≡ Some suit
unfolding suit_lettered
suit_lettered-suit_letter suits.C = refl
suit_lettered-suit_letter suits.D = refl
suit_lettered-suit_letter suits.H = refl
suit_lettered-suit_letter suits.S = refl

-- what a search finds passes its test
found : {A : Type 0} (test : A → Bool) (xs : List A) (x : A) → find test xs ≡ Some x → test x ≡ true
found test [] x is = absurd (cc)
found {A} test (y ∷ xs) x is =
    elim (chosen_either (test y) (Some y) (find test xs) (Some x) is) [
      | inl here ↦ let same : y ≡ x = cc in ap test (sym same) ∙ here.0
      | inr there ↦ found test xs x there.1
    ]

-- a rank that is read has this letter
pub rank_letter-rank_lettered : (letter : ℕ) (rank : Rank) → rank_lettered letter ≡ Some rank → rank_letter rank ≡ letter
unfolding rank_lettered
rank_letter-rank_lettered letter rank is = eqb-true (rank_letter rank) letter (found (λ r. rank_letter r == letter) all_ranks rank is)

-- a suit that is read has this letter
pub suit_letter-suit_lettered : (letter : ℕ) (suit : Suit) → suit_lettered letter ≡ Some suit → suit_letter suit ≡ letter
unfolding suit_lettered
suit_letter-suit_lettered letter suit is = eqb-true (suit_letter suit) letter (found (λ s. suit_letter s == letter) all_suits suit is)

-- the letter of a rank is no question mark
rank_letter-known : (rank : Rank) → rank_letter rank == 63 ≡ false
rank_letter-known rank = not-true (rank_letter rank == 63) (each_rank (λ letter. not (letter == 63)) refl rank)

-- the two letters of a card are read as that card
pub slot_spelled-card : (rank : Rank) (suit : Suit) → slot_spelled (rank_letter rank) (suit_letter suit) ≡ Some (slots.Known (record { rank = rank; suit = suit }))
unfolding slot_spelled
slot_spelled-card rank suit = rw (rank_letter-known rank, rank_lettered-rank_letter rank, suit_lettered-suit_letter suit) refl

-- two question marks are read as an unknown slot
pub slot_spelled-unknown : slot_spelled 63 63 ≡ Some slots.Unknown
unfolding slot_spelled
slot_spelled-unknown = refl

-- two letters, one after another
two_letters : (a b c d : ℕ) → a ≡ c → b ≡ d → a ∷ b ∷ [] ≡ c ∷ d ∷ []
two_letters a b c d one other = cc

card_letters : (first second : ℕ) (rank : Option Rank) (suit : Option Suit) (slot : Slot) → ((r : Rank) → rank ≡ Some r → rank_letter r ≡ first) → ((s : Suit) → suit ≡ Some s → suit_letter s ≡ second) → option_and_then (λ r. option_map (λ s. slots.Known (record { rank = r; suit = s })) suit) rank ≡ Some slot → slot_spelling slot ≡ first ∷ second ∷ []
card_letters first second None suit slot ranked suited is = absurd (cc)
card_letters first second (Some r) None slot ranked suited is = absurd (cc)
card_letters first second (Some r) (Some s) slot ranked suited is =
    let same : slots.Known (record { rank = r; suit = s }) ≡ slot = cc in
    ap slot_spelling (sym same) ∙ two_letters _ _ _ _ (ranked r refl) (suited s refl)

-- what two letters are read as is written with them
pub slot_spelling-slot_spelled : (first second : ℕ) (slot : Slot) → slot_spelled first second ≡ Some slot → slot_spelling slot ≡ first ∷ second ∷ []
unfolding slot_spelled
slot_spelling-slot_spelled first second slot is =
    elim (chosen_either (first == 63 && second == 63) (Some slots.Unknown) (option_and_then (λ r. option_map (λ s. slots.Known (record { rank = r; suit = s })) (suit_lettered second)) (rank_lettered first)) (Some slot) is) [
      | inl both ↦
          let parts = and_parts (first == 63) (second == 63) both.0 in
          let same : slots.Unknown ≡ slot = cc in
          ap slot_spelling (sym same) ∙ two_letters _ _ _ _ (sym (eqb-true first 63 parts.0)) (sym (eqb-true second 63 parts.1))
      | inr card ↦ card_letters first second (rank_lettered first) (suit_lettered second) slot (rank_letter-rank_lettered first) (suit_letter-suit_lettered second) card.1
    ]

-- the letters of a slot, before others, are read as that slot before the others
slots_spelled-cons : (slot : Slot) (rest : List ℕ) → slots_spelled (slot_spelling slot ++ rest) ≡ option_map (λ others. slot ∷ others) (slots_spelled rest)
slots_spelled-cons (slots.Known card) rest = ap (option_and_then (λ slot. option_map (λ others. slot ∷ others) (slots_spelled rest))) (slot_spelled-card card.rank card.suit)
slots_spelled-cons slots.Unknown rest = ap (option_and_then (λ slot. option_map (λ others. slot ∷ others) (slots_spelled rest))) slot_spelled-unknown

-- what is written is read back
pub slots_spelled-spelling : (row : List Slot) → slots_spelled (spelling row) ≡ Some row
slots_spelled-spelling [] = refl
slots_spelled-spelling (slot ∷ rest) = slots_spelled-cons slot (spelling rest) ∙ ap (option_map (λ others. slot ∷ others)) (slots_spelled-spelling rest)

read_pair : (first second : ℕ) (rest : List ℕ) (slot : Option Slot) (others : Option (List Slot)) (row : List Slot) → slot_spelled first second ≡ slot → slots_spelled rest ≡ others → ((found : List Slot) → others ≡ Some found → rest ≡ spelling found) → option_and_then (λ s. option_map (λ others. s ∷ others) others) slot ≡ Some row → first ∷ second ∷ rest ≡ spelling row
read_pair first second rest None others row is_slot is_rest spelled is = absurd (cc)
read_pair first second rest (Some slot) None row is_slot is_rest spelled is = absurd (cc)
read_pair first second rest (Some slot) (Some found) row is_slot is_rest spelled is =
    let same : slot ∷ found ≡ row = cc in
    ap (λ (l : List ℕ). first ∷ second ∷ l) (spelled found refl)
    ∙ ap (λ (l : List ℕ). l ++ spelling found) (sym (slot_spelling-slot_spelled first second slot is_slot))
    ∙ ap spelling same

-- what is read was written like that
pub spelling-slots_spelled : (bytes : List ℕ) (row : List Slot) → slots_spelled bytes ≡ Some row → bytes ≡ spelling row
spelling-slots_spelled [] row is = let same : [] ≡ row = cc in ap spelling same
spelling-slots_spelled (first ∷ []) row is = absurd (cc)
spelling-slots_spelled (first ∷ second ∷ rest) row is = read_pair first second rest (slot_spelled first second) (slots_spelled rest) row refl refl (spelling-slots_spelled rest) is

-- two rows that are written the same are the same
pub same_slots : (a b : List Slot) → spelling a ≡ spelling b → a ≡ b
same_slots a b same = let read : Some a ≡ Some b = sym (slots_spelled-spelling a) ∙ ap slots_spelled same ∙ slots_spelled-spelling b in cc

-- a slot begins with the letter of a rank or with a question mark
begins : (slot : Slot) (first second : ℕ) → slot_spelling slot ≡ first ∷ second ∷ [] → BeginsSlot first
begins (slots.Known card) first second is = let same : rank_letter card.rank ≡ first = cc in inl (card.rank, same)
begins slots.Unknown first second is = let same : first ≡ 63 = cc in inr same

-- a pair with a fault writes no slot
pub pair_spells_nothing : (first second : ℕ) (fault : CardFault) → PairFault first second fault → SpellsSlot first second → ⊥
pair_spells_nothing first second faults.OddLength bad spelled = bad
pair_spells_nothing first second faults.BadRank bad spelled = bad (begins spelled.0 first second spelled.1)
pair_spells_nothing first second faults.BadSuit bad spelled = bad.1 spelled
pair_spells_nothing first second faults.TooMany bad spelled = bad

-- a pair has one fault
one_pair_fault : (first second : ℕ) (a b : CardFault) → PairFault first second a → PairFault first second b → a ≡ b
one_pair_fault first second faults.OddLength b x y = absurd x
one_pair_fault first second faults.TooMany b x y = absurd x
one_pair_fault first second faults.BadRank faults.OddLength x y = absurd y
one_pair_fault first second faults.BadRank faults.BadRank x y = refl
one_pair_fault first second faults.BadRank faults.BadSuit x y = absurd (x y.0)
one_pair_fault first second faults.BadRank faults.TooMany x y = absurd y
one_pair_fault first second faults.BadSuit faults.OddLength x y = absurd y
one_pair_fault first second faults.BadSuit faults.BadRank x y = absurd (y x.0)
one_pair_fault first second faults.BadSuit faults.BadSuit x y = refl
one_pair_fault first second faults.BadSuit faults.TooMany x y = absurd y

-- the letters of a slot before others are two letters before others
heads : (slot : Slot) (first second : ℕ) (more rest : List ℕ) → slot_spelling slot ++ more ≡ first ∷ second ∷ rest → (slot_spelling slot ≡ first ∷ second ∷ []) × (more ≡ rest)
heads (slots.Known card) first second more rest is = (cc, cc)
heads slots.Unknown first second more rest is = (cc, cc)

behind : (s t : Slot) (x y : List ℕ) → slot_spelling s ++ x ≡ slot_spelling t ++ y → x ≡ y
behind (slots.Known card) (slots.Known other) x y is = cc
behind (slots.Known card) slots.Unknown x y is = cc
behind slots.Unknown (slots.Known card) x y is = cc
behind slots.Unknown slots.Unknown x y is = cc

-- after slots, the first pair that writes none is one pair
first_pair : (before others : List Slot) (a b c d : ℕ) (after rest : List ℕ) → spelling before ++ a ∷ b ∷ after ≡ spelling others ++ c ∷ d ∷ rest → (SpellsSlot a b → ⊥) → (SpellsSlot c d → ⊥) → (a ≡ c) × (b ≡ d)
first_pair [] [] a b c d after rest is one other = (cc, cc)
first_pair (s ∷ before) [] a b c d after rest is one other =
    let parts = heads s c d (spelling before ++ a ∷ b ∷ after) rest (sym (append_assoc (slot_spelling s) (spelling before) (a ∷ b ∷ after)) ∙ is) in
    absurd (other (s, parts.0))
first_pair [] (s ∷ others) a b c d after rest is one other =
    let parts = heads s a b (spelling others ++ c ∷ d ∷ rest) after (sym (append_assoc (slot_spelling s) (spelling others) (c ∷ d ∷ rest)) ∙ sym is) in
    absurd (one (s, parts.0))
first_pair (s ∷ before) (t ∷ others) a b c d after rest is one other =
    first_pair before others a b c d after rest (behind s t (spelling before ++ a ∷ b ∷ after) (spelling others ++ c ∷ d ∷ rest) (sym (append_assoc (slot_spelling s) (spelling before) (a ∷ b ∷ after)) ∙ is ∙ append_assoc (slot_spelling t) (spelling others) (c ∷ d ∷ rest))) one other

-- after slots, a pair that writes none does not make the bytes slots
no_slots : (before row : List Slot) (a b : ℕ) (after : List ℕ) → spelling before ++ a ∷ b ∷ after ≡ spelling row → (SpellsSlot a b → ⊥) → ⊥
no_slots [] [] a b after is none = absurd (cc)
no_slots (s ∷ before) [] a b after is none =
    absurd (omega (arith, ap length is, length-append (slot_spelling s ++ spelling before) (a ∷ b ∷ after)))
no_slots [] (s ∷ row) a b after is none = none (s, (heads s a b (spelling row) after (sym is)).0)
no_slots (s ∷ before) (t ∷ row) a b after is none =
    no_slots before row a b after (behind s t (spelling before ++ a ∷ b ∷ after) (spelling row) (sym (append_assoc (slot_spelling s) (spelling before) (a ∷ b ∷ after)) ∙ is)) none

-- bytes with a fault write no row
pub fault_spells_nothing : (bytes : List ℕ) (fault : CardFault) → HasFault bytes fault → (row : List Slot) → length row ≤ 7 → bytes ≡ spelling row → ⊥
fault_spells_nothing bytes faults.OddLength has row few is = omega (arith, ap length is, length-spelling row)
fault_spells_nothing bytes faults.TooMany has row few is = omega (arith, ap length is, length-spelling row)
fault_spells_nothing bytes faults.BadRank has row few is = no_slots has.before row has.first has.second has.after (sym has.stands ∙ is) (pair_spells_nothing has.first has.second faults.BadRank has.bad)
fault_spells_nothing bytes faults.BadSuit has row few is = no_slots has.before row has.first has.second has.after (sym has.stands ∙ is) (pair_spells_nothing has.first has.second faults.BadSuit has.bad)

-- the first bad pair has one fault
one_bad_pair : (bytes : List ℕ) (f g : CardFault) → FirstBadPair bytes f → FirstBadPair bytes g → f ≡ g
one_bad_pair bytes f g x y =
    let same = first_pair x.before y.before x.first x.second y.first y.second x.after y.after (sym x.stands ∙ y.stands) (pair_spells_nothing x.first x.second f x.bad) (pair_spells_nothing y.first y.second g y.bad) in
    one_pair_fault x.first x.second f g x.bad (subst (λ n. PairFault x.first n g) (sym same.1) (subst (λ n. PairFault n y.second g) (sym same.0) y.bad))

-- bytes have one fault
pub one_fault : (bytes : List ℕ) (f g : CardFault) → HasFault bytes f → HasFault bytes g → f ≡ g
one_fault bytes faults.OddLength faults.OddLength x y = refl
one_fault bytes faults.OddLength faults.BadRank x y = absurd (omega (arith, x, y.pairs))
one_fault bytes faults.OddLength faults.BadSuit x y = absurd (omega (arith, x, y.pairs))
one_fault bytes faults.OddLength faults.TooMany x y = absurd (omega (arith, x, y.0))
one_fault bytes faults.TooMany faults.OddLength x y = absurd (omega (arith, x.0, y))
one_fault bytes faults.TooMany faults.BadRank x y = absurd (omega (arith, x.1, y.few))
one_fault bytes faults.TooMany faults.BadSuit x y = absurd (omega (arith, x.1, y.few))
one_fault bytes faults.TooMany faults.TooMany x y = refl
one_fault bytes faults.BadRank faults.OddLength x y = absurd (omega (arith, y, x.pairs))
one_fault bytes faults.BadRank faults.TooMany x y = absurd (omega (arith, y.1, x.few))
one_fault bytes faults.BadRank faults.BadRank x y = refl
one_fault bytes faults.BadRank faults.BadSuit x y = one_bad_pair bytes faults.BadRank faults.BadSuit x y
one_fault bytes faults.BadSuit faults.OddLength x y = absurd (omega (arith, y, x.pairs))
one_fault bytes faults.BadSuit faults.TooMany x y = absurd (omega (arith, y.1, x.few))
one_fault bytes faults.BadSuit faults.BadRank x y = one_bad_pair bytes faults.BadSuit faults.BadRank x y
one_fault bytes faults.BadSuit faults.BadSuit x y = refl

-- one more pair writes one more slot
pub row_more : (bytes : List ℕ) (before row : List Slot) (slot : Slot) (index : ℕ) → take (2 * index) bytes ≡ spelling before → slot_spelling slot ≡ get_or bytes (2 * index) 0 ∷ get_or bytes (2 * index + 1) 0 ∷ [] → row ≡ before ++ slot ∷ [] → 2 * index + 1 < length bytes → take (2 * (index + 1)) bytes ≡ spelling row
row_more bytes before row slot index read spelled longer within =
    pair_more bytes index within
    ∙ ap (λ (l : List ℕ). l ++ get_or bytes (2 * index) 0 ∷ get_or bytes (2 * index + 1) 0 ∷ []) read
    ∙ ap (λ (l : List ℕ). spelling before ++ l) (sym spelled)
    ∙ sym (spelling-push before slot)
    ∙ ap spelling (sym longer)

-- a first bad pair is a fault of the bytes
has_fault : (bytes : List ℕ) (fault : CardFault) (first second : ℕ) → FirstBadPair bytes fault → PairFault first second fault → HasFault bytes fault
has_fault bytes faults.OddLength first second pair bad = absurd bad
has_fault bytes faults.TooMany first second pair bad = absurd bad
has_fault bytes faults.BadRank first second pair bad = pair
has_fault bytes faults.BadSuit first second pair bad = pair

-- the first pair after written slots that writes none is the fault of the bytes
pub pair_fault : (bytes : List ℕ) (before : List Slot) (index : ℕ) (fault : CardFault) → PairFault (get_or bytes (2 * index) 0) (get_or bytes (2 * index + 1) 0) fault → take (2 * index) bytes ≡ spelling before → 2 * index + 1 < length bytes → length bytes % 2 ≡ 0 → length bytes ≤ 14 → HasFault bytes fault
pair_fault bytes before index fault bad read within pairs few = has_fault bytes fault first second bad_pair bad
  where
    first : ℕ
    first = get_or bytes (2 * index) 0

    second : ℕ
    second = get_or bytes (2 * index + 1) 0

    bad_pair : FirstBadPair bytes fault
    bad_pair = record {
      pairs = pairs;
      few = few;
      before = before;
      first = first;
      second = second;
      after = drop (2 * index + 1 + 1) bytes;
      stands =
          sym (take-append-drop (2 * index) bytes)
          ∙ ap (λ (l : List ℕ). l ++ drop (2 * index) bytes) read
          ∙ ap (λ (l : List ℕ). spelling before ++ l) (drop_more bytes (2 * index) 0 (omega arith) ∙ ap (λ (l : List ℕ). first ∷ l) (drop_more bytes (2 * index + 1) 0 within));
      bad = bad;
    }
