-- The signs of digits, of cards and of names.
use Rattle.std.proofs.Common.{◌≡◌, ℕ, ◌≤◌, ◌<◌, ◌^◌, Bool, true, false, ◌&&◌, ◌||◌, ◌==◌, not, List, [], ◌∷◌, decimal, refl, arith, ne_eqb}
use Rattle.std.specs.Str.Parse.{AllDigits}
use Rattle.std.proofs.lemmas.Bool.{and_parts}
use Rattle.std.proofs.lemmas.Fmt.{decimal_is_IsNumeral}
use Rattle.std.proofs.lemmas.Str.Parse.{digit_from_value}
use Rattle.card_set.specs.declared.card.Slot.{Slot}
use Rattle.card_set.specs.declared.card.Slot.TheVariants as slots
use Rattle.card_set.specs.Spelling.{rank_letter, slot_spelling, spelling, suit_letter}
use Rattle.acpc_format.specs.Names.{may_stand}
use Rattle.card_set.proofs.Letters.{each_rank, each_suit}
use Rattle.acpc_format.proofs.Splits.{Passes, passes_both, passes_more, passes_none}
use Rattle.chip_ledger.specs.SeatsSaid.{default_name}

-- a sign is allowed in a field: it is no colon, and ends no line
abbrev pub is_clear : ℕ → Bool
is_clear sign = not (sign == 58 || (sign == 13 || sign == 10))

-- a sign is allowed in a card: it is also no bar, no stroke and no point
abbrev pub is_plain : ℕ → Bool
is_plain sign = may_stand sign && not (sign == 47 || sign == 46)

clear_of : (a b c d : Bool) → not (a || (b || (c || d))) ≡ true → not (a || (c || d)) ≡ true
clear_of false false false false is = refl
clear_of true b c d is = absurd (cc (is))
clear_of false true c d is = absurd (cc (is))
clear_of false false true d is = absurd (cc (is))
clear_of false false false true is = absurd (cc (is))

pub stands_clear : (sign : ℕ) → may_stand sign ≡ true → is_clear sign ≡ true
stands_clear sign is = clear_of (sign == 58) (sign == 124) (sign == 13) (sign == 10) is

pub plain_stands : (sign : ℕ) → is_plain sign ≡ true → may_stand sign ≡ true
plain_stands sign is = (and_parts (may_stand sign) (not (sign == 47 || sign == 46)) is).0

digit_plain : (sign : ℕ) → 48 ≤ sign → sign ≤ 57 → is_plain sign ≡ true
digit_plain sign low high =
    rw (ne_eqb sign 58 (λ is. omega (arith, is, high)), ne_eqb sign 124 (λ is. omega (arith, is, high)), ne_eqb sign 13 (λ is. omega (arith, is, low)), ne_eqb sign 10 (λ is. omega (arith, is, low)), ne_eqb sign 47 (λ is. omega (arith, is, low)), ne_eqb sign 46 (λ is. omega (arith, is, low)))
    refl

pub digits_plain : (digits : List ℕ) → AllDigits 10 digits → Passes is_plain digits
digits_plain [] all = passes_none is_plain
digits_plain (digit ∷ digits) all =
    let range = digit_from_value digit all.0 in
    passes_more is_plain digit digits (digit_plain digit range.0 range.1) (digits_plain digits all.1)

pub decimal_plain : (n : ℕ) → n < 2 ^ 64 → Passes is_plain (decimal n)
decimal_plain n small = digits_plain (decimal n) (decimal_is_IsNumeral n small).0.1

slot_plain : (slot : Slot) → Passes is_plain (slot_spelling slot)
slot_plain slots.Unknown = record { all = refl }
slot_plain (slots.Known card) =
    passes_more is_plain (rank_letter card.rank) (suit_letter card.suit ∷ []) (each_rank is_plain refl card.rank)
    (passes_more is_plain (suit_letter card.suit) [] (each_suit is_plain refl card.suit) (passes_none is_plain))

pub cards_plain : (cards : List Slot) → Passes is_plain (spelling cards)
cards_plain [] = passes_none is_plain
cards_plain (slot ∷ cards) = passes_both is_plain (slot_spelling slot) (spelling cards) (slot_plain slot) (cards_plain cards)

pub default_plain : (seat : ℕ) → seat < 2 ^ 64 → Passes is_plain (default_name seat)
default_plain seat small = passes_more is_plain 112 (decimal seat) refl (decimal_plain seat small)
