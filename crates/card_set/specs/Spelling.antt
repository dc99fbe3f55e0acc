-- How cards are written: a letter for the rank and a letter for the suit, or ?? for an unknown
-- card.
use Rattle.std.specs.Prelude.{◌≡◌, ◌⊎◌, ℕ, ◌%◌, ◌≤◌, ◌<◌, ◌==◌, ◌&&◌, if◌then◌else◌, List, [], ◌∷◌, ◌++◌, length, find, Option, Some, None, option_and_then}
use Rattle.std.specs.Option.{option_map}
use Rattle.card_set.specs.declared.card.Rank.{Rank}
use Rattle.card_set.specs.declared.card.Rank.TheVariants as ranks
use Rattle.card_set.specs.declared.card.Suit.{Suit}
use Rattle.card_set.specs.declared.card.Suit.TheVariants as suits
use Rattle.card_set.specs.declared.card.Slot.{Slot}
use Rattle.card_set.specs.declared.card.Slot.TheVariants as slots
use Rattle.card_set.specs.Deck.{all_ranks, all_suits}
use Rattle.card_set.specs.declared.spelling.CardFault.{CardFault}
use Rattle.card_set.specs.declared.spelling.CardFault.TheVariants as faults

-- the letter of a rank, one of 23456789TJQKA
abbrev pub rank_letter : Rank → ℕ
rank_letter ranks.Two = 50
rank_letter ranks.Three = 51
rank_letter ranks.Four = 52
rank_letter ranks.Five = 53
rank_letter ranks.Six = 54
rank_letter ranks.Seven = 55
rank_letter ranks.Eight = 56
rank_letter ranks.Nine = 57
rank_letter ranks.Ten = 84
rank_letter ranks.Jack = 74
rank_letter ranks.Queen = 81
rank_letter ranks.King = 75
rank_letter ranks.Ace = 65

-- the letter of a suit, one of cdhs
abbrev pub suit_letter : Suit → ℕ
suit_letter suits.C = 99
suit_letter suits.D = 100
suit_letter suits.H = 104
suit_letter suits.S = 115

-- the sign of an unknown card: ?
abbrev pub unknown_sign : ℕ
unknown_sign = 63

-- the two letters of a slot
abbrev pub slot_spelling : Slot → List ℕ
slot_spelling (slots.Known card) = rank_letter card.rank ∷ suit_letter card.suit ∷ []
slot_spelling slots.Unknown = unknown_sign ∷ unknown_sign ∷ []

-- the letters of slots, one slot after another
abbrev pub spelling : List Slot → List ℕ
spelling [] = []
spelling (slot ∷ rest) = slot_spelling slot ++ spelling rest

-- some rank has this letter
abbrev pub IsRankLetter : ℕ → Type 0
IsRankLetter letter = (rank : Rank) × (rank_letter rank ≡ letter)

-- some suit has this letter
abbrev pub IsSuitLetter : ℕ → Type 0
IsSuitLetter letter = (suit : Suit) × (suit_letter suit ≡ letter)

-- a slot can begin with this letter: a letter of a rank, or ?
abbrev pub BeginsSlot : ℕ → Type 0
BeginsSlot first = IsRankLetter first ⊎ (first ≡ unknown_sign)

-- these two letters write a slot
abbrev pub SpellsSlot : ℕ → ℕ → Type 0
SpellsSlot first second = (slot : Slot) × (slot_spelling slot ≡ first ∷ second ∷ [])

-- what is wrong with a pair of letters: no slot begins with the first, or the second does not fit
-- the first
abbrev pub PairFault : ℕ → ℕ → CardFault → Type 0
PairFault first second faults.BadRank = ¬ (BeginsSlot first)
PairFault first second faults.BadSuit = BeginsSlot first × ¬ (SpellsSlot first second)
PairFault first second faults.OddLength = ⊥
PairFault first second faults.TooMany = ⊥

-- the bytes are at most seven pairs, and the first pair that writes no slot has this fault
pub record FirstBadPair (bytes : List ℕ) (fault : CardFault) : Type 0 where
  pub pairs : length bytes % 2 ≡ 0
  pub few : length bytes ≤ 14
  pub before : List Slot
  pub first : ℕ
  pub second : ℕ
  pub after : List ℕ
  pub stands : bytes ≡ spelling before ++ first ∷ second ∷ after
  pub bad : PairFault first second fault

-- why the bytes do not write at most seven slots
abbrev pub HasFault : List ℕ → CardFault → Type 0
HasFault bytes faults.OddLength = length bytes % 2 ≡ 1
HasFault bytes faults.TooMany = (length bytes % 2 ≡ 0) × (14 < length bytes)
HasFault bytes faults.BadRank = FirstBadPair bytes faults.BadRank
HasFault bytes faults.BadSuit = FirstBadPair bytes faults.BadSuit

-- the rank with this letter, if there is one
unfoldable pub rank_lettered : ℕ → Option Rank
rank_lettered letter = find (λ rank. rank_letter rank == letter) all_ranks

-- the suit with this letter, if there is one
unfoldable pub suit_lettered : ℕ → Option Suit
suit_lettered letter = find (λ suit. suit_letter suit == letter) all_suits

-- the slot that two letters write, if they write one
unfoldable pub slot_spelled : ℕ → ℕ → Option Slot
slot_spelled first second =
    if first == unknown_sign && second == unknown_sign
    then Some slots.Unknown
    else option_and_then
    (λ rank.
    option_map (λ suit. slots.Known (record { rank = rank; suit = suit }))
    (suit_lettered second))
    (rank_lettered first)

-- the slots that letters write, two letters each, if all pairs write one
abbrev pub slots_spelled : List ℕ → Option (List Slot)
slots_spelled [] = Some []
slots_spelled (first ∷ []) = None
slots_spelled (first ∷ second ∷ rest) =
    option_and_then (λ slot. option_map (λ others. slot ∷ others) (slots_spelled rest))
    (slot_spelled first second)
