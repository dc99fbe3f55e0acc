-- The letters of ranks and suits are ASCII bytes, so a card is written as two bytes.
use Rattle.card_set.specs.Spelling.{rank_letter, slot_spelling, suit_letter}
use Rattle.card_set.specs.declared.card.Rank.{Rank}
use Rattle.card_set.specs.declared.card.Slot.{Slot}
use Rattle.card_set.specs.declared.card.Suit.{Suit}
use Rattle.std.proofs.Common.{◌≡◌, ℕ, ◌<◌, Bool, true, ltb, get_or, map, refl, arith}
use Rattle.std.specs.List.{list_all}
use Rattle.std.proofs.lemmas.Bool.{ltb-true}
use Rattle.std.proofs.lemmas.List.Sums.{AllPass-from_list_all}
use Rattle.card_set.specs.Deck.{all_ranks, all_suits}
use Rattle.card_set.specs.declared.card.Rank.TheVariants as ranks
use Rattle.card_set.specs.declared.card.Suit.TheVariants as suits
use Rattle.card_set.specs.declared.card.Slot.TheVariants as slots

-- what holds of each of 23456789TJQKA holds of the letter of a rank
pub each_rank : (test : ℕ → Bool) → list_all test (map rank_letter all_ranks) ≡ true → (rank : Rank) → test (rank_letter rank) ≡ true
each_rank test all ranks.Two = AllPass-from_list_all test (map rank_letter all_ranks) all 0 0 (omega arith)
each_rank test all ranks.Three = AllPass-from_list_all test (map rank_letter all_ranks) all 1 0 (omega arith)
each_rank test all ranks.Four = AllPass-from_list_all test (map rank_letter all_ranks) all 2 0 (omega arith)
each_rank test all ranks.Five = AllPass-from_list_all test (map rank_letter all_ranks) all 3 0 (omega arith)
each_rank test all ranks.Six = AllPass-from_list_all test (map rank_letter all_ranks) all 4 0 (omega arith)
each_rank test all ranks.Seven = AllPass-from_list_all test (map rank_letter all_ranks) all 5 0 (omega arith)
each_rank test all ranks.Eight = AllPass-from_list_all test (map rank_letter all_ranks) all 6 0 (omega arith)
each_rank test all ranks.Nine = AllPass-from_list_all test (map rank_letter all_ranks) all 7 0 (omega arith)
each_rank test all ranks.Ten = AllPass-from_list_all test (map rank_letter all_ranks) all 8 0 (omega arith)
each_rank test all ranks.Jack = AllPass-from_list_all test (map rank_letter all_ranks) all 9 0 (omega arith)
each_rank test all ranks.Queen = AllPass-from_list_all test (map rank_letter all_ranks) all 10 0 (omega arith)
each_rank test all ranks.King = AllPass-from_list_all test (map rank_letter all_ranks) all 11 0 (omega arith)
each_rank test all ranks.Ace = AllPass-from_list_all test (map rank_letter all_ranks) all 12 0 (omega arith)

-- what holds of each of cdhs holds of the letter of a suit
pub each_suit : (test : ℕ → Bool) → list_all test (map suit_letter all_suits) ≡ true → (suit : Suit) → test (suit_letter suit) ≡ true
each_suit test all suits.C = AllPass-from_list_all test (map suit_letter all_suits) all 0 0 (omega arith)
each_suit test all suits.D = AllPass-from_list_all test (map suit_letter all_suits) all 1 0 (omega arith)
each_suit test all suits.H = AllPass-from_list_all test (map suit_letter all_suits) all 2 0 (omega arith)
each_suit test all suits.S = AllPass-from_list_all test (map suit_letter all_suits) all 3 0 (omega arith)

pub small_rank : (rank : Rank) → rank_letter rank < 128
small_rank rank = ltb-true (rank_letter rank) 128 (each_rank (λ letter. ltb letter 128) refl rank)

pub small_suit : (suit : Suit) → suit_letter suit < 128
small_suit suit = ltb-true (suit_letter suit) 128 (each_suit (λ letter. ltb letter 128) refl suit)

pub one_byte_each : (slot : Slot) → (get_or (slot_spelling slot) 0 0 < 128) × (get_or (slot_spelling slot) 1 0 < 128)
one_byte_each (slots.Known card) = (small_rank card.rank, small_suit card.suit)
one_byte_each slots.Unknown = (omega arith, omega arith)
