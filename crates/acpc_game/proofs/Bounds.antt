-- Numbers up to the greatest that their key takes.
use Rattle.std.proofs.Common.{◌≡◌, ℕ, zero, suc, ◌≤◌, true, nat_le, eqb, List, [], ◌∷◌, replicate, get_or, refl, subst, arith}
use Rattle.std.specs.List.{list_all}
use Rattle.std.proofs.lemmas.Bool.{and_parts, le-leb, leb-true}
use Rattle.std.proofs.lemmas.Bool.Decides.{nat_tests}
use Rattle.acpc_game.specs.declared.key.GameKey.{GameKey}
use Rattle.acpc_game.specs.declared.key.GameKey.TheVariants as keys
use Rattle.acpc_game.specs.Keys.{most_of, key_order, takes_count}
use Rattle.acpc_game.specs.Games.{are_chips}
use Rattle.chip_ledger.specs.declared.numbers.TheConstants.{MOST_CHIPS}

more_room : (most : ℕ) (numbers : List ℕ) → most ≤ MOST_CHIPS → list_all (λ number. nat_le number most) numbers ≡ true → are_chips numbers ≡ true
more_room most [] few all = refl
more_room most (number ∷ numbers) few all =
    let parts = and_parts (nat_le number most) (list_all (λ n. nat_le n most) numbers) all in
    rw (le-leb number MOST_CHIPS (omega (arith, few, leb-true number most parts.0)), more_room most numbers few parts.1) refl

pub most_few : (key : GameKey) → most_of key ≤ MOST_CHIPS
most_few keys.Begin = omega arith
most_few keys.End = omega arith
most_few keys.Limit = omega arith
most_few keys.NoLimit = omega arith
most_few keys.NumPlayers = omega arith
most_few keys.NumRounds = omega arith
most_few keys.Stack = omega arith
most_few keys.Blind = omega arith
most_few keys.RaiseSize = omega arith
most_few keys.UnusedSizes = omega arith
most_few keys.FirstPlayer = omega arith
most_few keys.MaxRaises = omega arith
most_few keys.NumSuits = omega arith
most_few keys.NumRanks = omega arith
most_few keys.NumHoleCards = omega arith
most_few keys.NumBoardCards = omega arith

pub within_most : (key : GameKey) (numbers : List ℕ) → list_all (λ number. nat_le number (most_of key)) numbers ≡ true → are_chips numbers ≡ true
within_most key numbers all = more_room (most_of key) numbers (most_few key) all

-- the default stack of each player is within the limit of chips
pub same_stacks : (count : ℕ) → are_chips (replicate count 2147483647) ≡ true
same_stacks zero = refl
same_stacks (suc count) = same_stacks count

-- an amount of a list, or 0 after its end, is within the limit
pub chips_within : (numbers : List ℕ) (index : ℕ) → are_chips numbers ≡ true → get_or numbers index 0 ≤ MOST_CHIPS
chips_within [] index all = omega arith
chips_within (number ∷ numbers) zero all = leb-true number MOST_CHIPS (and_parts (nat_le number MOST_CHIPS) (are_chips numbers) all).0
chips_within (number ∷ numbers) (suc index) all = chips_within numbers index (and_parts (nat_le number MOST_CHIPS) (are_chips numbers) all).1

caps_key : (key : GameKey) → eqb (key_order key) 8 ≡ true → key ≡ keys.MaxRaises
caps_key keys.Begin is = absurd (cc (is))
caps_key keys.End is = absurd (cc (is))
caps_key keys.Limit is = absurd (cc (is))
caps_key keys.NoLimit is = absurd (cc (is))
caps_key keys.NumPlayers is = absurd (cc (is))
caps_key keys.NumRounds is = absurd (cc (is))
caps_key keys.Stack is = absurd (cc (is))
caps_key keys.Blind is = absurd (cc (is))
caps_key keys.RaiseSize is = absurd (cc (is))
caps_key keys.UnusedSizes is = absurd (cc (is))
caps_key keys.FirstPlayer is = absurd (cc (is))
caps_key keys.MaxRaises is = refl
caps_key keys.NumSuits is = absurd (cc (is))
caps_key keys.NumRanks is = absurd (cc (is))
caps_key keys.NumHoleCards is = absurd (cc (is))
caps_key keys.NumBoardCards is = absurd (cc (is))

-- caps are four numbers of 32 bits
pub caps_small : (key : GameKey) (numbers : List ℕ) → eqb (key_order key) 8 ≡ true → list_all (λ number. nat_le number (most_of key)) numbers ≡ true → list_all (λ number. nat_le number 4294967295) numbers ≡ true
caps_small key numbers is all = subst (λ (k : GameKey). list_all (λ number. nat_le number (most_of k)) numbers ≡ true) (caps_key key is) all

pub caps_four : (key : GameKey) (count : ℕ) → eqb (key_order key) 8 ≡ true → takes_count key count ≡ true → count ≡ 4
caps_four key count is has = let four : eqb count 4 ≡ true = subst (λ (k : GameKey). takes_count k count ≡ true) (caps_key key is) has in grind (arith, nat_tests, four)
