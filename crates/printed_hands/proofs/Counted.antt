-- The sums of hands grow hand by hand, and their lines are those of the games and of all hands.
use Rattle.std.proofs.Common.{◌≡◌, ◌≤◌, ◌<◌, ℕ, zero, suc, ◌+◌, Bool, true, false, cond, List, [], ◌∷◌, ◌++◌, length, map, filter, take, drop, flat_map, slice_set, get_or, sum_by, length-append, Option, None, Some, codes, refl, sym, ap, ◌∙◌, arith}
use Rattle.std.specs.List.{AllByRecursion}
use Rattle.std.proofs.lemmas.Bool.{ne_eqb}
use Rattle.std.proofs.lemmas.List.{append-nil}
use Rattle.std.proofs.lemmas.List.Concat.{flat_map-append}
use Rattle.std.proofs.lemmas.List.Elements.{filter-append}
use Rattle.std.proofs.lemmas.List.Sums.{sum_by_push}
use Rattle.play_event.specs.Code.{code_text}
use Rattle.play_event.specs.declared.code.Code.{Code}
use Rattle.play_event.specs.Games.{all_games}
use Rattle.printed_hands.specs.Games.{AreFewSums, MOST_POTS, all_wanted, is_counted, line_for, sums_line, sums_of, with_hand}
use Rattle.printed_hands.specs.Report.{Hand, game_codes, game_line, hands_line, line_if_any}
use Rattle.printed_hands.specs.declared.games.Sums.{Sums}

-- all hands count if all are wanted
all_counted : (hands : List Hand) → filter (is_counted None) hands ≡ hands
all_counted [] = refl
all_counted (hand ∷ hands) = ap (λ rest. hand ∷ rest) (all_counted hands)

-- the hands that count, with one more
counted_more : (test : Hand → Bool) (hands : List Hand) (hand : Hand)
    → (length (filter test (hands ++ hand ∷ [])) ≡ cond (test hand) (length (filter test hands) + 1) (length (filter test hands)))
    × (sum_by (λ one. one.pots) (filter test (hands ++ hand ∷ [])) ≡ cond (test hand) (sum_by (λ one. one.pots) (filter test hands) + hand.pots) (sum_by (λ one. one.pots) (filter test hands)))
counted_more test hands hand =
    let more = filter-append test hands (hand ∷ []) in
    let both = by (test hand) in (ap length more ∙ both.0, ap (sum_by (λ one. one.pots)) more ∙ both.1)
  where
    by : (b : Bool)
        → (length (filter test hands ++ cond b (hand ∷ []) []) ≡ cond b (length (filter test hands) + 1) (length (filter test hands)))
        × (sum_by (λ one. one.pots) (filter test hands ++ cond b (hand ∷ []) []) ≡ cond b (sum_by (λ one. one.pots) (filter test hands) + hand.pots) (sum_by (λ one. one.pots) (filter test hands)))
    by true = (length-append (filter test hands) (hand ∷ []), sum_by_push (λ (one : Hand). one.pots) (filter test hands) hand)
    by false = (ap length (append-nil (filter test hands)), ap (sum_by (λ one. one.pots)) (append-nil (filter test hands)))

one_more : (hands : List Hand) (hand : Hand) (wanted : Option Code) → with_hand hand (sums_of hands wanted) ≡ sums_of (hands ++ hand ∷ []) wanted
one_more hands hand wanted =
    let more = counted_more (is_counted wanted) hands hand in
    λ i. record { wanted = wanted; hands = sym more.0 i; pots = sym more.1 i }

-- the sums of hands with one more
pub sums_more : (hands : List Hand) (hand : Hand) (wanted : List (Option Code))
    → map (with_hand hand) (map (sums_of hands) wanted) ≡ map (sums_of (hands ++ hand ∷ [])) wanted
sums_more hands hand [] = refl
sums_more hands hand (one ∷ rest) = λ i. one_more hands hand one i ∷ sums_more hands hand rest i

-- and that they are few
few_more : (count : ℕ) (hand : Hand) (sums : Sums) (b : Bool) → hand.pots ≤ MOST_POTS → AreFewSums count sums
    → AreFewSums (count + 1) (record { wanted = sums.wanted; hands = cond b (sums.hands + 1) sums.hands; pots = cond b (sums.pots + hand.pots) sums.pots })
few_more count hand sums true bounded few = record { hands = omega (arith, few.hands); pots = omega (arith, few.pots, bounded) }
few_more count hand sums false bounded few = record { hands = omega (arith, few.hands); pots = omega (arith, few.pots) }

pub all_few_more : (count : ℕ) (hand : Hand) (sums : List Sums) → hand.pots ≤ MOST_POTS → AllByRecursion (AreFewSums count) sums
    → AllByRecursion (AreFewSums (count + 1)) (map (with_hand hand) sums)
all_few_more count hand [] bounded few = tt
all_few_more count hand (one ∷ rest) bounded few =
    (few_more count hand one (is_counted one.wanted hand) bounded few.0, all_few_more count hand rest bounded few.1)

pub wider_sums : (few many : ℕ) (sums : List Sums) → few ≤ many → AllByRecursion (AreFewSums few) sums → AllByRecursion (AreFewSums many) sums
wider_sums few many [] more all = tt
wider_sums few many (one ∷ rest) more all =
    (record { hands = omega (arith, all.0.hands, more); pots = omega (arith, all.0.pots, more) }, wider_sums few many rest more all.1)

pub few_at : (count : ℕ) (sums : List Sums) (index : ℕ) (default : Sums) → index < length sums → AllByRecursion (AreFewSums count) sums
    → AreFewSums count (get_or sums index default)
few_at count [] index default within few = absurd (omega (arith, within))
few_at count (one ∷ rest) zero default within few = few.0
few_at count (one ∷ rest) (suc index) default within few = few_at count rest index default (omega (arith, within)) few.1

-- no hands are few
pub none_few : (wanted : List (Option Code)) → AllByRecursion (AreFewSums 0) (map (sums_of []) wanted)
none_few [] = tt
none_few (one ∷ rest) = (record { hands = omega arith; pots = omega arith }, none_few rest)

-- sums whose first ones are changed
abbrev pub changed : {X : Type 0} (f : X → X) (xs : List X) (index : ℕ) → List X
changed f xs index = map f (take index xs) ++ drop index xs

pub changed_next : {X : Type 0} (f : X → X) (xs : List X) (index : ℕ) (default : X) → index < length xs
    → slice_set (changed f xs index) index (f (get_or xs index default)) ≡ changed f xs (suc index)
changed_next f [] index default within = absurd (omega (arith, within))
changed_next f (x ∷ xs) zero default within = refl
changed_next f (x ∷ xs) (suc index) default within = ap (λ rest. f x ∷ rest) (changed_next f xs index default (omega (arith, within)))

pub unchanged_at : {X : Type 0} (f : X → X) (xs : List X) (index : ℕ) (default : X) → index < length xs
    → get_or (changed f xs index) index default ≡ get_or xs index default
unchanged_at f [] index default within = absurd (omega (arith, within))
unchanged_at f (x ∷ xs) zero default within = refl
unchanged_at f (x ∷ xs) (suc index) default within = unchanged_at f xs index default (omega (arith, within))

pub changed_all : {X : Type 0} (f : X → X) (xs : List X) (index : ℕ) → length xs ≤ index → changed f xs index ≡ map f xs
changed_all f [] zero over = refl
changed_all f [] (suc index) over = refl
changed_all f (x ∷ xs) zero over = absurd (omega (arith, over))
changed_all f (x ∷ xs) (suc index) over = ap (λ rest. f x ∷ rest) (changed_all f xs index (omega (arith, over)))

pub changed_long : {X : Type 0} (f : X → X) (xs : List X) (index : ℕ) → length (changed f xs index) ≡ length xs
changed_long f [] zero = refl
changed_long f [] (suc index) = refl
changed_long f (x ∷ xs) zero = refl
changed_long f (x ∷ xs) (suc index) = ap suc (changed_long f xs index)

-- the line of a game that was played, or nothing
game_is : (code : Code) (hands : List Hand) → line_for (Some code) (length hands) (sum_by (λ hand. hand.pots) hands) ≡ line_if_any (code_text code) hands
game_is code [] = refl
game_is code (hand ∷ hands) =
    ap (λ (b : Bool). cond b [] (hands_line (code_text code) (hand ∷ hands))) (ne_eqb (suc (length hands)) 0 (λ same. omega (arith, same)))

games_are : (hands : List Hand) (games : List Code) → flat_map sums_line (map (sums_of hands) (map Some games)) ≡ flat_map (game_line hands) (map code_text games)
games_are hands [] = refl
games_are hands (code ∷ rest) = λ i. game_is code (filter (is_counted (Some code)) hands) i ++ games_are hands rest i

-- the lines of the sums
pub lines_are : (hands : List Hand) → flat_map sums_line (map (sums_of hands) all_wanted) ≡ flat_map (game_line hands) game_codes ++ hands_line (codes "total") hands
lines_are hands =
    flat_map-append sums_line (map (sums_of hands) (map Some all_games)) (sums_of hands None ∷ [])
    ∙ ap (λ (lines : List ℕ). lines ++ (sums_line (sums_of hands None) ++ [])) (games_are hands all_games)
    ∙ ap (λ (line : List ℕ). flat_map (game_line hands) game_codes ++ line) (append-nil (sums_line (sums_of hands None)) ∙ ap (hands_line (codes "total")) (all_counted hands))
