-- The posts that are written for a setup meet their conditions, and give its antes and blinds
-- again.
use Rattle.std.proofs.Common.{◌≡◌, ℕ, zero, suc, ◌+◌, ◌-◌, ◌<◌, ◌≤◌, ◌==◌, Bool, true, false, not, ◌&&◌, ◌||◌, nat_lt, cond, min, if◌then◌else◌, List, [], ◌∷◌, ◌++◌, length, map, Option, Some, None, is_some, Ok, refl, sym, ap, ◌∙◌, arith, true≢false}
use Rattle.std.specs.List.{list_all, list_any, range_with_len}
use Rattle.std.specs.Option.{option_map_or, option_or}
use Rattle.std.proofs.lemmas.Bool.{and_parts, eq-eqb, eqb-true, le-ltb, lt-leb, lt-ltb, ltb-false, ltb-true, ne_eqb}
use Rattle.std.proofs.lemmas.Bool.Decides.{nat_tests}
use Rattle.std.proofs.lemmas.List.{length-append}
use Rattle.card_set.proofs.Finding.{any_agree}
use Rattle.card_set.proofs.NumbersOfRange.{map_agree, some_in_range, all_of, any_none}
use Rattle.chip_ledger.specs.Greatest.{greatest}
use Rattle.chip_ledger.specs.Seat.{seats_of}
use Rattle.chip_ledger.specs.SeatRow.{amount_of, amounts_in}
use Rattle.play_event.specs.Chips.{blind_posted}
use Rattle.play_event.specs.Seats.{all_seats}
use Rattle.play_event.specs.declared.setup.Setup.{Setup}
use Rattle.ohh_writing.specs.Actions.{seat_of_big_blind, seat_of_small_blind}
use Rattle.ohh_writing.specs.Spelled.{greatest_ante}
use Rattle.ohh_rounds.specs.declared.checking.PostRule.{PostRule}
use Rattle.ohh_rounds.specs.declared.checking.PostRule.TheVariants as conditions
use Rattle.ohh_rounds.specs.declared.post.PostKind.{PostKind}
use Rattle.ohh_rounds.specs.declared.post.PostKind.TheVariants as kinds
use Rattle.ohh_rounds.specs.PostRules as conditions_of
use Rattle.ohh_rounds.specs.PostRules.{at_first, first_breaking, has_all_antes, holds, is_breaking, posts_checked}
use Rattle.ohh_rounds.specs.Posts.{PlainPost, ante_of, first_ante, first_straddle, has_big_blind, has_small_blind, is_ante, is_big_blind, is_small_blind, is_straddle}
use Rattle.ohh_rounds.specs.AntesAndBlinds.{antes_and_blinds_said, are_dead, held_ante, named_blind}
use Rattle.ohh_rounds.specs.NamedBlinds as tables
use Rattle.ohh_rounds.specs.NamedBlinds.{PlainNamedBlinds, seat_count, stack_of}
use Rattle.ohh_format.proofs.PutsAgain.{Put, first_both, first_is, first_put, has_both, has_is, has_no, has_put, no_kind, of_seat, other_put, post_at, posts_at, posts_both, puts_of}
use Rattle.card_set.proofs.Options.{or_nothing}
use Rattle.chip_ledger.proofs.RowLists.{row_listed}

-- a seat has an ante, and a straddle
abbrev pub posts_ante : Setup → ℕ → Bool
posts_ante setup seat = nat_lt 0 (amount_of setup.antes seat)

abbrev pub posts_straddle : Setup → ℕ → Bool
posts_straddle setup seat = nat_lt 2 seat && nat_lt 0 (amount_of setup.blinds seat)

abbrev pub blind_put : Setup → PostKind → ℕ → Put
blind_put setup kind seat = record { kind = kind; seat = seat; amount = blind_posted setup seat }

abbrev pub antes_put : Setup → List ℕ → List Put
antes_put setup seats = puts_of kinds.Ante (amount_of setup.antes) (posts_ante setup) seats

abbrev pub straddles_put : Setup → List ℕ → List Put
straddles_put setup seats = puts_of kinds.Straddle (blind_posted setup) (posts_straddle setup) seats

-- the posts of a setup
abbrev pub puts : Setup → List Put
puts setup =
    antes_put setup (all_seats setup)
    ++ (blind_put setup kinds.SmallBlind (seat_of_small_blind setup)
    ∷ blind_put setup kinds.BigBlind (seat_of_big_blind setup)
    ∷ straddles_put setup (all_seats setup))

-- a table is that of a setup whose antes and blinds can be written
pub record IsTableOf (setup : Setup) (table : PlainNamedBlinds) : Type 0 where
  pub count : seat_count table ≡ setup.stacks.seats
  pub stacks : (seat : ℕ) → stack_of table seat ≡ amount_of setup.stacks seat
  pub small : table.small_blind ≡ amount_of setup.blinds (seat_of_small_blind setup)
  pub big : table.big_blind ≡ amount_of setup.blinds (seat_of_big_blind setup)
  pub same_antes : setup.antes.seats ≡ setup.stacks.seats
  pub same_blinds : setup.blinds.seats ≡ setup.stacks.seats
  pub some_stack : (seat : ℕ) → 1 ≤ seat → seat ≤ setup.stacks.seats → 1 ≤ amount_of setup.stacks seat
  pub antes : (seat : ℕ) → amount_of setup.antes seat ≤ amount_of setup.stacks seat
  pub covered : (seat : ℕ) → 3 ≤ seat → seat ≤ setup.stacks.seats → amount_of setup.blinds seat ≤ amount_of setup.stacks seat - amount_of setup.antes seat
  pub whole : setup.dead_antes ≡ false → (seat : ℕ) → 1 ≤ seat → seat ≤ setup.stacks.seats → amount_of setup.antes seat ≡ min (amount_of setup.stacks seat) (greatest_ante setup)
  pub some_ante : setup.dead_antes ≡ true → list_any (posts_ante setup) (all_seats setup) ≡ true
  pub some_none : setup.dead_antes ≡ true → list_any (λ seat. amount_of setup.antes seat == 0) (all_seats setup) ≡ true

-- a list has a number for which a test fails
not_all : (p : ℕ → Bool) (first count number : ℕ) → first ≤ number → number < first + count → p number ≡ false → list_all p (range_with_len first count) ≡ false
not_all p first zero number from within fails = absurd (omega (arith, from, within))
not_all p first (suc count) number from within fails = by_first (p first) refl (first == number) refl (λ later. not_all p (first + 1) count number later (omega (arith, within)) fails)
  where
    by_first : (holds : Bool) → p first ≡ holds → (same : Bool) → (first == number) ≡ same → (first + 1 ≤ number → list_all p (range_with_len (first + 1) count) ≡ false) → (holds && list_all p (range_with_len (first + 1) count)) ≡ false
    by_first false is same e behind = refl
    by_first true is true e behind = absurd (true≢false (sym is ∙ ap p (eqb-true first number e) ∙ fails))
    by_first true is false e behind = behind (grind (arith, nat_tests, from))

module _ (setup : Setup) (table : PlainNamedBlinds) (is : IsTableOf setup table) where
  abbrev count : ℕ
  count = setup.stacks.seats

  abbrev posts : List PlainPost
  posts = posts_at 0 (puts setup)

  abbrev blinds_and_straddles : List Put
  blinds_and_straddles =
      blind_put setup kinds.SmallBlind (seat_of_small_blind setup) ∷ blind_put setup kinds.BigBlind (seat_of_big_blind setup) ∷ straddles_put setup (all_seats setup)

  ante_found : (seat : ℕ) → 1 ≤ seat → seat ≤ count → first_ante seat posts ≡ cond (posts_ante setup seat) (Some (amount_of setup.antes seat)) None
  ante_found seat low high =
      first_is is_ante seat 0 (puts setup)
      ∙ first_both is_ante seat (antes_put setup (all_seats setup)) blinds_and_straddles
      ∙ ap (λ (found : Option ℕ). option_or (first_put is_ante seat (antes_put setup (all_seats setup))) found) (no_kind kinds.Straddle (blind_posted setup) (posts_straddle setup) is_ante seat refl (all_seats setup))
      ∙ or_nothing (first_put is_ante seat (antes_put setup (all_seats setup)))
      ∙ of_seat kinds.Ante (amount_of setup.antes) (posts_ante setup) is_ante seat 1 count refl low (omega (arith, high))

  straddle_found : (seat : ℕ) → 1 ≤ seat → seat ≤ count → first_straddle seat posts ≡ cond (posts_straddle setup seat) (Some (blind_posted setup seat)) None
  straddle_found seat low high =
      first_is is_straddle seat 0 (puts setup)
      ∙ first_both is_straddle seat (antes_put setup (all_seats setup)) blinds_and_straddles
      ∙ ap (λ (found : Option ℕ). option_or found (first_put is_straddle seat (straddles_put setup (all_seats setup)))) (no_kind kinds.Ante (amount_of setup.antes) (posts_ante setup) is_straddle seat refl (all_seats setup))
      ∙ of_seat kinds.Straddle (blind_posted setup) (posts_straddle setup) is_straddle seat 1 count refl low (omega (arith, high))

  ante_is : (seat : ℕ) → 1 ≤ seat → seat ≤ count → ante_of posts seat ≡ amount_of setup.antes seat
  ante_is seat low high = ap (λ (found : Option ℕ). option_map_or (λ ante. ante) found 0) (ante_found seat low high) ∙ by_some (posts_ante setup seat) refl
    where
      by_some : (some : Bool) → posts_ante setup seat ≡ some → option_map_or (λ ante. ante) (cond some (Some (amount_of setup.antes seat)) None) 0 ≡ amount_of setup.antes seat
      by_some true e = refl
      by_some false e = omega (arith, ltb-false 0 (amount_of setup.antes seat) e)

  left_is : (seat : ℕ) → 1 ≤ seat → seat ≤ count → conditions_of.left_of table posts seat ≡ amount_of setup.stacks seat - amount_of setup.antes seat
  left_is seat low high = rw (is.stacks seat, ante_is seat low high) refl

  small_seat : tables.seat_of_small_blind table ≡ seat_of_small_blind setup
  small_seat = ap (λ (n : ℕ). if n == 2 then 2 else 1) is.count

  big_seat : tables.seat_of_big_blind table ≡ seat_of_big_blind setup
  big_seat = ap (λ (n : ℕ). if n == 2 then 1 else 2) is.count

  both_in : (1 ≤ seat_of_small_blind setup) × (seat_of_small_blind setup ≤ count) × (1 ≤ seat_of_big_blind setup) × (seat_of_big_blind setup ≤ count)
  both_in = by_two (count == 2) refl
    where
      by_two : (two : Bool) → (count == 2) ≡ two → (1 ≤ (if two then 2 else 1)) × ((if two then 2 else 1) ≤ count) × (1 ≤ (if two then 1 else 2)) × ((if two then 1 else 2) ≤ count)
      by_two true e = (omega arith, omega (arith, setup.stacks.least), omega arith, omega (arith, setup.stacks.least))
      by_two false e = (omega arith, omega (arith, setup.stacks.least), omega arith, omega (arith, setup.stacks.least))

  has_small : has_small_blind posts ≡ true
  has_small =
      has_is is_small_blind 0 (puts setup)
      ∙ has_both is_small_blind (antes_put setup (all_seats setup)) blinds_and_straddles
      ∙ ap (λ (b : Bool). b || true) (has_no kinds.Ante (amount_of setup.antes) (posts_ante setup) is_small_blind refl (all_seats setup))

  has_big : has_big_blind posts ≡ true
  has_big =
      has_is is_big_blind 0 (puts setup)
      ∙ has_both is_big_blind (antes_put setup (all_seats setup)) blinds_and_straddles
      ∙ ap (λ (b : Bool). b || true) (has_no kinds.Ante (amount_of setup.antes) (posts_ante setup) is_big_blind refl (all_seats setup))

  -- ---- whether all post antes

  greatest_is : conditions_of.greatest_ante table posts ≡ greatest_ante setup
  greatest_is =
      ap (λ (n : ℕ). greatest (map (ante_of posts) (seats_of n))) is.count
      ∙ ap greatest (map_agree (ante_of posts) (amount_of setup.antes) 1 count (λ seat low within. ante_is seat low (omega (arith, within))))

  post_found : (seat : ℕ) → 1 ≤ seat → seat ≤ count → is_some (first_ante seat posts) ≡ posts_ante setup seat
  post_found seat low high = ap is_some (ante_found seat low high) ∙ by_some (posts_ante setup seat)
    where
      by_some : (some : Bool) → is_some (cond some (Some (amount_of setup.antes seat)) None) ≡ some
      by_some true = refl
      by_some false = refl

  not_all_post : setup.dead_antes ≡ true → has_all_antes table posts ≡ false
  not_all_post dead =
      let found = some_in_range (λ seat. amount_of setup.antes seat == 0) 1 count (is.some_none dead) in
      let seat : ℕ = found.0 in
      let low : 1 ≤ seat = found.1.0 in
      let within : seat < 1 + count = found.1.1.0 in
      let none : amount_of setup.antes seat ≡ 0 = eqb-true (amount_of setup.antes seat) 0 found.1.1.1 in
      ap (λ (n : ℕ). list_all (λ seat. is_some (first_ante seat posts)) (seats_of n)) is.count
      ∙ not_all (λ seat. is_some (first_ante seat posts)) 1 count seat low within
      (post_found seat low (omega (arith, within)) ∙ le-ltb 0 (amount_of setup.antes seat) (omega (arith, none)))

  -- ---- each post among those before it

  pub record IsAnte (before : List Put) (seat amount : ℕ) : Type 0 where
    pub low : 1 ≤ seat
    pub high : seat ≤ setup.stacks.seats
    pub same : amount ≡ amount_of setup.antes seat
    pub some : 0 < amount
    pub first : first_put is_ante seat before ≡ None

  pub record IsSmall (before : List Put) (seat amount : ℕ) : Type 0 where
    pub at : seat ≡ seat_of_small_blind setup
    pub same : amount ≡ blind_posted setup seat
    pub first : has_put is_small_blind before ≡ false

  pub record IsBig (before : List Put) (seat amount : ℕ) : Type 0 where
    pub at : seat ≡ seat_of_big_blind setup
    pub same : amount ≡ blind_posted setup seat
    pub first : has_put is_big_blind before ≡ false

  pub record IsStraddle (before : List Put) (seat amount : ℕ) : Type 0 where
    pub low : 3 ≤ seat
    pub high : seat ≤ setup.stacks.seats
    pub same : amount ≡ blind_posted setup seat
    pub some : 0 < amount_of setup.blinds seat
    pub first : first_put is_straddle seat before ≡ None

  abbrev IsFine : PostKind → List Put → ℕ → ℕ → Type 0
  IsFine kinds.Ante before seat amount = IsAnte before seat amount
  IsFine kinds.SmallBlind before seat amount = IsSmall before seat amount
  IsFine kinds.BigBlind before seat amount = IsBig before seat amount
  IsFine kinds.Straddle before seat amount = IsStraddle before seat amount

  even : (before : List Put) (seat amount : ℕ) → IsAnte before seat amount → (dead : Bool) → setup.dead_antes ≡ dead
      → (has_all_antes table posts && not (amount == min (conditions_of.greatest_ante table posts) (stack_of table seat))) ≡ false
  even before seat amount fine true e = rw (not_all_post e) refl
  even before seat amount fine false e =
      let greatest_same = greatest_is in
      let stack_same = is.stacks seat in
      let same : amount ≡ min (conditions_of.greatest_ante table posts) (stack_of table seat) =
      omega (arith, fine.same, is.whole e seat fine.low fine.high, greatest_same, stack_same) in
      rw (eq-eqb amount (min (conditions_of.greatest_ante table posts) (stack_of table seat)) same) (and_no (has_all_antes table posts))
    where
      and_no : (b : Bool) → (b && false) ≡ false
      and_no true = refl
      and_no false = refl

  ante_fine : (condition : PostRule) (before : List Put) (index seat amount : ℕ) → IsAnte before seat amount
      → is_breaking condition table posts (posts_at 0 before) (post_at index (record { kind = kinds.Ante; seat = seat; amount = amount })) ≡ false
  unfolding is_breaking
  ante_fine conditions.Early before index seat amount fine = refl
  ante_fine conditions.OneOfEachBlind before index seat amount fine = refl
  ante_fine conditions.BlindSeats before index seat amount fine = refl
  ante_fine conditions.BlindAmounts before index seat amount fine = refl
  ante_fine conditions.Straddles before index seat amount fine = refl
  ante_fine conditions.Antes before index seat amount fine =
      rw (
        le-ltb (stack_of table seat) amount (omega (arith, is.stacks seat, fine.same, is.antes seat)),
        ne_eqb amount 0 (λ none. omega (arith, none, fine.some)),
        first_is is_ante seat 0 before,
        fine.first,
      ) refl
  ante_fine conditions.EvenAntes before index seat amount fine = even before seat amount fine setup.dead_antes refl

  small_fine : (condition : PostRule) (before : List Put) (index seat amount : ℕ) → IsSmall before seat amount
      → is_breaking condition table posts (posts_at 0 before) (post_at index (record { kind = kinds.SmallBlind; seat = seat; amount = amount })) ≡ false
  unfolding is_breaking
  small_fine conditions.Early before index seat amount fine = refl
  small_fine conditions.OneOfEachBlind before index seat amount fine = rw (has_is is_small_blind 0 before, fine.first) refl
  small_fine conditions.BlindSeats before index seat amount fine = rw (small_seat, eq-eqb seat (seat_of_small_blind setup) fine.at) refl
  small_fine conditions.BlindAmounts before index seat amount fine =
      let low : 1 ≤ seat = omega (arith, fine.at, both_in.0) in
      let high : seat ≤ count = omega (arith, fine.at, both_in.1) in
      let blind : table.small_blind ≡ amount_of setup.blinds seat = is.small ∙ ap (amount_of setup.blinds) (sym fine.at) in
      let same : amount ≡ min table.small_blind (conditions_of.left_of table posts seat) = omega (arith, fine.same, blind, left_is seat low high) in
      rw (eq-eqb amount (min table.small_blind (conditions_of.left_of table posts seat)) same) refl
  small_fine conditions.Straddles before index seat amount fine = refl
  small_fine conditions.Antes before index seat amount fine = refl
  small_fine conditions.EvenAntes before index seat amount fine = refl

  big_fine : (condition : PostRule) (before : List Put) (index seat amount : ℕ) → IsBig before seat amount
      → is_breaking condition table posts (posts_at 0 before) (post_at index (record { kind = kinds.BigBlind; seat = seat; amount = amount })) ≡ false
  unfolding is_breaking
  big_fine conditions.Early before index seat amount fine = refl
  big_fine conditions.OneOfEachBlind before index seat amount fine = rw (has_is is_big_blind 0 before, fine.first) refl
  big_fine conditions.BlindSeats before index seat amount fine = rw (big_seat, eq-eqb seat (seat_of_big_blind setup) fine.at) refl
  big_fine conditions.BlindAmounts before index seat amount fine =
      let low : 1 ≤ seat = omega (arith, fine.at, both_in.2) in
      let high : seat ≤ count = omega (arith, fine.at, both_in.3) in
      let blind : table.big_blind ≡ amount_of setup.blinds seat = is.big ∙ ap (amount_of setup.blinds) (sym fine.at) in
      let same : amount ≡ min table.big_blind (conditions_of.left_of table posts seat) = omega (arith, fine.same, blind, left_is seat low high) in
      rw (eq-eqb amount (min table.big_blind (conditions_of.left_of table posts seat)) same) refl
  big_fine conditions.Straddles before index seat amount fine = refl
  big_fine conditions.Antes before index seat amount fine = refl
  big_fine conditions.EvenAntes before index seat amount fine = refl

  straddle_fine : (condition : PostRule) (before : List Put) (index seat amount : ℕ) → IsStraddle before seat amount
      → is_breaking condition table posts (posts_at 0 before) (post_at index (record { kind = kinds.Straddle; seat = seat; amount = amount })) ≡ false
  unfolding is_breaking
  straddle_fine conditions.Early before index seat amount fine = refl
  straddle_fine conditions.OneOfEachBlind before index seat amount fine = refl
  straddle_fine conditions.BlindSeats before index seat amount fine = refl
  straddle_fine conditions.BlindAmounts before index seat amount fine = refl
  straddle_fine conditions.Straddles before index seat amount fine =
      let covered = is.covered seat fine.low fine.high in
      let some : amount ≡ 0 → ⊥ = λ none. omega (arith, none, fine.same, fine.some, covered) in
      rw (
        lt-leb seat 2 (omega (arith, fine.low)),
        ne_eqb amount 0 some,
        first_is is_straddle seat 0 before,
        fine.first,
        le-ltb (conditions_of.left_of table posts seat) amount (omega (arith, fine.same, left_is seat (omega (arith, fine.low)) fine.high)),
      ) refl
  straddle_fine conditions.Antes before index seat amount fine = refl
  straddle_fine conditions.EvenAntes before index seat amount fine = refl

  one_fine : (condition : PostRule) (kind : PostKind) (before : List Put) (index seat amount : ℕ) → IsFine kind before seat amount
      → is_breaking condition table posts (posts_at 0 before) (post_at index (record { kind = kind; seat = seat; amount = amount })) ≡ false
  one_fine condition kinds.Ante before index seat amount fine = ante_fine condition before index seat amount fine
  one_fine condition kinds.SmallBlind before index seat amount fine = small_fine condition before index seat amount fine
  one_fine condition kinds.BigBlind before index seat amount fine = big_fine condition before index seat amount fine
  one_fine condition kinds.Straddle before index seat amount fine = straddle_fine condition before index seat amount fine

  abbrev AreFine : List Put → List Put → Type 0
  AreFine before [] = Unit {0}
  AreFine before (put ∷ rest) = IsFine put.kind before put.seat put.amount × AreFine (before ++ put ∷ []) rest

  none_breaks : (condition : PostRule) (before rest : List Put) (index : ℕ) → AreFine before rest → index ≡ length before → first_breaking condition table posts (posts_at 0 before) (posts_at index rest) ≡ None
  none_breaks condition before [] index fine at = refl
  none_breaks condition before (put ∷ rest) index fine at =
      let here : posts_at 0 before ++ post_at index put ∷ [] ≡ posts_at 0 (before ++ put ∷ []) = ap (λ n. posts_at 0 before ++ post_at n put ∷ []) (omega (arith, at)) ∙ sym (posts_both 0 before (put ∷ [])) in
      let longer : index + 1 ≡ length (before ++ put ∷ []) = omega (arith, at, length-append before (put ∷ [])) in
      rw (one_fine condition put.kind before index put.seat put.amount fine.0, here) (none_breaks condition (before ++ put ∷ []) rest (index + 1) fine.1 longer)

  -- no blinds are among some posts
  record NoBlinds (before : List Put) : Type 0 where
    small : has_put is_small_blind before ≡ false
    big : has_put is_big_blind before ≡ false
    straddles : (seat : ℕ) → first_put is_straddle seat before ≡ None

  with_ante : (before : List Put) (seat amount : ℕ) → NoBlinds before → NoBlinds (before ++ record { kind = kinds.Ante; seat = seat; amount = amount } ∷ [])
  with_ante before seat amount none =
      let ante : Put = record { kind = kinds.Ante; seat = seat; amount = amount } in
      record {
        small = has_both is_small_blind before (ante ∷ []) ∙ ap (λ b. b || false) none.small;
        big = has_both is_big_blind before (ante ∷ []) ∙ ap (λ b. b || false) none.big;
        straddles = λ other. other_put is_straddle other before ante refl ∙ none.straddles other;
      }

  antes_fine : (first many : ℕ) (before rest : List Put) → 1 ≤ first → first + many ≤ count + 1 → ((seat : ℕ) → first ≤ seat → first_put is_ante seat before ≡ None) → NoBlinds before
      → ((after : List Put) → NoBlinds after → AreFine after rest) → AreFine before (antes_put setup (range_with_len first many) ++ rest)
  antes_fine first zero before rest low high none blinds more = more before blinds
  antes_fine first (suc many) before rest low high none blinds more =
      by_first (posts_ante setup first) refl
      (λ after later no_blinds. antes_fine (first + 1) many after rest (omega (arith, low)) (omega (arith, high)) later no_blinds more)
    where
      by_first : (some : Bool) → posts_ante setup first ≡ some
          → ((after : List Put) → ((seat : ℕ) → first + 1 ≤ seat → first_put is_ante seat after ≡ None) → NoBlinds after → AreFine after (antes_put setup (range_with_len (first + 1) many) ++ rest))
          → AreFine before ((if some then record { kind = kinds.Ante; seat = first; amount = amount_of setup.antes first } ∷ [] else []) ++ antes_put setup (range_with_len (first + 1) many) ++ rest)
      by_first true e later =
          let ante : Put = record { kind = kinds.Ante; seat = first; amount = amount_of setup.antes first } in (
            record { low = low; high = omega (arith, high); same = refl; some = ltb-true 0 (amount_of setup.antes first) e; first = none first (omega arith) },
            later (before ++ ante ∷ []) (λ seat from. other_put is_ante seat before ante (ne_eqb first seat (λ same. omega (arith, same, from))) ∙ none seat (omega (arith, from))) (with_ante before first (amount_of setup.antes first) blinds),
          )
      by_first false e later = later before (λ seat from. none seat (omega (arith, from))) blinds

  straddles_fine : (first many : ℕ) (before : List Put) → 1 ≤ first → first + many ≤ count + 1 → ((seat : ℕ) → first ≤ seat → first_put is_straddle seat before ≡ None)
      → AreFine before (straddles_put setup (range_with_len first many))
  straddles_fine first zero before low high none = tt
  straddles_fine first (suc many) before low high none =
      by_first (posts_straddle setup first) refl (λ after later. straddles_fine (first + 1) many after (omega (arith, low)) (omega (arith, high)) later)
    where
      by_first : (some : Bool) → posts_straddle setup first ≡ some
          → ((after : List Put) → ((seat : ℕ) → first + 1 ≤ seat → first_put is_straddle seat after ≡ None) → AreFine after (straddles_put setup (range_with_len (first + 1) many)))
          → AreFine before ((if some then record { kind = kinds.Straddle; seat = first; amount = blind_posted setup first } ∷ [] else []) ++ straddles_put setup (range_with_len (first + 1) many))
      by_first true e later =
          let straddle : Put = record { kind = kinds.Straddle; seat = first; amount = blind_posted setup first } in
          let parts = and_parts (nat_lt 2 first) (nat_lt 0 (amount_of setup.blinds first)) e in
          let past : 2 < first = ltb-true 2 first parts.0 in (
            record { low = omega (arith, past); high = omega (arith, high); same = refl; some = ltb-true 0 (amount_of setup.blinds first) parts.1; first = none first (omega arith) },
            later (before ++ straddle ∷ []) (λ seat from. other_put is_straddle seat before straddle (ne_eqb first seat (λ same. omega (arith, same, from))) ∙ none seat (omega (arith, from))),
          )
      by_first false e later = later before (λ seat from. none seat (omega (arith, from)))

  blinds_fine : (before : List Put) → NoBlinds before → AreFine before blinds_and_straddles
  blinds_fine before none =
      let small : Put = blind_put setup kinds.SmallBlind (seat_of_small_blind setup) in
      let big : Put = blind_put setup kinds.BigBlind (seat_of_big_blind setup) in
      let no_big : has_put is_big_blind (before ++ small ∷ []) ≡ false = has_both is_big_blind before (small ∷ []) ∙ ap (λ b. b || false) none.big in
      let no_straddle : (seat : ℕ) → first_put is_straddle seat ((before ++ small ∷ []) ++ big ∷ []) ≡ None =
      λ seat. other_put is_straddle seat (before ++ small ∷ []) big refl ∙ other_put is_straddle seat before small refl ∙ none.straddles seat in (
        record { at = refl; same = refl; first = none.small },
        (
          record { at = refl; same = refl; first = no_big },
          straddles_fine 1 count ((before ++ small ∷ []) ++ big ∷ []) (omega arith) (omega arith) (λ seat from. no_straddle seat),
        ),
      )

  all_fine : AreFine [] (puts setup)
  all_fine = antes_fine 1 count [] blinds_and_straddles (omega arith) (omega arith) (λ seat from. refl) (record { small = refl; big = refl; straddles = λ seat. refl }) blinds_fine

  each_holds : (condition : PostRule) → holds condition table posts ≡ Ok tt
  each_holds condition = ap at_first (none_breaks condition [] (puts setup) 0 all_fine refl)

  -- the posts meet their conditions
  pub posts_again : posts_checked table posts ≡ Ok tt
  unfolding posts_checked
  posts_again =
      rw (
        each_holds conditions.Early,
        has_small,
        has_big,
        each_holds conditions.OneOfEachBlind,
        each_holds conditions.BlindSeats,
        each_holds conditions.BlindAmounts,
        each_holds conditions.Straddles,
        each_holds conditions.Antes,
        each_holds conditions.EvenAntes,
      ) refl

  -- ---- what the posts give

  ante_held : (seat : ℕ) → 1 ≤ seat → seat ≤ count → held_ante table posts seat ≡ amount_of setup.antes seat
  ante_held seat low high = omega (arith, ante_is seat low high, is.stacks seat, is.antes seat)

  dead_again : (dead : Bool) → setup.dead_antes ≡ dead → are_dead table posts ≡ dead
  dead_again true e =
      rw (
        not_all_post e,
        ap (λ (n : ℕ). list_any (λ seat. nat_lt 0 (held_ante table posts seat)) (seats_of n)) is.count
            ∙ any_agree (λ seat. nat_lt 0 (held_ante table posts seat)) (posts_ante setup) 1 count (λ seat low within. ap (nat_lt 0) (ante_held seat low (omega (arith, within))))
            ∙ is.some_ante e,
      ) refl
  dead_again false e = by_greatest (nat_lt 0 (greatest_ante setup)) refl
    where
      by_greatest : (some : Bool) → nat_lt 0 (greatest_ante setup) ≡ some → are_dead table posts ≡ false
      by_greatest true g =
          let all : has_all_antes table posts ≡ true =
          ap (λ (n : ℕ). list_all (λ seat. is_some (first_ante seat posts)) (seats_of n)) is.count
          ∙ all_of (λ seat. is_some (first_ante seat posts)) 1 count (λ seat low within.
          post_found seat low (omega (arith, within))
          ∙ lt-ltb 0 (amount_of setup.antes seat) (omega (arith, is.whole e seat low (omega (arith, within)), is.some_stack seat low (omega (arith, within)), ltb-true 0 (greatest_ante setup) g))) in
          ap (λ (b : Bool). list_any (λ seat. nat_lt 0 (held_ante table posts seat)) (seats_of (seat_count table)) && not b) all ∙ and_no (list_any (λ seat. nat_lt 0 (held_ante table posts seat)) (seats_of (seat_count table)))
        where
          and_no : (b : Bool) → (b && false) ≡ false
          and_no true = refl
          and_no false = refl
      by_greatest false g =
          let none : list_any (λ seat. nat_lt 0 (held_ante table posts seat)) (seats_of (seat_count table)) ≡ false =
          ap (λ (n : ℕ). list_any (λ seat. nat_lt 0 (held_ante table posts seat)) (seats_of n)) is.count
          ∙ any_none (λ seat. nat_lt 0 (held_ante table posts seat)) 1 count (λ seat low within.
          le-ltb 0 (held_ante table posts seat) (omega (arith, ante_held seat low (omega (arith, within)), is.whole e seat low (omega (arith, within)), ltb-false 0 (greatest_ante setup) g))) in
          rw none refl

  straddle_named : (seat : ℕ) → 3 ≤ seat → seat ≤ count → option_map_or (λ straddle. straddle) (first_straddle seat posts) 0 ≡ amount_of setup.blinds seat
  straddle_named seat low high =
      ap (λ (found : Option ℕ). option_map_or (λ straddle. straddle) found 0) (straddle_found seat (omega (arith, low)) high)
      ∙ ap (λ b. option_map_or (λ straddle. straddle) (cond (b && nat_lt 0 (amount_of setup.blinds seat)) (Some (blind_posted setup seat)) None) 0) (lt-ltb 2 seat (omega (arith, low)))
      ∙ by_some (nat_lt 0 (amount_of setup.blinds seat)) refl
    where
      by_some : (some : Bool) → nat_lt 0 (amount_of setup.blinds seat) ≡ some → option_map_or (λ straddle. straddle) (cond some (Some (blind_posted setup seat)) None) 0 ≡ amount_of setup.blinds seat
      by_some true e = omega (arith, is.covered seat low high)
      by_some false e = omega (arith, ltb-false 0 (amount_of setup.blinds seat) e)

  blind_named : (seat : ℕ) → 1 ≤ seat → seat ≤ count → named_blind table posts seat ≡ amount_of setup.blinds seat
  blind_named seat low high =
      ap (λ (n : ℕ). if seat == n then table.small_blind else if seat == tables.seat_of_big_blind table then table.big_blind else straddle) small_seat
      ∙ ap (λ (n : ℕ). if seat == seat_of_small_blind setup then table.small_blind else if seat == n then table.big_blind else straddle) big_seat
      ∙ by_small (seat == seat_of_small_blind setup) refl (seat == seat_of_big_blind setup) refl
    where
      straddle : ℕ
      straddle = option_map_or (λ straddle. straddle) (first_straddle seat posts) 0

      past : (two : Bool) → (count == 2) ≡ two → (seat == (if two then 2 else 1)) ≡ false → (seat == (if two then 1 else 2)) ≡ false → 3 ≤ seat
      past true e one other = grind (arith, nat_tests, low, high)
      past false e one other = grind (arith, nat_tests, low, high)

      by_small : (small : Bool) → (seat == seat_of_small_blind setup) ≡ small → (big : Bool) → (seat == seat_of_big_blind setup) ≡ big
          → (if small then table.small_blind else if big then table.big_blind else straddle) ≡ amount_of setup.blinds seat
      by_small true e big f = is.small ∙ ap (amount_of setup.blinds) (sym (eqb-true seat (seat_of_small_blind setup) e))
      by_small false e true f = is.big ∙ ap (amount_of setup.blinds) (sym (eqb-true seat (seat_of_big_blind setup) f))
      by_small false e false f = straddle_named seat (past (count == 2) refl e f) high

  -- the antes and blinds
  pub stakes_again : antes_and_blinds_said table posts ≡ record { antes = amounts_in setup.antes; dead_antes = setup.dead_antes; blinds = amounts_in setup.blinds }
  unfolding antes_and_blinds_said
  stakes_again =
      let antes : map (held_ante table posts) (seats_of (seat_count table)) ≡ amounts_in setup.antes =
      ap (λ (n : ℕ). map (held_ante table posts) (seats_of n)) is.count
      ∙ sym (row_listed (held_ante table posts) setup.antes count is.same_antes (λ seat low high. sym (ante_held seat low high))) in
      let blinds : map (named_blind table posts) (seats_of (seat_count table)) ≡ amounts_in setup.blinds =
      ap (λ (n : ℕ). map (named_blind table posts) (seats_of n)) is.count
      ∙ sym (row_listed (named_blind table posts) setup.blinds count is.same_blinds (λ seat low high. sym (blind_named seat low high))) in
      rw (antes, dead_again setup.dead_antes refl, blinds) refl
