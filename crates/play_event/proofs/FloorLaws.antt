-- In no limit and pot limit the lowest raise that is not all-in goes above the current bet, by at
-- most a full raise.
use Rattle.std.proofs.Common.{◌≡◌, ℕ, zero, suc, ◌+◌, ◌-◌, ◌*◌, ◌<◌, ◌≤◌, ◌==◌, Bool, true, false, ◌&&◌, ◌||◌, not, inl, inr, ◌⊎◌, min, max, nat_le, nat_lt, Option, Some, None, List, [], ◌∷◌, ◌++◌, map, find, refl, sym, ◌∙◌, ap, subst, arith, cond, if◌then◌else◌}
use Rattle.std.specs.List.{list_any, range_with_len}
use Rattle.std.proofs.lemmas.Bool.{and_parts, cases_lt, eq-eqb, eqb-true, le-leb, leb-true, ltb-false, ltb-true, not-false, or_cases, or_left, or_right}
use Rattle.std.proofs.lemmas.List.Folds.{list_any-append}
use Rattle.std.proofs.lemmas.Option.{same_Some}
use Rattle.card_set.proofs.Options.{some_is_none}
use Rattle.card_set.proofs.Tests.{false_true, holds_by_both}
use Rattle.chip_ledger.specs.Greatest.{greatest}
use Rattle.play_event.specs.declared.code.Code.{Code}
use Rattle.play_event.specs.declared.code.Code.TheVariants as games
use Rattle.play_event.specs.declared.event.Spelled.{Spelled}
use Rattle.play_event.specs.declared.reason.Due.{Due}
use Rattle.play_event.specs.declared.reason.Due.TheVariants as dues
use Rattle.play_event.specs.declared.setup.Setup.{Setup}
use Rattle.play_event.specs.declared.setup.Rules.{Rules}
use Rattle.play_event.specs.declared.setup.Reopen.{Reopen}
use Rattle.play_event.specs.declared.setup.Reopen.TheVariants as reopen
use Rattle.play_event.specs.declared.limit.Limit.{Limit}
use Rattle.play_event.specs.declared.limit.Limit.TheVariants as limits
use Rattle.play_event.specs.declared.limit.Opener.{Opener}
use Rattle.play_event.specs.declared.limit.Opener.TheVariants as openers
use Rattle.play_event.specs.Streets.{limit_of, opener_of, is_stud_game, is_opened_by_up_cards}
use Rattle.play_event.specs.Said as said
use Rattle.play_event.specs.Said.{Said}
use Rattle.play_event.specs.Past.{Past, Move, moves_of, moves_on, is_raising}
use Rattle.play_event.specs.Chips.{chips_left, street_chips, chips_added, brought, all_in}
use Rattle.play_event.specs.Seats.{all_seats, is_live, able_count}
use Rattle.play_event.specs.CurrentBet.{current_bet, full_raise, rise, doubled_raises, starting_bet}
use Rattle.play_event.specs.Amounts.{raise_target}
use Rattle.play_event.specs.Targets.{floor, pot_ceiling, is_legal_target, is_target_in, greatest_target}
use Rattle.play_event.specs.Raising.{may_raise, has_able_opponent, is_within_cap, is_reopened}
use Rattle.play_event.specs.Due.{turn, is_unfinished, is_move_due, is_bring_in_due, has_to_move, has_opened_betting, is_settled}
use Rattle.play_event.specs.Dealing.{is_deal_due, is_draw_due}
use Rattle.play_event.specs.Openers.{InTurn, NoSeat, TheSeat, Undecided, in_turn, UpCards, blinds_opener, opener_by, seat_after, last_big_blind}
use Rattle.play_event.specs.PlayerToAct.{player_to_act, player_to_act_after, next_in_turn, first_in_turn, seats_from}
use Rattle.play_event.specs.MoveReasons.{actor_of, is_other_seat, is_undecided}
use Rattle.play_event.specs.Reasons.{why, is_due_kind}
use Rattle.play_event.specs.Table.{up_cards}
use Rattle.play_event.specs.Scripts.{with_event, past_of, resolved_by}
use Rattle.play_event.specs.TurnTargets.{is_bet_due}
use Rattle.play_event.specs.ValidSetup.{IsValid, IsSizeWhere, is_fixed_limit}
use Rattle.play_event.specs.Laws.{AreLegal}
use Rattle.play_event.proofs.PlayerToActLaws.{player_to_act_can_act, found_in_turn}
use Rattle.play_event.proofs.ReasonLaws.{no_reason_holds}
use Rattle.play_event.proofs.StreetLaws.{due_is_first}
use Rattle.play_event.proofs.TargetLaws.{greatest_is_legal}
use Rattle.card_set.proofs.NumbersOfRange.{any_in_range}
use Rattle.card_set.proofs.Finding.{found_among}

-- the greatest of some numbers, if each is bounded by another or by one bound
greatest_within : (f g : ℕ → ℕ) (bound : ℕ) → ((x : ℕ) → g x ≤ max (f x) bound) → (xs : List ℕ) → greatest (map g xs) ≤ max (greatest (map f xs)) bound
greatest_within f g bound each [] = omega arith
greatest_within f g bound each (x ∷ xs) = omega (arith, each x, greatest_within f g bound each xs)

greatest_grows : (f g : ℕ → ℕ) → ((x : ℕ) → f x ≤ g x) → (xs : List ℕ) → greatest (map f xs) ≤ greatest (map g xs)
greatest_grows f g each [] = omega arith
greatest_grows f g each (x ∷ xs) = omega (arith, each x, greatest_grows f g each xs)

pub greatest_reaches : (f : ℕ → ℕ) (first count x : ℕ) → first ≤ x → x < first + count → f x ≤ greatest (map f (range_with_len first count))
greatest_reaches f first zero x low high = absurd (omega (arith, low, high))
greatest_reaches f first (suc count) x low high = elim (cases_lt first x) [
  | inl later ↦ omega (arith, greatest_reaches f (first + 1) count x (omega (arith, later)) (omega (arith, high)))
  | inr now ↦
      let same : x ≡ first = omega (arith, low, now) in
      omega (arith, ap f same)
]

-- a move takes its seat up from the chips that it had; a raise takes a seat of the hand above the
-- current bet, and no other move goes above it
record IsFitting (setup : Setup) (older : List Move) (move : Move) : Type 0 where
  from_is : move.from ≡ street_chips setup older move.street move.seat
  raises : is_raising move.act ≡ true → (current_bet setup older move.street < move.to) × ((1 ≤ move.seat) × (move.seat ≤ setup.stacks.seats))
  stays : is_raising move.act ≡ false → move.to ≤ max move.from (current_bet setup older move.street)

abbrev AreFitting : Setup → List Move → Type 0
AreFitting setup [] = Unit {0}
AreFitting setup (move ∷ older) = IsFitting setup older move × AreFitting setup older

-- what a move adds to the chips of a seat on a street
module _ (setup : Setup) (older : List Move) (move : Move) (street : ℕ) where
  abbrev chips_before : ℕ → ℕ
  chips_before x = street_chips setup older street x

  abbrev chips_after : ℕ → ℕ
  chips_after x = street_chips setup (move ∷ older) street x

  chips_there : (x : ℕ) → (move.street == street) ≡ true → chips_after x ≡ brought setup street x + ((if move.seat == x then move.to - move.from else 0) + chips_added x (moves_on street older))
  chips_there x there = ap (λ c. brought setup street x + chips_added x (cond c (move ∷ moves_on street older) (moves_on street older))) there

  chips_elsewhere : (x : ℕ) → (move.street == street) ≡ false → chips_after x ≡ chips_before x
  chips_elsewhere x elsewhere = ap (λ c. brought setup street x + chips_added x (cond c (move ∷ moves_on street older) (moves_on street older))) elsewhere

  added_by : (x : ℕ) (mine : Bool) → (move.street == street) ≡ true → (move.seat == x) ≡ mine → chips_after x ≡ chips_before x + (if mine then move.to - move.from else 0)
  added_by x mine there is =
      let now = chips_there x there ∙ ap (λ b. brought setup street x + ((if b then move.to - move.from else 0) + chips_added x (moves_on street older))) is in
      omega (arith, now)

  -- the chips of the seat before the move
  from_here : (x : ℕ) → IsFitting setup older move → (move.street == street) ≡ true → (move.seat == x) ≡ true → move.from ≡ chips_before x
  from_here x fits there mine =
      fits.from_is
      ∙ ap (λ s. street_chips setup older s move.seat) (eqb-true move.street street there)
      ∙ ap (λ n. street_chips setup older street n) (eqb-true move.seat x mine)

  chips_grow_by : (x : ℕ) (there mine : Bool) → (move.street == street) ≡ there → (move.seat == x) ≡ mine → chips_before x ≤ chips_after x
  chips_grow_by x true mine is whose = omega (arith, added_by x mine is whose)
  chips_grow_by x false mine is whose = omega (arith, chips_elsewhere x is)

  chips_grow : (x : ℕ) → chips_before x ≤ chips_after x
  chips_grow x = chips_grow_by x (move.street == street) (move.seat == x) refl refl

  current_bet_grows : current_bet setup older street ≤ current_bet setup (move ∷ older) street
  current_bet_grows = greatest_grows chips_before chips_after chips_grow (all_seats setup)

  current_bet_elsewhere : (move.street == street) ≡ false → current_bet setup (move ∷ older) street ≤ current_bet setup older street
  current_bet_elsewhere elsewhere =
      let within = greatest_within chips_before chips_after 0 (λ x. omega (arith, chips_elsewhere x elsewhere)) (all_seats setup) in
      omega (arith, within)

  -- a raise takes the current bet to its target
  within_target : (x : ℕ) (mine : Bool) → IsFitting setup older move → (move.street == street) ≡ true → (move.seat == x) ≡ mine → chips_after x ≤ max (chips_before x) move.to
  within_target x true fits there is = omega (arith, added_by x true there is, from_here x fits there is)
  within_target x false fits there is = omega (arith, added_by x false there is)

  current_bet_raised : IsFitting setup older move → (move.street == street) ≡ true → current_bet setup (move ∷ older) street ≤ max (current_bet setup older street) move.to
  current_bet_raised fits there = greatest_within chips_before chips_after move.to (λ x. within_target x (move.seat == x) fits there refl) (all_seats setup)

  target_reached : IsFitting setup older move → (move.street == street) ≡ true → 1 ≤ move.seat → move.seat ≤ setup.stacks.seats → move.to ≤ current_bet setup (move ∷ older) street
  target_reached fits there least most =
      let own : (move.seat == move.seat) ≡ true = eq-eqb move.seat move.seat refl in
      let reaches = greatest_reaches chips_after 1 setup.stacks.seats move.seat least (omega (arith, most)) in
      omega (arith, added_by move.seat true there own, from_here move.seat fits there own, reaches)

  -- another move leaves the current bet as it was
  within_current_bet : (x : ℕ) (mine : Bool) → IsFitting setup older move → is_raising move.act ≡ false → (move.street == street) ≡ true → (move.seat == x) ≡ mine → chips_after x ≤ max (chips_before x) (current_bet setup older street)
  within_current_bet x true fits calm there is =
      let same : current_bet setup older move.street ≡ current_bet setup older street = ap (current_bet setup older) (eqb-true move.street street there) in
      omega (arith, added_by x true there is, from_here x fits there is, fits.stays calm, same)
  within_current_bet x false fits calm there is = omega (arith, added_by x false there is)

  current_bet_stays : IsFitting setup older move → is_raising move.act ≡ false → (move.street == street) ≡ true → current_bet setup (move ∷ older) street ≤ current_bet setup older street
  current_bet_stays fits calm there =
      let within = greatest_within chips_before chips_after (current_bet setup older street) (λ x. within_current_bet x (move.seat == x) fits calm there refl) (all_seats setup) in
      omega (arith, within)

  -- the smallest full raise grows, and no raise exceeds the current bet by more
  abbrev full_by : (full : Bool) → ℕ
  full_by full = if full then max (rise setup move older) (full_raise setup older street) else full_raise setup older street

  full_grows_by : (full : Bool) → full_raise setup older street ≤ full_by full
  full_grows_by true = omega arith
  full_grows_by false = omega arith

  full_grows : full_raise setup older street ≤ full_raise setup (move ∷ older) street
  full_grows = full_grows_by ((move.street == street) && is_raising move.act && nat_le (full_raise setup older street) (rise setup move older))

  full_at : (move.street == street) ≡ true → is_raising move.act ≡ true → (enough : Bool) → nat_le (full_raise setup older street) (rise setup move older) ≡ enough → full_raise setup (move ∷ older) street ≡ full_by enough
  full_at there raised enough is =
      ap (λ b. full_by (b && is_raising move.act && nat_le (full_raise setup older street) (rise setup move older))) there
      ∙ ap (λ b. full_by (b && nat_le (full_raise setup older street) (rise setup move older))) raised
      ∙ ap full_by is

  rise_within : (move.street == street) ≡ true → is_raising move.act ≡ true → rise setup move older ≤ full_raise setup (move ∷ older) street
  rise_within there raised = elim (cases_lt (rise setup move older) (full_raise setup older street)) [
    | inl short ↦ omega (arith, short, full_grows)
    | inr enough ↦ omega (arith, full_at there raised true (le-leb (full_raise setup older street) (rise setup move older) enough))
  ]

  -- the sums of the targets of the street's raises and their increases
  abbrev doubled_by : Bool → List ℕ
  doubled_by raised = if raised then ((2 * move.to - current_bet setup older street) ∷ doubled_raises setup older street) else doubled_raises setup older street

  doubled_raised : (move.street == street) ≡ true → is_raising move.act ≡ true → doubled_raises setup (move ∷ older) street ≡ (2 * move.to - current_bet setup older street) ∷ doubled_raises setup older street
  doubled_raised there raised = ap (λ b. doubled_by (b && is_raising move.act)) there ∙ ap doubled_by raised

  doubled_calm : is_raising move.act ≡ false → (there : Bool) → (move.street == street) ≡ there → doubled_raises setup (move ∷ older) street ≡ doubled_raises setup older street
  doubled_calm calm true there = ap (λ b. doubled_by (b && is_raising move.act)) there ∙ ap doubled_by calm
  doubled_calm calm false there = ap (λ b. doubled_by (b && is_raising move.act)) there

  doubled_elsewhere : (move.street == street) ≡ false → doubled_raises setup (move ∷ older) street ≡ doubled_raises setup older street
  doubled_elsewhere elsewhere = ap (λ b. doubled_by (b && is_raising move.act)) elsewhere

-- the current bet is not below the starting bet, and the smallest full raise is not below the
-- minimum bet
start_below : (setup : Setup) (moves : List Move) (street : ℕ) → starting_bet setup street ≤ current_bet setup moves street
start_below setup [] street = omega arith
start_below setup (move ∷ older) street = omega (arith, start_below setup older street, current_bet_grows setup older move street)

bet_below : (setup : Setup) (moves : List Move) (street : ℕ) → setup.min_bet ≤ full_raise setup moves street
bet_below setup [] street = omega arith
bet_below setup (move ∷ older) street = omega (arith, bet_below setup older street, full_grows setup older move street)

-- these sums are within the current bet plus a full raise
doubled_within : (setup : Setup) (moves : List Move) (street : ℕ) → AreFitting setup moves → greatest (doubled_raises setup moves street) ≤ current_bet setup moves street + full_raise setup moves street
doubled_within setup [] street fits = omega arith
doubled_within setup (move ∷ older) street fits = by_move (move.street == street) (is_raising move.act) refl refl (doubled_within setup older street fits.1)
  where
    grown : greatest (doubled_raises setup older street) ≤ current_bet setup older street + full_raise setup older street → greatest (doubled_raises setup older street) ≤ current_bet setup (move ∷ older) street + full_raise setup (move ∷ older) street
    grown before = omega (arith, before, current_bet_grows setup older move street, full_grows setup older move street)

    by_move : (there raised : Bool) → (move.street == street) ≡ there → is_raising move.act ≡ raised → greatest (doubled_raises setup older street) ≤ current_bet setup older street + full_raise setup older street → greatest (doubled_raises setup (move ∷ older) street) ≤ current_bet setup (move ∷ older) street + full_raise setup (move ∷ older) street
    by_move true true there raised before =
        let in_hand = (fits.0.raises raised).1 in
        let same : current_bet setup older move.street ≡ current_bet setup older street = ap (current_bet setup older) (eqb-true move.street street there) in
        let reached = target_reached setup older move street fits.0 there in_hand.0 in_hand.1 in
        omega (arith, ap greatest (doubled_raised setup older move street there raised), reached, rise_within setup older move street there raised, same, grown before)
    by_move true false there raised before = omega (arith, ap greatest (doubled_calm setup older move street raised true there), grown before)
    by_move false raised there is before = omega (arith, ap greatest (doubled_elsewhere setup older move street there), grown before)

floor_within : (reopens : Reopen) (setup : Setup) (moves : List Move) (street : ℕ) → AreFitting setup moves → floor reopens setup moves street ≤ current_bet setup moves street + full_raise setup moves street
floor_within reopen.Full setup moves street fits = omega arith
floor_within reopen.Always setup moves street fits = omega (arith, doubled_within setup moves street fits, start_below setup moves street, bet_below setup moves street)

-- and the current bet is below the lowest raise
above_start : (setup : Setup) (moves : List Move) (street : ℕ) → 1 ≤ setup.min_bet → AreFitting setup moves → current_bet setup moves street < max (starting_bet setup street + setup.min_bet) (greatest (doubled_raises setup moves street))
above_start setup [] street some fits = omega (arith, some)
above_start setup (move ∷ older) street some fits = by_move (move.street == street) (is_raising move.act) refl refl (above_start setup older street some fits.1)
  where
    by_move : (there raised : Bool) → (move.street == street) ≡ there → is_raising move.act ≡ raised → current_bet setup older street < max (starting_bet setup street + setup.min_bet) (greatest (doubled_raises setup older street)) → current_bet setup (move ∷ older) street < max (starting_bet setup street + setup.min_bet) (greatest (doubled_raises setup (move ∷ older) street))
    by_move true true there raised before =
        let above = (fits.0.raises raised).0 in
        let same : current_bet setup older move.street ≡ current_bet setup older street = ap (current_bet setup older) (eqb-true move.street street there) in
        omega (arith, ap greatest (doubled_raised setup older move street there raised), current_bet_raised setup older move street fits.0 there, above, same, before)
    by_move true false there raised before = omega (arith, ap greatest (doubled_calm setup older move street raised true there), current_bet_stays setup older move street fits.0 raised there, before)
    by_move false raised there is before = omega (arith, ap greatest (doubled_elsewhere setup older move street there), current_bet_elsewhere setup older move street there, before)

floor_above : (reopens : Reopen) (setup : Setup) (moves : List Move) (street : ℕ) → 1 ≤ setup.min_bet → AreFitting setup moves → current_bet setup moves street < floor reopens setup moves street
floor_above reopen.Full setup moves street some fits = omega (arith, some, bet_below setup moves street)
floor_above reopen.Always setup moves street some fits = above_start setup moves street some fits

AllFromOne : List ℕ → Type 0
AllFromOne [] = Unit {0}
AllFromOne (x ∷ xs) = (1 ≤ x) × AllFromOne xs

range_from_one : (first count : ℕ) → 1 ≤ first → AllFromOne (range_with_len first count)
unfolding AllFromOne
range_from_one first zero low = tt
range_from_one first (suc count) low = (low, range_from_one (first + 1) count (omega (arith, low)))

both_from_one : (xs ys : List ℕ) → AllFromOne xs → AllFromOne ys → AllFromOne (xs ++ ys)
unfolding AllFromOne
both_from_one [] ys first second = second
both_from_one (x ∷ xs) ys first second = (first.0, both_from_one xs ys first.1 second)

found_from_one : (p : ℕ → Bool) (xs : List ℕ) (seat : ℕ) → AllFromOne xs → find p xs ≡ Some seat → 1 ≤ seat
unfolding AllFromOne
found_from_one p [] seat low is = absurd (some_is_none (sym is))
found_from_one p (x ∷ xs) seat low is = by_first (p x) is (found_from_one p xs seat low.1)
  where
    by_first : (b : Bool) → (cond b (Some x) (find p xs)) ≡ Some seat → (find p xs ≡ Some seat → 1 ≤ seat) → 1 ≤ seat
    by_first true is later = let same : x ≡ seat = same_Some x seat is in omega (arith, same, low.0)
    by_first false is later = later is

record Passes (p : ℕ → Bool) (first count : ℕ) : Type 0 where
  seat : ℕ
  low : first ≤ seat
  high : seat < first + count
  passes : p seat ≡ true

some_passes : (p : ℕ → Bool) (first count : ℕ) → list_any p (range_with_len first count) ≡ true → Passes p first count
some_passes p first zero any = false_true any
some_passes p first (suc count) any = elim (or_cases (p first) (list_any p (range_with_len (first + 1) count)) any) [
  | inl now ↦ record { seat = first; low = omega arith; high = omega arith; passes = now }
  | inr later ↦ let found = some_passes p (first + 1) count later in record { seat = found.seat; low = omega (arith, found.low); high = omega (arith, found.high); passes = found.passes }
]

-- going round from any seat, some seat passes if some seat of the hand does
round_passes : (p : ℕ → Bool) (setup : Setup) (start : ℕ) → list_any p (all_seats setup) ≡ true → list_any p (seats_from setup start) ≡ true
round_passes p setup start any =
    let found = some_passes p 1 setup.stacks.seats any in
    let first = range_with_len start (setup.stacks.seats + 1 - start) in
    let second = range_with_len 1 (start - 1) in
    list_any-append p first second ∙ elim (cases_lt found.seat start) [
      | inl before ↦ or_right (list_any p first) (list_any p second) (any_in_range p 1 (start - 1) found.seat found.low (omega (arith, before, found.low)) found.passes)
      | inr from ↦ or_left (list_any p first) (list_any p second) (any_in_range p start (setup.stacks.seats + 1 - start) found.seat from (omega (arith, from, found.high)) found.passes)
    ]

-- in a game with blinds, if a move is due, the player to act is a seat of the hand
blinds_by : (opener : Opener) → is_opened_by_up_cards opener ≡ false → opener ≡ openers.Blinds
blinds_by openers.Blinds is = refl
blinds_by openers.LowUp is = false_true (sym is)
blinds_by openers.HighUp is = false_true (sym is)

pub opener_from_one : (setup : Setup) (street : ℕ) → 1 ≤ blinds_opener setup street
opener_from_one setup street = by_street (street == 1) (setup.stacks.seats == 2)
  where
    after_from_one : (last : Bool) (seat : ℕ) → 1 ≤ (if last then 1 else seat + 1)
    after_from_one true seat = omega arith
    after_from_one false seat = omega arith

    by_street : (first two : Bool) → 1 ≤ (if first then (if two then 2 else seat_after setup (last_big_blind setup)) else 1)
    by_street true true = omega arith
    by_street true false = after_from_one (last_big_blind setup == setup.stacks.seats) (last_big_blind setup)
    by_street false two = omega arith

module _ (setup : Setup) (moves : List Move) (street : ℕ) (blinds : is_stud_game setup.code ≡ false) where
  start : List Move → ℕ
  start [] = blinds_opener setup street
  start (move ∷ before) = seat_after setup move.seat

  start_is : (on : List Move) → next_in_turn setup (TheSeat (blinds_opener setup street)) on ≡ TheSeat (start on)
  unfolding start
  start_is [] = refl
  start_is (move ∷ before) = refl

  start_from_one : (on : List Move) → 1 ≤ start on
  unfolding start
  start_from_one [] = opener_from_one setup street
  start_from_one (move ∷ before) = by_last (move.seat == setup.stacks.seats)
    where
      by_last : (last : Bool) → 1 ≤ (if last then 1 else move.seat + 1)
      by_last true = omega arith
      by_last false = omega arith

  player_to_act_is : (ups : UpCards) → player_to_act setup ups moves street ≡ in_turn (find (has_to_move setup moves street) (seats_from setup (start (moves_on street moves))))
  player_to_act_is ups =
      ap (λ o. player_to_act_after setup (opener_by o setup ups moves street) moves street) (blinds_by (opener_of setup.code) blinds)
      ∙ ap (first_in_turn setup (has_to_move setup moves street)) (start_is (moves_on street moves))

  no_seat_found : (found : Option ℕ) → in_turn found ≡ NoSeat → found ≡ None
  no_seat_found None is = refl
  no_seat_found (Some seat) is = absurd cc

  somebody : (ups : UpCards) → is_move_due setup moves street ≡ true → player_to_act setup ups moves street ≡ NoSeat → ⊥
  somebody ups due none =
      let seats = seats_from setup (start (moves_on street moves)) in
      found_among (has_to_move setup moves street) seats (round_passes (has_to_move setup moves street) setup (start (moves_on street moves)) due)
      (no_seat_found (find (has_to_move setup moves street) seats) (sym (player_to_act_is ups) ∙ none))

  the_seat_found : (found : Option ℕ) (seat : ℕ) → in_turn found ≡ TheSeat seat → found ≡ Some seat
  the_seat_found None seat is = absurd cc
  the_seat_found (Some other) seat is = found_in_turn (Some other) seat is

  player_to_act_from_one : (ups : UpCards) (seat : ℕ) → player_to_act setup ups moves street ≡ TheSeat seat → 1 ≤ seat
  player_to_act_from_one ups seat is =
      let from = start (moves_on street moves) in
      let first = range_with_len from (setup.stacks.seats + 1 - from) in
      let second = range_with_len 1 (from - 1) in
      found_from_one (has_to_move setup moves street) (seats_from setup from) seat
      (both_from_one first second (range_from_one from (setup.stacks.seats + 1 - from) (start_from_one (moves_on street moves))) (range_from_one 1 (from - 1) (omega arith)))
      (found_in_turn (find (has_to_move setup moves street) (seats_from setup from)) seat (sym (player_to_act_is ups) ∙ is))

  player_to_act_in_hand : (ups : UpCards) (seat : ℕ) → player_to_act setup ups moves street ≡ TheSeat seat → seat ≤ setup.stacks.seats
  player_to_act_in_hand ups seat is =
      let able = and_parts (is_live moves seat) (nat_lt 0 (chips_left setup moves seat)) (player_to_act_can_act setup ups moves street seat is) in
      let some : 0 < chips_left setup moves seat = ltb-true 0 (chips_left setup moves seat) able.1 in
      elim (cases_lt setup.stacks.seats seat) [
        | inl past ↦ absurd (let none = setup.stacks.filler (seat - 1) (omega (arith, past)) in omega (arith, some, none))
        | inr within ↦ within
      ]

-- on a street of a game with blinds a bet is due only if a move is
due_by : (deal draw bring move : Bool) (street : ℕ) → Option Due
due_by deal draw bring move street =
    if deal then Some (dues.Deal street) else if draw then Some (dues.Draw street) else if bring then Some dues.BringIn else if move then Some dues.Move else None

bet_by : (deal draw bring move : Bool) (street : ℕ) (due : Due) → due_by deal draw bring move street ≡ Some due → is_bet_due due ≡ true → (bring ≡ true) ⊎ (move ≡ true)
unfolding due_by
bet_by true draw bring move street due is bet = false_true (ap is_bet_due (same_Some (dues.Deal street) due is) ∙ bet)
bet_by false true bring move street due is bet = false_true (ap is_bet_due (same_Some (dues.Draw street) due is) ∙ bet)
bet_by false false true move street due is bet = inl refl
bet_by false false false true street due is bet = inr refl
bet_by false false false false street due is bet = absurd (some_is_none (sym is))

pub bet_unfinished : (due : Due) → is_bet_due due ≡ true → is_unfinished due ≡ true
bet_unfinished dues.BringIn is = refl
bet_unfinished dues.Move is = refl
bet_unfinished (dues.Deal street) is = false_true is
bet_unfinished (dues.Draw street) is = false_true is
bet_unfinished dues.Show is = false_true is
bet_unfinished dues.Over is = false_true is

no_bring_in : (stud first two : Bool) (rest : Bool) → stud ≡ false → (stud && first && two && rest) ≡ true → ⊥
no_bring_in true first two rest blinds is = false_true (sym blinds)
no_bring_in false first two rest blinds is = false_true is

move_is_due : (setup : Setup) (before : Past) → is_stud_game setup.code ≡ false → is_bet_due (turn setup before).1 ≡ true → is_move_due setup (moves_of before) (turn setup before).0 ≡ true
unfolding due_by
move_is_due setup before blinds bet =
    let street = (turn setup before).0 in
    let moves = moves_of before in
    let first = due_is_first setup before street (turn setup before).1 refl (bet_unfinished (turn setup before).1 bet) in
    elim (bet_by (is_deal_due setup before street) (is_draw_due setup before street) (is_bring_in_due setup moves street) (is_move_due setup moves street) street (turn setup before).1 first.is_due bet) [
      | inl bring ↦ absurd (no_bring_in (is_stud_game setup.code) (street == 1) (nat_le 2 (able_count setup moves)) (not (list_any (λ move. has_opened_betting move.act) (moves_on street moves))) blinds bring)
      | inr move ↦ move
    ]

pub raise_bet : (code : Code) (named : Option ℕ) (amount : Spelled) (due : Due) → is_due_kind code due (said.Raise named amount) ≡ true → is_bet_due due ≡ true
raise_bet code named amount dues.BringIn is = refl
raise_bet code named amount dues.Move is = refl
raise_bet code named amount (dues.Deal street) is = is
raise_bet code named amount (dues.Draw street) is = is
raise_bet code named amount dues.Show is = is
raise_bet code named amount dues.Over is = is

pub may_come_by : (kind other : Bool) → not (kind || (false && other)) ≡ false → kind ≡ true
may_come_by true other is = refl
may_come_by false other is = sym is

-- a legal raise is by a seat of the hand
player_to_act_of : (setup : Setup) (moves : List Move) (named : Option ℕ) (turn : InTurn) → is_other_seat setup moves named turn ≡ false → is_undecided turn ≡ false → (turn ≡ TheSeat (actor_of named turn)) ⊎ (turn ≡ NoSeat)
player_to_act_of setup moves named Undecided own known = false_true (sym known)
player_to_act_of setup moves (Some seat) NoSeat own known = false_true (sym own)
player_to_act_of setup moves None NoSeat own known = inr refl
player_to_act_of setup moves None (TheSeat other) own known = inl refl
player_to_act_of setup moves (Some seat) (TheSeat other) own known = inl (ap TheSeat (sym (eqb-true seat other (not-false (seat == other) own))))

target_above : (limit : Limit) (reopens : Reopen) (setup : Setup) (moves : List Move) (street seat target : ℕ) → is_fixed_limit limit ≡ false → current_bet setup moves street < floor reopens setup moves street → 1 ≤ setup.min_bet → current_bet setup moves street < all_in setup moves street seat → is_target_in limit reopens setup moves street seat target ≡ true → current_bet setup moves street < target
target_above limits.Fixed reopens setup moves street seat target bounded low some chips legal = false_true (sym bounded)
target_above limits.No reopens setup moves street seat target bounded low some chips legal = elim (or_cases (nat_le (floor reopens setup moves street) target && nat_le target (all_in setup moves street seat)) (target == all_in setup moves street seat) legal) [
  | inl between ↦ omega (arith, low, leb-true (floor reopens setup moves street) target (and_parts (nat_le (floor reopens setup moves street) target) (nat_le target (all_in setup moves street seat)) between).0)
  | inr all ↦ omega (arith, chips, eqb-true target (all_in setup moves street seat) all)
]
target_above limits.Pot reopens setup moves street seat target bounded low some chips legal = elim (or_cases (nat_le (current_bet setup moves street + full_raise setup moves street) target && nat_le target (min (all_in setup moves street seat) (pot_ceiling setup moves street seat))) ((target == all_in setup moves street seat) && nat_le target (pot_ceiling setup moves street seat)) legal) [
  | inl between ↦ omega (arith, some, bet_below setup moves street, leb-true (current_bet setup moves street + full_raise setup moves street) target (and_parts (nat_le (current_bet setup moves street + full_raise setup moves street) target) (nat_le target (min (all_in setup moves street seat) (pot_ceiling setup moves street seat))) between).0)
  | inr all ↦ omega (arith, chips, eqb-true target (all_in setup moves street seat) (and_parts (target == all_in setup moves street seat) (nat_le target (pot_ceiling setup moves street seat)) all).0)
]

pub fits_target : (reopens : Reopen) (setup : Setup) (moves : List Move) (street seat target : ℕ) → nat_lt target (greatest_target setup moves street seat) ≡ false → nat_lt (greatest_target setup moves street seat) target ≡ false → is_legal_target reopens setup moves street seat target ≡ true
fits_target reopens setup moves street seat target small big =
    let low = ltb-false target (greatest_target setup moves street seat) small in
    let high = ltb-false (greatest_target setup moves street seat) target big in
    let same : target ≡ greatest_target setup moves street seat = omega (arith, low, high) in
    ap (λ (t : ℕ). is_legal_target reopens setup moves street seat t) same ∙ greatest_is_legal reopens setup moves street seat

module _ (setup : Setup) (rules : Rules) (blinds : is_stud_game setup.code ≡ false) (bounded : is_fixed_limit (limit_of setup.code) ≡ false) (some : 1 ≤ setup.min_bet) (none_brought : setup.bring_in ≡ 0) where
  -- what follows from a legal raise
  raise_fits : (before : Past) (named : Option ℕ) (amount : Spelled) → AreFitting setup (moves_of before) → why setup rules before (said.Raise named amount) ≡ None
      → let street = (turn setup before).0 in let seat = actor_of named (player_to_act setup (up_cards setup.code before) (moves_of before) street) in (current_bet setup (moves_of before) street < raise_target setup (moves_of before) street seat amount) × ((1 ≤ seat) × (seat ≤ setup.stacks.seats))
  raise_fits before named amount fits legal =
      let moves = moves_of before in
      let street = (turn setup before).0 in
      let due = (turn setup before).1 in
      let ups = up_cards setup.code before in
      let in_turn_now = player_to_act setup ups moves street in
      let seat = actor_of named in_turn_now in
      let target = raise_target setup moves street seat amount in
      let reasons = no_reason_holds setup rules before (said.Raise named amount) legal in
      let bet = raise_bet setup.code named amount due (may_come_by (is_due_kind setup.code due (said.Raise named amount)) (is_settled setup moves (turn setup before)) reasons.1.0) in
      let due_move = move_is_due setup before blinds bet in
      let may = not-false (may_raise setup rules moves street seat) reasons.1.1.1.1.1.1.1.1.0 in
      let chips = ltb-true (current_bet setup moves street) (all_in setup moves street seat) (and_parts (has_able_opponent setup moves seat) (nat_lt (current_bet setup moves street) (all_in setup moves street seat)) (and_parts (has_able_opponent setup moves seat && nat_lt (current_bet setup moves street) (all_in setup moves street seat)) (is_within_cap rules.caps moves street) (and_parts (has_able_opponent setup moves seat && nat_lt (current_bet setup moves street) (all_in setup moves street seat) && is_within_cap rules.caps moves street) (is_reopened rules.reopen setup moves street seat) may).0).0).1 in
      let target_legal = holds_by_both (is_legal_target rules.reopen setup moves street seat target) (nat_lt target (greatest_target setup moves street seat)) (nat_lt (greatest_target setup moves street seat) target) reasons.1.1.1.1.1.1.1.1.1.0 (fits_target rules.reopen setup moves street seat target) reasons.1.1.1.1.1.1.1.1.1.1.0 in (
        target_above (limit_of setup.code) rules.reopen setup moves street seat target bounded (floor_above rules.reopen setup moves street some fits) some chips target_legal,
        elim (player_to_act_of setup moves named in_turn_now reasons.1.1.0 reasons.1.1.1.1.1.1.0) [
          | inl is ↦ (player_to_act_from_one setup moves street blinds ups seat is, player_to_act_in_hand setup moves street blinds ups seat is)
          | inr nobody ↦ absurd (somebody setup moves street blinds ups due_move nobody)
        ],
      )

  fits_event : (before : Past) (event : Said) → AreFitting setup (moves_of before) → why setup rules before event ≡ None → AreFitting setup (moves_of (resolved_by setup (moves_of before) (turn setup before).0 (player_to_act setup (up_cards setup.code before) (moves_of before) (turn setup before).0) event ∷ before))
  fits_event before (said.Hole seat cards) fits legal = fits
  fits_event before (said.Board cards) fits legal = fits
  fits_event before (said.Discard seat cards) fits legal = fits
  fits_event before (said.Show seat cards) fits legal = fits
  fits_event before (said.Muck seat) fits legal = fits
  fits_event before (said.Fold named) fits legal = (record { from_is = refl; raises = λ is. false_true is; stays = λ is. omega arith }, fits)
  fits_event before (said.Call named stated) fits legal = (record { from_is = refl; raises = λ is. false_true is; stays = λ is. omega arith }, fits)
  fits_event before (said.BringIn named) fits legal = (record { from_is = refl; raises = λ is. false_true is; stays = λ is. omega (arith, none_brought) }, fits)
  fits_event before (said.Raise named amount) fits legal = (record { from_is = refl; raises = λ is. raise_fits before named amount fits legal; stays = λ is. false_true (sym is) }, fits)

  fits_next : (before : Past) (event : Said) → AreFitting setup (moves_of before) → why setup rules before event ≡ None → AreFitting setup (moves_of (with_event setup event before))
  unfolding with_event
  fits_next before event fits legal = fits_event before event fits legal

  fits_all : (events : List Said) → AreLegal setup rules events → AreFitting setup (moves_of (past_of setup events))
  fits_all [] legal = tt
  fits_all (event ∷ before) legal = fits_next (past_of setup before) event (fits_all before legal.1) legal.0

-- no stud game is played in no limit or pot limit
blinds_unfixed : (code : Code) → is_fixed_limit (limit_of code) ≡ false → is_stud_game code ≡ false
blinds_unfixed games.FT is = refl
blinds_unfixed games.NT is = refl
blinds_unfixed games.NS is = refl
blinds_unfixed games.PO is = refl
blinds_unfixed games.FO8 is = refl
blinds_unfixed games.F7S is = false_true (sym is)
blinds_unfixed games.F7S8 is = false_true (sym is)
blinds_unfixed games.FR is = false_true (sym is)
blinds_unfixed games.N2L1D is = refl
blinds_unfixed games.F2L3D is = refl
blinds_unfixed games.FB is = refl

some_bet : (setup : Setup) → IsValid setup → is_fixed_limit (limit_of setup.code) ≡ false → 1 ≤ setup.min_bet
some_bet setup valid bounded = (subst (λ b. IsSizeWhere (not b) setup.min_bet) bounded valid.least_bet).0

no_bring : (setup : Setup) → IsValid setup → is_stud_game setup.code ≡ false → setup.bring_in ≡ 0
no_bring setup valid blinds = subst (λ b. IsSizeWhere b setup.bring_in) blinds valid.bring_in

all_fit : (setup : Setup) (rules : Rules) (events : List Said) → IsValid setup → is_fixed_limit (limit_of setup.code) ≡ false → AreLegal setup rules events → AreFitting setup (moves_of (past_of setup events))
all_fit setup rules events valid bounded legal =
    let blinds = blinds_unfixed setup.code bounded in
    fits_all setup rules blinds bounded (some_bet setup valid bounded) (no_bring setup valid blinds) events legal

pub above_current_bet : (setup : Setup) (rules : Rules) (events : List Said) → IsValid setup → is_fixed_limit (limit_of setup.code) ≡ false → AreLegal setup rules events → (reopens : Reopen) (street : ℕ) → current_bet setup (moves_of (past_of setup events)) street < floor reopens setup (moves_of (past_of setup events)) street
above_current_bet setup rules events valid bounded legal reopens street =
    floor_above reopens setup (moves_of (past_of setup events)) street (some_bet setup valid bounded) (all_fit setup rules events valid bounded legal)

pub within_full_raise : (setup : Setup) (rules : Rules) (events : List Said) → IsValid setup → is_fixed_limit (limit_of setup.code) ≡ false → AreLegal setup rules events → (reopens : Reopen) (street : ℕ) → floor reopens setup (moves_of (past_of setup events)) street ≤ current_bet setup (moves_of (past_of setup events)) street + full_raise setup (moves_of (past_of setup events)) street
within_full_raise setup rules events valid bounded legal reopens street =
    floor_within reopens setup (moves_of (past_of setup events)) street (all_fit setup rules events valid bounded legal)
