-- The players of a hand that was written sit in the order of their seats in the hand, whatever
-- their numbers at the table are.
use Rattle.std.proofs.Common.{◌≡◌, ◌≢◌, ℕ, zero, suc, ◌+◌, ◌-◌, ◌<◌, ◌≤◌, ◌==◌, Bool, true, false, ◌||◌, nat_lt, cond, if◌then◌else◌, decimal, List, [], ◌∷◌, ◌++◌, length, map, fold, get_or, Option, Some, None, IfSome, unwrap_or, pos, Ok, inl, inr, refl, sym, ap, subst, ◌∙◌, arith, true≢false}
use Rattle.std.specs.List.{range_with_len}
use Rattle.std.proofs.lemmas.Bool.{cases_lt, eq-eqb, eqb-true, le-leb, le-ltb, lt-ltb, ltb-true, ne_eqb}
use Rattle.std.proofs.lemmas.Bool.Decides.{nat_tests}
use Rattle.std.proofs.lemmas.Fmt.{length-decimal-le}
use Rattle.std.proofs.lemmas.List.{length-map, map-append}
use Rattle.std.proofs.lemmas.List.FromFn.{length-range_with_len}
use Rattle.serde_json.specs.Data.{Data}
use Rattle.serde_json.specs.View.{items_of}
use Rattle.card_set.proofs.Ranges.{range_more}
use Rattle.chip_ledger.specs.declared.numbers.TheConstants.{MOST_CHIPS}
use Rattle.chip_ledger.specs.declared.seat_row.SeatRow.{SeatRow}
use Rattle.chip_ledger.specs.Seat.{seats_of}
use Rattle.chip_ledger.specs.SeatRow.{amount_of}
use Rattle.first_fault.specs.declared.limits.TheConstants.{MOST_TEXT_BYTES}
use Rattle.hand_canon.specs.AllowedNotes.{IsName, name_written}
use Rattle.hand_canon.specs.declared.notes.Notes.{Notes}
use Rattle.ohh_members.specs.declared.fault.Path.TheVariants as paths
use Rattle.ohh_members.specs.Players.{PlainPlayer, above, button_said, has_id, has_seat, id_said, lower, lowest, next_player, player_added, player_at, player_said, players_said, round_from, seat_said, seated, seated_said, short_text_said, stack_said}
use Rattle.first_fault.specs.Reading.{added_from}
use Rattle.ohh_members.specs.Values.{integer_said, list_said, listed, member_at, number_said, object_said, required_value, text_said}
use Rattle.ohh_writing.specs.Seating.{number_among}
use Rattle.ohh_writing.specs.Tree.{player_tree, players, whole}
use Rattle.ohh_format.proofs.CardLists.{listed_again}
use Rattle.ohh_format.proofs.SameNumbers.{other_number}
use Rattle.ohh_format.proofs.Circle.{IsCircle, after_top, next_higher, one_seat, top_is}
use Rattle.card_set.proofs.Integers.{same_whole}
use Rattle.chip_ledger.specs.SeatsSaid.{default_name}

module _ (count : ℕ) (stacks : SeatRow) (notes : Notes) (numbers : Option (List ℕ)) where
  abbrev number : ℕ → ℕ
  number seat = number_among numbers seat

  -- the player of a seat, as it is read
  abbrev pub player_of : ℕ → PlainPlayer
  player_of seat = record { id = pos seat; seat = number_among numbers seat; name = Some (name_written notes seat); stack = amount_of stacks seat }

  abbrev pub players_from : ℕ → ℕ → List PlainPlayer
  players_from first many = map player_of (range_with_len first many)

  module _ (is : IsCircle count (number_among numbers)) where
    -- ---- the lowest of the players above a number

    -- a player that was found has a higher number at the table than this
    abbrev IsAbove : ℕ → Option PlainPlayer → Type 0
    IsAbove least None = Unit {0}
    IsAbove least (Some player) = least < player.seat

    stays : (above_all target first many : ℕ) → 1 ≤ first → first + many ≤ count + 1 → ((other : ℕ) → 1 ≤ other → other ≤ count → above_all < number other → number target ≤ number other)
        → fold lower (Some (player_of target)) (above above_all (players_from first many)) ≡ Some (player_of target)
    stays above_all target first zero low high least = refl
    stays above_all target first (suc many) low high least =
        by_first (nat_lt above_all (number first)) refl (stays above_all target (first + 1) many (omega (arith, low)) (omega (arith, high)) least)
      where
        by_first : (in_it : Bool) → nat_lt above_all (number first) ≡ in_it
            → fold lower (Some (player_of target)) (above above_all (players_from (first + 1) many)) ≡ Some (player_of target)
            → fold lower (Some (player_of target)) (cond in_it (player_of first ∷ above above_all (players_from (first + 1) many)) (above above_all (players_from (first + 1) many))) ≡ Some (player_of target)
        by_first false e later = later
        by_first true e later =
            let no_lower : nat_lt (number first) (number target) ≡ false = le-ltb (number first) (number target) (least first low (omega (arith, high)) (ltb-true above_all (number first) e)) in
            ap (λ (found : Option PlainPlayer). fold lower found (above above_all (players_from (first + 1) many))) (ap (λ (b : Bool). cond b (Some (player_of first)) (Some (player_of target))) no_lower) ∙ later

    found : (above_all target first many : ℕ) (so_far : Option PlainPlayer) → 1 ≤ first → first + many ≤ count + 1 → first ≤ target → target < first + many → above_all < number target
        → ((other : ℕ) → 1 ≤ other → other ≤ count → above_all < number other → number target ≤ number other) → IsAbove (number target) so_far
        → fold lower so_far (above above_all (players_from first many)) ≡ Some (player_of target)
    found above_all target first zero so_far low high from within some least over = absurd (omega (arith, from, within))
    found above_all target first (suc many) so_far low high from within some least over =
        by_first (first == target) refl (nat_lt above_all (number first)) refl
        (stays above_all target (first + 1) many (omega (arith, low)) (omega (arith, high)) least)
        (λ next later higher. found above_all target (first + 1) many next (omega (arith, low)) (omega (arith, high)) later (omega (arith, within)) some least higher)
      where
        take_one : (so_far : Option PlainPlayer) → IsAbove (number target) so_far → lower so_far (player_of target) ≡ Some (player_of target)
        take_one None over = refl
        take_one (Some other) over = rw (lt-ltb (number target) other.seat over) refl

        one_more : (so_far : Option PlainPlayer) → IsAbove (number target) so_far → number target < number first → IsAbove (number target) (lower so_far (player_of first))
        one_more None over higher = higher
        one_more (Some other) over higher = by_lower (nat_lt (number first) other.seat)
          where
            by_lower : (b : Bool) → IsAbove (number target) (cond b (Some (player_of first)) (Some other))
            by_lower true = higher
            by_lower false = over

        by_first : (same : Bool) → (first == target) ≡ same → (in_it : Bool) → nat_lt above_all (number first) ≡ in_it
            → fold lower (Some (player_of target)) (above above_all (players_from (first + 1) many)) ≡ Some (player_of target)
            → ((next : Option PlainPlayer) → first + 1 ≤ target → IsAbove (number target) next → fold lower next (above above_all (players_from (first + 1) many)) ≡ Some (player_of target))
            → fold lower so_far (cond in_it (player_of first ∷ above above_all (players_from (first + 1) many)) (above above_all (players_from (first + 1) many))) ≡ Some (player_of target)
        by_first true e true f rest later =
            let at : first ≡ target = eqb-true first target e in
            ap (λ (n : ℕ). fold lower (lower so_far (player_of n)) (above above_all (players_from (first + 1) many))) at
            ∙ ap (λ (next : Option PlainPlayer). fold lower next (above above_all (players_from (first + 1) many))) (take_one so_far over)
            ∙ rest
        by_first true e false f rest later =
            let at : first ≡ target = eqb-true first target e in
            absurd (true≢false (sym (lt-ltb above_all (number target) some) ∙ ap (λ (n : ℕ). nat_lt above_all (number n)) (sym at) ∙ f))
        by_first false e true f rest later =
            let apart : first ≢ target = λ at. absurd (true≢false (sym (eq-eqb first target at) ∙ e)) in
            let no_less = least first low (omega (arith, high)) (ltb-true above_all (number first) f) in
            let higher : number target < number first = elim (cases_lt (number target) (number first)) [
              | inl less ↦ less
              | inr more ↦ absurd (apart (one_seat count number is first target low (omega (arith, high)) (omega (arith, low, from)) (omega (arith, within, high)) (omega (arith, more, no_less))))
            ] in
            later (lower so_far (player_of first)) (grind (arith, nat_tests, from)) (one_more so_far over higher)
        by_first false e false f rest later = later so_far (grind (arith, nat_tests, from)) over

    nobody : (above_all first many : ℕ) → 1 ≤ first → first + many ≤ count + 1 → ((other : ℕ) → 1 ≤ other → other ≤ count → number other ≤ above_all)
        → above above_all (players_from first many) ≡ []
    nobody above_all first zero low high none = refl
    nobody above_all first (suc many) low high none =
        ap (λ (b : Bool). cond b (player_of first ∷ above above_all (players_from (first + 1) many)) (above above_all (players_from (first + 1) many))) (le-ltb above_all (number first) (none first low (omega (arith, high))))
        ∙ nobody above_all (first + 1) many (omega (arith, low)) (omega (arith, high)) none

    abbrev all_players : List PlainPlayer
    all_players = players_from 1 count

    lowest_is : (above_all target : ℕ) → 1 ≤ target → target ≤ count → above_all < number target → ((other : ℕ) → 1 ≤ other → other ≤ count → above_all < number other → number target ≤ number other)
        → lowest (above above_all all_players) ≡ Some (player_of target)
    lowest_is above_all target low high some least = found above_all target 1 count None (omega arith) (omega arith) low (omega (arith, high)) some least tt

    after_in : (seat : ℕ) → 1 ≤ seat → seat ≤ count → (last : Bool) → (seat == count) ≡ last → (1 ≤ (if last then 1 else seat + 1)) × ((if last then 1 else seat + 1) ≤ count)
    after_in seat low high true e = (omega arith, omega (arith, low, high))
    after_in seat low high false e = (omega arith, grind (arith, nat_tests, high))

    -- the player after another sits in the seat after that one's
    next_is : (seat : ℕ) → 1 ≤ seat → seat ≤ count → (last : Bool) → (seat == count) ≡ last → (top : Bool) → (seat == is.top) ≡ top → next_player all_players (player_of seat) ≡ player_of (if last then 1 else seat + 1)
    next_is seat low high last e false f =
        let next : ℕ = if last then 1 else seat + 1 in
        let higher = next_higher count number is seat low high (λ same. absurd (true≢false (sym (eq-eqb seat is.top same) ∙ f))) last e in
        let within = after_in seat low high last e in
        ap (λ (found : Option PlainPlayer). unwrap_or found (unwrap_or (lowest (above 0 all_players)) (player_of seat))) (lowest_is (number seat) next within.0 within.1 higher.0 higher.1)
    next_is seat low high last e true f =
        let at : seat ≡ is.top = eqb-true seat is.top f in
        let next : ℕ = if last then 1 else seat + 1 in
        let within = after_in seat low high last e in
        let none : above (number seat) all_players ≡ [] = nobody (number seat) 1 count (omega arith) (omega arith) (λ other from to. let top = top_is count number is other from to in omega (arith, top, ap number at)) in
        let least : (other : ℕ) → 1 ≤ other → other ≤ count → number next ≤ number other =
        λ other from to. subst (λ (s : ℕ). number (if last then 1 else s + 1) ≤ number other) (sym at) (after_top count number is last (ap (λ (s : ℕ). s == count) (sym at) ∙ e) other from to) in
        ap (λ (list : List PlainPlayer). unwrap_or (lowest list) (unwrap_or (lowest (above 0 all_players)) (player_of seat))) none
        ∙ ap (λ (found : Option PlainPlayer). unwrap_or found (player_of seat))
        (lowest_is 0 next within.0 within.1 (let one = is.each next within.0 within.1 in omega (arith, one.0)) (λ other from to some. least other from to))

    -- this many players, going round
    go_on : (seat many : ℕ) → 1 ≤ seat → seat + many ≤ count → round_from all_players (player_of seat) many ≡ players_from (seat + 1) many
    go_on seat zero low high = refl
    go_on seat (suc many) low high =
        let next : next_player all_players (player_of seat) ≡ player_of (seat + 1) =
        next_is seat low (omega (arith, high)) false (ne_eqb seat count (λ same. omega (arith, same, high))) (seat == is.top) refl in
        ap (λ (player : PlainPlayer). player ∷ round_from all_players player many) next
        ∙ ap (λ (l : List PlainPlayer). player_of (seat + 1) ∷ l) (go_on (seat + 1) many (omega arith) (omega (arith, high)))

    pub seated_again : 1 ≤ count → seated all_players (player_of count) ≡ all_players
    seated_again some = ap (round_from all_players (player_of count)) (length-map (range_with_len 1 count) player_of ∙ length-range_with_len 1 count) ∙ by_count count refl
      where
        by_count : (many : ℕ) → count ≡ many → round_from all_players (player_of count) many ≡ players_from 1 many
        by_count zero at = refl
        by_count (suc many) at =
            let next : next_player all_players (player_of count) ≡ player_of 1 = next_is count some (omega arith) true (eq-eqb count count refl) (count == is.top) refl in
            ap (λ (player : PlainPlayer). player ∷ round_from all_players player many) next
            ∙ ap (λ (l : List PlainPlayer). player_of 1 ∷ l) (go_on 1 many (omega arith) (omega (arith, at)))

    -- ---- the players as they are listed

    no_id : (seat first many : ℕ) → first + many ≤ seat → has_id (pos seat) (players_from first many) ≡ false
    no_id seat first zero past = refl
    no_id seat first (suc many) past = rw (other_number seat first (λ same. omega (arith, same, past))) (no_id seat (first + 1) many (omega (arith, past)))

    no_seat : (seat first many : ℕ) → 1 ≤ first → first + many ≤ seat → seat ≤ count → has_seat (number seat) (players_from first many) ≡ false
    no_seat seat first zero low past high = refl
    no_seat seat first (suc many) low past high =
        let apart : number seat ≢ number first = λ same. is.differ first seat low (omega (arith, past)) high (sym same) in
        ap (λ (b : Bool). b || has_seat (number seat) (players_from (first + 1) many)) (ne_eqb (number seat) (number first) apart)
        ∙ no_seat seat (first + 1) many (omega (arith, low)) (omega (arith, past)) high

    at_button : (target first many : ℕ) → 1 ≤ first → first ≤ target → target < first + many → target ≤ count → player_at (pos (number target)) (players_from first many) ≡ Some (player_of target)
    at_button target first zero low from within high = absurd (omega (arith, from, within))
    at_button target first (suc many) low from within high = by_first (first == target) refl (λ later. at_button target (first + 1) many (omega (arith, low)) later (omega (arith, within)) high)
      where
        by_first : (same : Bool) → (first == target) ≡ same → (first + 1 ≤ target → player_at (pos (number target)) (players_from (first + 1) many) ≡ Some (player_of target))
            → player_at (pos (number target)) (players_from first (suc many)) ≡ Some (player_of target)
        by_first true e later =
            let at : first ≡ target = eqb-true first target e in
            rw (same_whole (number first) (number target) (ap number at)) (ap (λ (n : ℕ). Some (player_of n)) at)
        by_first false e later =
            let apart : first ≢ target = λ at. absurd (true≢false (sym (eq-eqb first target at) ∙ e)) in
            let numbers_apart : number first ≢ number target = λ same. apart (one_seat count number is first target low (omega (arith, from, high)) (omega (arith, low, from)) high same) in
            rw (other_number (number first) (number target) numbers_apart) (later (grind (arith, nat_tests, from)))

    module _ (few : count ≤ 10) (named : (seat : ℕ) → 1 ≤ seat → seat ≤ count → IfSome (get_or notes.names (seat - 1) None) (IsName seat)) (stacked : (seat : ℕ) → 1 ≤ seat → seat ≤ count → (1 ≤ amount_of stacks seat) × (amount_of stacks seat ≤ MOST_CHIPS)) where
      name_short : (seat : ℕ) → 1 ≤ seat → seat ≤ count → length (name_written notes seat) ≤ MOST_TEXT_BYTES
      name_short seat low high = by_name (get_or notes.names (seat - 1) None) (named seat low high)
        where
          by_name : (said : Option (List ℕ)) → IfSome said (IsName seat) → length (unwrap_or said (default_name seat)) ≤ MOST_TEXT_BYTES
          by_name None is = let short : length (decimal seat) ≤ 20 = length-decimal-le 20 seat (omega arith) (omega (arith, few, high)) (omega (arith, few, high)) in omega (arith, short)
          by_name (Some name) is = is.text.1

      player_read : (k index : ℕ) → k + 1 ≤ count → player_added (players_from 1 k) index (player_tree stacks notes numbers (k + 1)) ≡ Ok (players_from 1 k ++ player_of (k + 1) ∷ [])
      unfolding player_added player_said id_said seat_said short_text_said stack_said object_said required_value text_said integer_said number_said
      player_read k index high =
          let seat : ℕ = k + 1 in
          let within = is.each seat (omega arith) high in
          let stack = stacked seat (omega arith) high in
          rw (
            no_id seat 1 k (omega arith),
            le-leb 1 (number seat) within.0,
            le-leb (number seat) 255 within.1,
            no_seat seat 1 k (omega arith) (omega arith) high,
            le-leb (length (name_written notes seat)) MOST_TEXT_BYTES (name_short seat (omega arith) high),
            le-leb 1 (amount_of stacks seat) stack.0,
            le-leb (amount_of stacks seat) MOST_CHIPS stack.1,
          ) refl

      one_longer : (k : ℕ) → players_from 1 k ++ player_of (k + 1) ∷ [] ≡ players_from 1 (k + 1)
      one_longer k =
          let next : 1 + k ≡ k + 1 = omega arith in
          let longer : suc k ≡ k + 1 = omega arith in
          ap (λ (n : ℕ). players_from 1 k ++ player_of n ∷ []) (sym next)
          ∙ sym (map-append player_of (range_with_len 1 k) ((1 + k) ∷ []))
          ∙ ap (map player_of) (sym (range_more 1 k))
          ∙ ap (players_from 1) longer

      each_player : (k many index : ℕ) → k + many ≤ count → added_from player_added (players_from 1 k) index (map (player_tree stacks notes numbers) (range_with_len (k + 1) many)) ≡ Ok (players_from 1 (k + many))
      unfolding added_from
      each_player k zero index high = ap (λ (n : ℕ). Ok (players_from 1 n)) (omega arith)
      each_player k (suc many) index high =
          rw (player_read k index (omega (arith, high)), one_longer k)
          (each_player (k + 1) many (index + 1) (omega (arith, high)) ∙ ap (λ (n : ℕ). Ok (players_from 1 n)) (omega arith))

      -- the players of the hand, in the order of their seats
      pub seated_read : (ohh : Data) → stacks.seats ≡ count → 2 ≤ count
          → member_at paths.Players ohh ≡ Some (players stacks notes numbers) → member_at paths.DealerSeat ohh ≡ Some (whole (number_among numbers count))
          → seated_said ohh ≡ Ok (players_from 1 count)
      unfolding seated_said players_said button_said required_value list_said integer_said
      seated_read ohh seats some has_players has_dealer =
          let items : List Data = map (player_tree stacks notes numbers) (seats_of count) in
          let long : length items ≡ count = length-map (seats_of count) (player_tree stacks notes numbers) ∙ length-range_with_len 1 count in
          let listed_is : listed (items_of (map (player_tree stacks notes numbers) (seats_of stacks.seats))) ≡ items =
          listed_again (map (player_tree stacks notes numbers) (seats_of stacks.seats)) ∙ ap (λ (n : ℕ). map (player_tree stacks notes numbers) (seats_of n)) seats in
          let read : added_from player_added [] 0 items ≡ Ok (players_from 1 count) = each_player 0 count 0 (omega arith) ∙ ap (λ (n : ℕ). Ok (players_from 1 n)) (omega arith) in
          rw (
            has_players,
            listed_is,
            le-leb 2 (length items) (omega (arith, long, some)),
            le-leb (length items) 10 (omega (arith, long, few)),
            read,
            has_dealer,
            at_button count 1 count (omega arith) (omega (arith, some)) (omega arith) (omega arith),
            seated_again (omega (arith, some)),
          ) refl
