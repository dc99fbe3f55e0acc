-- A hand has few actions, so each of them has its number.
use Rattle.std.proofs.Common.{◌≡◌, ℕ, ◌+◌, ◌-◌, ◌≤◌, ◌^◌, cond, ◌==◌, ◌&&◌, nat_lt, List, [], ◌∷◌, ◌++◌, length, map, sum_by, Some, None, refl, sym, ap, ◌∙◌, arith, length-append}
use Rattle.std.proofs.lemmas.List.{length-map}
use Rattle.std.proofs.lemmas.List.FromFn.{length-range_with_len}
use Rattle.std.proofs.lemmas.List.Sums.{sum_by-append, sum_by-cons}
use Rattle.std.specs.List.{flat_map}
use Rattle.card_set.specs.declared.card.Slot.{Slot}
use Rattle.chip_ledger.specs.LiveRow.{flag_of}
use Rattle.chip_ledger.specs.SeatRow.{amount_of}
use Rattle.play_event.specs.declared.setup.Setup.{Setup}
use Rattle.play_event.specs.Chips.{chips_left}
use Rattle.play_event.specs.Past.{Act, Folded, Called, Raised, BroughtIn, Move}
use Rattle.play_event.specs.Played.{move_said}
use Rattle.play_event.specs.Seats.{all_seats}
use Rattle.play_event.specs.Trace.{TracedMove, TracedPlace}
use Rattle.play_event.specs.CanonScript.{dealt_slots, held_slots, plain_move}
use Rattle.play_event.specs.declared.hand_limits.TheConstants.{MOST_MOVES}
use Rattle.hand_canon.specs.declared.trace.Trace.{Trace}
use Rattle.hand_canon.specs.TraceRows.{core_said}
use Rattle.card_set.proofs.FlatMaps.{flat_few}
use Rattle.ohh_members.specs.declared.dialect.Dialect.{Dialect}
use Rattle.ohh_writing.specs.declared.action.Round.{Round}
use Rattle.ohh_members.specs.declared.street.StreetName.{StreetName}
use Rattle.ohh_members.specs.declared.street.StreetName.TheVariants as streets
use Rattle.ohh_members.specs.declared.words.Word.TheVariants as words
use Rattle.ohh_writing.specs.Actions.{PlainAction, act_written, action_said, alone, ante_post, blind_post, deal_written, deals, has_known_card, move_written, moves_written, posts, seat_of_big_blind, seat_of_small_blind, showing, showings, straddle_post, with_cards, with_chips}
use Rattle.ohh_writing.specs.Rounds.{PlainRound, board_round, board_round_on, round, first_actions, hand_rounds, moves_on, round_said, showdown_round}
use Rattle.card_set.proofs.Lists.{either_few, one_at_most, where_few}

seats_few : {X : Type 0} (made : ℕ → List X) (setup : Setup) → ((seat : ℕ) → length (made seat) ≤ 1) → length (flat_map made (all_seats setup)) ≤ 10
seats_few made setup few =
    omega (arith, flat_few made 1 (all_seats setup) few, length-range_with_len 1 setup.stacks.seats, setup.stacks.greatest)

posts_few : (setup : Setup) → length (posts setup) ≤ 22
posts_few setup =
    let antes = flat_map (ante_post setup) (all_seats setup) in
    let straddles = flat_map (straddle_post setup) (all_seats setup) in
    let blinds : List PlainAction =
    blind_post setup words.PostSmallBlind (seat_of_small_blind setup) ∷ blind_post setup words.PostBigBlind (seat_of_big_blind setup) ∷ straddles in
    omega (
      arith,
      length-append antes blinds,
      seats_few (ante_post setup) setup (λ seat. one_at_most (nat_lt 0 (amount_of setup.antes seat)) (with_chips words.PostAnte seat (amount_of setup.antes seat) (amount_of setup.stacks seat - amount_of setup.antes seat))),
      seats_few (straddle_post setup) setup (λ seat. one_at_most (nat_lt 2 seat && nat_lt 0 (amount_of setup.blinds seat)) (blind_post setup words.Straddle seat)),
    )

deals_few : (setup : Setup) (placed : List TracedPlace) → length (deals setup placed) ≤ 10
deals_few setup placed =
    seats_few (λ seat. deal_written seat (dealt_slots placed (Some seat) 1)) setup
    (λ seat. one_at_most (has_known_card (dealt_slots placed (Some seat) 1)) (with_cards words.DealtCards seat (dealt_slots placed (Some seat) 1)))

showings_few : (trace : Trace) → length (showings trace) ≤ 10
showings_few trace =
    seats_few (showing trace) trace.setup
    (λ seat. either_few (flag_of trace.shown seat) (with_cards words.ShowsCards seat (held_slots (core_said trace).places seat) ∷ []) (cond (flag_of trace.mucked seat) (alone words.MucksCards seat ∷ []) [])
    (omega arith) (one_at_most (flag_of trace.mucked seat) (alone words.MucksCards seat)))

act_few : (dialect : Dialect) (act : Act) (move : TracedMove) (left : ℕ) → length (act_written dialect act move left) ≤ 1
act_few dialect Folded move left = omega arith
act_few dialect Called move left = omega arith
act_few dialect Raised move left = omega arith
act_few dialect BroughtIn move left = omega arith

moves_few : (dialect : Dialect) (setup : Setup) (street : ℕ) (before : List Move) (moves : List TracedMove) → length (moves_written dialect setup street before moves) ≤ length moves
moves_few dialect setup street before [] = omega arith
moves_few dialect setup street before (move ∷ rest) =
    let first : List PlainAction = cond (move.street == street) (move_written dialect setup before move) [] in
    let left = chips_left setup (plain_move move ∷ before) move.seat in
    let one : length first ≤ 1 = where_few (move.street == street) (move_written dialect setup before move) (act_few dialect move.act move left) in
    omega (arith, one, moves_few dialect setup street (plain_move move ∷ before) rest, length-append first (moves_written dialect setup street (plain_move move ∷ before) rest))

abbrev pub count : List PlainRound → ℕ
count rounds = sum_by (λ round. length round.actions) rounds

count_push : (rounds others : List PlainRound) → count (rounds ++ others) ≡ count rounds + count others
count_push rounds others = sum_by-append (λ (round : PlainRound). length round.actions) rounds others

board_few : (street : StreetName) (slots : List Slot) (actions : List PlainAction) → count (board_round street slots actions) ≤ length actions
board_few street [] actions = omega arith
board_few street (slot ∷ rest) actions = omega arith

showdown_few : (actions : List PlainAction) → count (showdown_round actions) ≤ length actions
showdown_few [] = omega arith
showdown_few (action ∷ rest) = omega arith

-- the actions of a hand are few
pub actions_few : (dialect : Dialect) (trace : Trace) → length (core_said trace).moves ≤ MOST_MOVES → count (hand_rounds dialect trace) ≤ 2 ^ 32
unfolding hand_rounds
actions_few dialect trace few =
    let core = core_said trace in
    let on = λ (street : ℕ). moves_few dialect trace.setup street [] core.moves in
    let flop = board_round_on dialect trace streets.Flop 2 in
    let turn = board_round_on dialect trace streets.Turn 3 in
    let river = board_round_on dialect trace streets.River 4 in
    let last = showdown_round (showings trace) in
    omega (
      arith,
      few,
      length-map trace.moves move_said,
      sum_by-cons (λ (round : PlainRound). length round.actions) (round streets.Preflop [] (first_actions dialect trace)) (flop ++ (turn ++ (river ++ last))),
      on 1,
      on 2,
      on 3,
      on 4,
      posts_few trace.setup,
      deals_few trace.setup core.places,
      showings_few trace,
      length-append (posts trace.setup) (deals trace.setup core.places ++ moves_on dialect trace 1),
      length-append (deals trace.setup core.places) (moves_on dialect trace 1),
      count_push flop (turn ++ (river ++ last)),
      count_push turn (river ++ last),
      count_push river last,
      board_few streets.Flop (dealt_slots core.places None 2) (moves_on dialect trace 2),
      board_few streets.Turn (dealt_slots core.places None 3) (moves_on dialect trace 3),
      board_few streets.River (dealt_slots core.places None 4) (moves_on dialect trace 4),
      showdown_few (showings trace),
    )

-- the rounds of the code have the same number of actions
pub same_count : (rounds : List Round) → sum_by (λ (round : Round). length round.actions.items) rounds ≡ count (map round_said rounds)
same_count [] = refl
same_count (first ∷ rest) =
    sum_by-cons (λ (round : Round). length round.actions.items) first rest
    ∙ ap (λ n. length first.actions.items + n) (same_count rest)
    ∙ ap (λ n. n + count (map round_said rest)) (sym (length-map first.actions.items action_said))
    ∙ sym (sum_by-cons (λ (round : PlainRound). length round.actions) (round_said first) (map round_said rest))
