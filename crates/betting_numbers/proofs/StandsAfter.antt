-- After a legal move the state stands for the past with it.
use Rattle.std.proofs.Common.{◌≡◌, ℕ, ◌+◌, ◌≤◌, Bool, true, false, ◌&&◌, ◌||◌, ◌==◌, not, nat_lt, nat_le, if◌then◌else◌, inl, inr, List, ◌∷◌, Option, Some, refl, sym, ap, subst, ◌∙◌, arith}
use Rattle.std.proofs.lemmas.Bool.{and_from, and_parts, and_right, le-leb, leb-true, cases_eq, false_from_ne_true, true≢false}
use Rattle.chip_ledger.specs.declared.numbers.Seat.{Seat}
use Rattle.play_event.specs.declared.code.Code.{Code}
use Rattle.play_event.specs.declared.reason.Due.{Due}
use Rattle.play_event.specs.declared.reason.Due.TheVariants as dues
use Rattle.play_event.specs.declared.setup.Setup.{Setup}
use Rattle.play_event.specs.Games.{street_count}
use Rattle.play_event.specs.Streets as streets
use Rattle.play_event.specs.Past.{Past, Move, Act, Moved, moves_of, moves_on}
use Rattle.play_event.specs.Seats.{is_live, can_act, live_count, all_seats, able_count}
use Rattle.play_event.specs.Showing.{has_to_show, has_shown, has_mucked}
use Rattle.std.specs.List.{list_any}
use Rattle.play_event.specs.Streets.{is_stud_game}
use Rattle.play_event.specs.Due.{has_opened_betting, turn, is_bring_in_due, is_move_due}
use Rattle.betting_numbers.specs.declared.betting_state.BettingState.{BettingState}
use Rattle.betting_numbers.specs.Seen.{live_count_seen, is_move_due_seen}
use Rattle.betting_numbers.specs.Moving.{IsMoved, IsNextStreet}
use Rattle.betting_numbers.specs.Standing.{Standing, StandsFor}
use Rattle.play_laws.specs.Walk.{has_nothing_later, street_cards, turn_after}
use Rattle.play_event.specs.ValidSetup.{IsValid}
use Rattle.play_laws.specs.Dues.{is_move}
use Rattle.play_event.specs.TurnTargets.{is_bet_due}
use Rattle.betting_numbers.specs.Turn.{may_come_at, with_turn, IsSettledTo}
use Rattle.betting_numbers.proofs.Bridge.{live_count_is, move_due_is}
use Rattle.betting_numbers.proofs.AfterMove.{the_move, standing_after, on_street}
use Rattle.card_set.proofs.Counting.{counts_fewer}
use Rattle.betting_numbers.proofs.NextStreet.{standing_next}
use Rattle.play_laws.proofs.Later.{early_moves, early_up}
use Rattle.play_laws.proofs.TurnAfter.{cards_are_dealt, dealt_still, due_by}
use Rattle.play_laws.proofs.Walk.{turn_after_move}
use Rattle.play_laws.proofs.Unsettled.{due_after_cards, unsettled}
use Rattle.play_laws.proofs.LiveSeats.{some_left}
use Rattle.play_laws.proofs.CardTurns.{several_live}
use Rattle.play_event.proofs.StillAble.{able_still, still_live}
use Rattle.play_event.proofs.FloorLaws.{bet_unfinished}
use Rattle.chip_ledger.specs.Seat.{IsSeatOf}

-- the numbers stand for the same moves, whatever is due
pub standing_with_turn : (setup : Setup) (street : ℕ) (b : BettingState) (due : Due) (next : Option Seat) (moves : List Move) → Standing setup street b moves → Standing setup street (with_turn b due next) moves
standing_with_turn setup street b due next moves st = record {
  puts = st.puts;
  bets = st.bets;
  live = st.live;
  moved = st.moved;
  acted_since_raise = st.acted_since_raise;
  last = st.last;
  raises = st.raises;
  full_raise = st.full_raise;
  full_bet = st.full_bet;
  always_floor = st.always_floor;
  bet_or_bring_in_made = st.bet_or_bring_in_made;
}

bring_in_closed_by : (stud first : Bool) (few many : ℕ) (opens bet_or_bring_in_made : Bool) → few ≤ many → (opens ≡ false → (stud && first && nat_le 2 many && not bet_or_bring_in_made) ≡ false) → (stud && first && nat_le 2 few && not (opens || bet_or_bring_in_made)) ≡ false
bring_in_closed_by stud first few many true bet_or_bring_in_made less before = and_right (stud && first && nat_le 2 few) false refl
bring_in_closed_by stud first few many false bet_or_bring_in_made less before = false_from_ne_true (stud && first && nat_le 2 few && not bet_or_bring_in_made) (λ is.
    let parts = and_parts (stud && first && nat_le 2 few) (not bet_or_bring_in_made) is in
    let inner = and_parts (stud && first) (nat_le 2 few) parts.0 in
    let two : 2 ≤ few = leb-true 2 few inner.1 in
    true≢false (sym (and_from (stud && first && nat_le 2 many) (not bet_or_bring_in_made) (and_from (stud && first) (nat_le 2 many) inner.0 (le-leb 2 many (omega (arith, two, less)))) parts.1) ∙ before refl))

fits_move : (act : Act) (due : Due) → may_come_at act due ≡ true → has_opened_betting act ≡ false → due ≡ dues.Move
fits_move act due fits none = by due (sym (ap (λ o. o || is_move due) none) ∙ fits)
  where
    by : (d : Due) → is_move d ≡ true → d ≡ dues.Move
    by dues.Move is = refl
    by dues.BringIn is = absurd (true≢false (sym is))
    by (dues.Deal on) is = absurd (true≢false (sym is))
    by (dues.Draw on) is = absurd (true≢false (sym is))
    by dues.Show is = absurd (true≢false (sym is))
    by dues.Over is = absurd (true≢false (sym is))

no_bring_in_by : (street : ℕ) (bring_in move : Bool) → due_by street false false bring_in move ≡ Some dues.Move → bring_in ≡ false
no_bring_in_by street true move is = absurd cc
no_bring_in_by street false move is = refl

-- a seat that had to show still has to show after a move that leaves it live
shows_still : (past : Past) (move : Move) → ((seat : ℕ) → is_live (moves_of past) seat ≡ true → has_to_show past seat ≡ true) → (seat : ℕ) → is_live (move ∷ moves_of past) seat ≡ true → has_to_show (Moved move ∷ past) seat ≡ true
shows_still past move each seat live =
    let both = and_parts (is_live (moves_of past) seat) (not (has_shown past seat || has_mucked past seat)) (each seat (still_live move (moves_of past) seat live)) in
    and_from (is_live (move ∷ moves_of past) seat) (not (has_shown past seat || has_mucked past seat)) live both.1

-- the street of what is due after a move is this one or the next
abbrev pick : Bool → ℕ × Due → ℕ × Due → ℕ × Due
pick before first second = if before then first else second

behind_by : (street : ℕ) (before : Bool) (due last : Due) → street ≤ (pick before (street + 1, due) (street, last)).0
behind_by street true due last = omega arith
behind_by street false due last = omega arith

street_after : (code : Code) (street : ℕ) (few bring_in move : Bool) → street ≤ (turn_after code street few bring_in move).0
street_after code street true bring_in move = omega arith
street_after code street false true move = omega arith
street_after code street false false true = omega arith
street_after code street false false false = behind_by street (nat_lt street (street_count code)) (street_cards code (street + 1)) dues.Show

module _ (b mid next : BettingState) (past : Past) (seat target unit : ℕ) (act : Act) (stands : StandsFor b past) (bets : is_bet_due b.due ≡ true) (in_hand : IsSeatOf b.setup.stacks.seats seat) (mv : IsMoved b mid seat act target unit) (unit_is : unit ≡ streets.unit b.setup b.street) (from_one : 1 ≤ b.street) (within : b.street ≤ street_count b.setup.code) (fits : may_come_at act b.due ≡ true) (to : IsSettledTo mid next) where
  abbrev pub new_move : Move
  new_move = the_move b mid (moves_of past) seat target unit act stands.standing in_hand mv unit_is

  mid_stands : Standing mid.setup mid.street mid (new_move ∷ moves_of past)
  mid_stands = standing_after b mid (moves_of past) seat target unit act stands.standing in_hand mv unit_is

  early_mid : has_nothing_later (Moved new_move ∷ past) mid.street ≡ true
  early_mid =
      subst (λ n. has_nothing_later (Moved new_move ∷ past) n ≡ true) (sym mv.street)
      (and_from (nat_le b.street b.street) (has_nothing_later past b.street) (le-leb b.street b.street (omega arith)) stands.early)

  one_mid : 1 ≤ mid.street
  one_mid = omega (arith, from_one, mv.street)

  each_shows : (k : ℕ) → is_live (new_move ∷ moves_of past) k ≡ true → has_to_show (Moved new_move ∷ past) k ≡ true
  each_shows = shows_still past new_move (stands.unshown (λ over. true≢false (sym bets ∙ ap is_bet_due over)) (unsettled b.setup past b.street b.due stands.turn_is bets))

  -- what the numbers are, and where
  record Comes : Type 0 where
    setup : next.setup ≡ b.setup
    standing : Standing next.setup next.street next (new_move ∷ moves_of past)

  stays_by : next ≡ with_turn mid next.due next.next → Comes
  stays_by is = record {
    setup = ap (λ (t : BettingState). t.setup) is ∙ mv.setup;
    standing = subst (λ (t : BettingState). Standing t.setup t.street t (new_move ∷ moves_of past)) (sym is) (standing_with_turn mid.setup mid.street mid next.due next.next (new_move ∷ moves_of past) mid_stands);
  }

  goes_by : IsNextStreet mid next → Comes
  goes_by is = record {
    setup = is.setup ∙ mv.setup;
    standing = standing_next mid next (new_move ∷ moves_of past) mid_stands (early_moves (Moved new_move ∷ past) mid.street early_mid) one_mid is;
  }

  comes : Comes
  comes = elim (cases_eq next.street mid.street) [
    | inl same ↦ stays_by (to.stays same)
    | inr other ↦ goes_by (to.goes other)
  ]

  bring_in_before : has_opened_betting act ≡ false → is_bring_in_due b.setup (moves_of past) b.street ≡ false
  bring_in_before none =
      no_bring_in_by b.street (is_bring_in_due b.setup (moves_of past) b.street) (is_move_due b.setup (moves_of past) b.street)
      (due_after_cards b.setup past b.street dues.Move (stands.turn_is ∙ ap (λ (d : Due). (b.street, d)) (fits_move act b.due fits none)) refl)

  -- no bring-in is due any more
  closed : is_bring_in_due b.setup (new_move ∷ moves_of past) b.street ≡ false
  closed =
      ap (λ ms. is_stud_game b.setup.code && (b.street == 1) && nat_le 2 (able_count b.setup (new_move ∷ moves_of past)) && not (list_any (λ (move : Move). has_opened_betting move.act) ms)) (on_street b.street new_move (moves_of past) refl)
      ∙ bring_in_closed_by (is_stud_game b.setup.code) (b.street == 1) (able_count b.setup (new_move ∷ moves_of past)) (able_count b.setup (moves_of past)) (has_opened_betting act) (list_any (λ (move : Move). has_opened_betting move.act) (moves_on b.street (moves_of past)))
      (counts_fewer (can_act b.setup (new_move ∷ moves_of past)) (can_act b.setup (moves_of past)) (able_still b.setup new_move (moves_of past)) (all_seats b.setup))
      bring_in_before

  turn_there : turn b.setup (Moved new_move ∷ past) ≡ (next.street, next.due)
  turn_there =
      turn_after_move b.setup past new_move
      (dealt_still b.setup past new_move b.street (cards_are_dealt b.setup past b.street b.due stands.turn_is bets (bet_unfinished b.due bets)))
      stands.early within each_shows
      ∙ ap (λ i. turn_after b.setup.code b.street (nat_le (live_count b.setup (new_move ∷ moves_of past)) 1) i (is_move_due b.setup (new_move ∷ moves_of past) b.street)) closed
      ∙ sym (
      to.turn_is
      ∙ ap (λ n. turn_after mid.setup.code mid.street (nat_le n 1) false (is_move_due_seen mid)) (live_count_is mid (new_move ∷ moves_of past) mid_stands)
      ∙ ap (turn_after mid.setup.code mid.street (nat_le (live_count mid.setup (new_move ∷ moves_of past)) 1) false) (move_due_is mid (new_move ∷ moves_of past) mid_stands)
      ∙ ap (λ (s : Setup). turn_after s.code mid.street (nat_le (live_count s (new_move ∷ moves_of past)) 1) false (is_move_due s (new_move ∷ moves_of past) mid.street)) mv.setup
      ∙ ap (λ (n : ℕ). turn_after b.setup.code n (nat_le (live_count b.setup (new_move ∷ moves_of past)) 1) false (is_move_due b.setup (new_move ∷ moves_of past) n)) mv.street
      )

  later_street : b.street ≤ next.street
  later_street =
      let up : mid.street ≤ (turn_after mid.setup.code mid.street (nat_le (live_count_seen mid) 1) false (is_move_due_seen mid)).0 = street_after mid.setup.code mid.street (nat_le (live_count_seen mid) 1) false (is_move_due_seen mid) in
      let at : next.street ≡ (turn_after mid.setup.code mid.street (nat_le (live_count_seen mid) 1) false (is_move_due_seen mid)).0 = ap (λ (p : ℕ × Due). p.0) to.turn_is in
      omega (arith, up, at, mv.street)

  -- so the state stands for the past with one more move
  pub stands_after : StandsFor next (Moved new_move ∷ past)
  stands_after = record {
    valid = subst (λ s. IsValid s) (sym comes.setup) stands.valid;
    standing = comes.standing;
    turn_is = ap (λ s. turn s (Moved new_move ∷ past)) comes.setup ∙ turn_there;
    someone = subst (λ s. 1 ≤ live_count s (moves_of (Moved new_move ∷ past))) (sym comes.setup) (some_left b.setup new_move (moves_of past) (several_live b.setup past b.street b.due stands.turn_is (λ over. true≢false (sym bets ∙ ap is_bet_due over))));
    early = and_from (nat_le b.street next.street) (has_nothing_later past next.street) (le-leb b.street next.street later_street) (early_up past b.street next.street later_street stands.early);
    unshown = λ other settled. each_shows;
  }
