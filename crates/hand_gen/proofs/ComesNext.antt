-- Whatever comes next is legal; and something comes as long as a deal, a draw, a bring-in or a move
-- is due.
use Rattle.std.proofs.Common.{◌≡◌, ℕ, ◌≤◌, ◌<◌, Bool, true, false, ◌&&◌, ◌==◌, not, nat_lt, nat_le, if◌then◌else◌, Option, Some, None, List, [], ◌∷◌, find, refl, sym, ap, subst, ◌∙◌, arith}
use Rattle.std.specs.List.{list_any}
use Rattle.std.specs.Option.{option_map}
use Rattle.std.proofs.lemmas.Bool.{and_parts, eq-eqb, eqb-true, le-ltb, ltb-true, not-true}
use Rattle.card_set.specs.declared.card.Slot.{Slot}
use Rattle.card_set.specs.declared.card.Slot.TheVariants as slots
use Rattle.card_set.specs.Known.{hides_card}
use Rattle.card_set.proofs.Any.{none_passes}
use Rattle.card_set.proofs.Tests.{false_true}
use Rattle.play_event.specs.declared.event.Spelled.TheVariants as spelled
use Rattle.play_event.specs.declared.limit.Opener.{Opener}
use Rattle.play_event.specs.declared.limit.Opener.TheVariants as openers
use Rattle.play_event.specs.declared.reason.Due.{Due}
use Rattle.play_event.specs.declared.reason.Due.TheVariants as dues
use Rattle.play_event.specs.declared.setup.Setup.{Setup}
use Rattle.play_event.specs.Amounts.{bring_in_target, call_target}
use Rattle.play_event.specs.Chips.{all_in, street_chips}
use Rattle.play_event.specs.Due.{has_opened_betting, has_to_move, is_bring_in_due, is_unfinished, turn}
use Rattle.play_event.specs.HistoryRules.{history_rules}
use Rattle.play_event.specs.MoveReasons.{is_other_seat, is_undecided}
use Rattle.play_event.specs.PlayerToAct.{first_in_turn, player_to_act, next_in_turn, seats_from}
use Rattle.play_event.specs.Openers.{InTurn, NoSeat, TheSeat, Undecided, UpCards, able_seats, has_unknown_up_card, in_turn, opener_by, up_cards_opener}
use Rattle.play_event.specs.Past.{BroughtIn, Called, Folded, Move, Past, Raised, moves_of, moves_on}
use Rattle.play_event.specs.Places.{is_held_by, is_up}
use Rattle.play_event.specs.CurrentBet.{to_call, current_bet}
use Rattle.play_event.specs.Raising.{has_able_opponent, is_reopened, is_within_cap, may_raise}
use Rattle.play_event.specs.Said as said
use Rattle.play_event.specs.Said.{Said}
use Rattle.play_event.specs.Scripts.{past_of, resolved_on, with_event}
use Rattle.play_event.specs.Seats.{able_count}
use Rattle.play_event.specs.Streets.{is_stud_game, opener_of}
use Rattle.play_event.specs.Table.{places_of, up_cards}
use Rattle.play_event.specs.Targets.{greatest_target, is_legal_target, least_target}
use Rattle.play_event.specs.TurnTargets.{is_bet_due}
use Rattle.play_event.specs.ValidSetup.{IsValid}
use Rattle.play_event.proofs.PlayerToActLaws.{player_to_act_has_to_move}
use Rattle.play_event.proofs.StreetLaws.{few_streets}
use Rattle.play_event.proofs.TargetLaws.{targets_end}
use Rattle.play_laws.proofs.BettingDue.{bet_of}
use Rattle.play_laws.proofs.DueAtEvents as due_at
use Rattle.play_laws.proofs.DueAtEvents.{IsDue, unfinished_due}
use Rattle.play_laws.proofs.FittingPasts.{has_movers, legal_moves}
use Rattle.play_event.proofs.FloorLaws.{bet_unfinished}
use Rattle.canon_laws.proofs.CardEvents.{legal_at}
use Rattle.canon_laws.proofs.PlayerToActSeats.{player_to_act_in_hand}
use Rattle.hand_gen.specs.Coming.{call_of, ends_of, move_by, raise_of}
use Rattle.hand_gen.specs.HandSource.{HandSource}
use Rattle.hand_gen.proofs.CardsOut.{IsStreet}
use Rattle.hand_gen.proofs.GoingHands.{IsGoing, all_known, move_goes, on_street}
use Rattle.hand_gen.proofs.KnownCards.{AreKnown, kept_known}
use Rattle.hand_gen.proofs.MovesTake.{bring_in_takes, call_takes, fold_takes, raise_takes}
use Rattle.hand_gen.proofs.RaisesAbove.{raises_above}
use Rattle.chip_ledger.specs.Seat.{IsSeatOf}

-- if no up-card is unknown, the player to act is always known
found_turn : (found : Option ℕ) → in_turn found ≡ Undecided → ⊥
found_turn None is = absurd (false_true (ap is_undecided is))
found_turn (Some seat) is = absurd (false_true (ap is_undecided is))

opener_known : (opener : Opener) (setup : Setup) (ups : UpCards) (moves : List Move) (street : ℕ) → has_unknown_up_card setup ups moves ≡ false → opener_by opener setup ups moves street ≡ Undecided → ⊥
opener_known openers.Blinds setup ups moves street known is = absurd (false_true (ap is_undecided is))
opener_known openers.LowUp setup ups moves street known is = found_turn (up_cards_opener setup ups moves street) (sym (ap (λ b. if b then Undecided else in_turn (up_cards_opener setup ups moves street)) known) ∙ is)
opener_known openers.HighUp setup ups moves street known is = found_turn (up_cards_opener setup ups moves street) (sym (ap (λ b. if b then Undecided else in_turn (up_cards_opener setup ups moves street)) known) ∙ is)

next_known : (setup : Setup) (opener : InTurn) (moves : List Move) → (opener ≡ Undecided → ⊥) → next_in_turn setup opener moves ≡ Undecided → ⊥
next_known setup opener [] known is = known is
next_known setup opener (move ∷ rest) known is = absurd (false_true (ap is_undecided is))

first_known : (setup : Setup) (holds : ℕ → Bool) (from : InTurn) → (from ≡ Undecided → ⊥) → first_in_turn setup holds from ≡ Undecided → ⊥
first_known setup holds NoSeat known is = absurd (false_true (ap is_undecided is))
first_known setup holds Undecided known is = known refl
first_known setup holds (TheSeat seat) known is = found_turn (find holds (seats_from setup seat)) is

player_to_act_known : (setup : Setup) (ups : UpCards) (moves : List Move) (street : ℕ) → has_unknown_up_card setup ups moves ≡ false → player_to_act setup ups moves street ≡ Undecided → ⊥
player_to_act_known setup ups moves street known =
    first_known setup (has_to_move setup moves street) (next_in_turn setup (opener_by (opener_of setup.code) setup ups moves street) (moves_on street moves))
    (next_known setup (opener_by (opener_of setup.code) setup ups moves street) (moves_on street moves) (opener_known (opener_of setup.code) setup ups moves street known))

none_unknown : (found : List Slot) → AreKnown found → list_any hides_card found ≡ false
none_unknown [] known = refl
none_unknown (slots.Known card ∷ rest) known = none_unknown rest known
none_unknown (slots.Unknown ∷ rest) known = absurd known

positive : (n : ℕ) → nat_lt 0 n ≡ true → 0 < n
positive n is = ltb-true 0 n is

-- a raise is allowed if the seat may go above the current bet
raise_parts : (setup : Setup) (moves : List Move) (street seat : ℕ) → may_raise setup history_rules moves street seat ≡ true → current_bet setup moves street < all_in setup moves street seat
raise_parts setup moves street seat may =
    let able : Bool = has_able_opponent setup moves seat in
    let above : Bool = nat_lt (current_bet setup moves street) (all_in setup moves street seat) in
    let most = and_parts (able && above && is_within_cap history_rules.caps moves street) (is_reopened history_rules.reopen setup moves street seat) may in
    let some = and_parts (able && above) (is_within_cap history_rules.caps moves street) most.0 in
    ltb-true (current_bet setup moves street) (all_in setup moves street seat) (and_parts able above some.0).1

-- a bring-in is due on the first street, before any bet
record IsToOpen (moves : List Move) (street : ℕ) : Type 0 where
  first : street ≡ 1
  unopened : list_any (λ (m : Move). has_opened_betting m.act) (moves_on 1 moves) ≡ false

to_open : (setup : Setup) (moves : List Move) (street : ℕ) → is_bring_in_due setup moves street ≡ true → IsToOpen moves street
to_open setup moves street is =
    let opened : Bool = list_any (λ (m : Move). has_opened_betting m.act) (moves_on street moves) in
    let most = and_parts (is_stud_game setup.code && (street == 1) && nat_le 2 (able_count setup moves)) (not opened) is in
    let some = and_parts (is_stud_game setup.code && (street == 1)) (nat_le 2 (able_count setup moves)) most.0 in
    let first = and_parts (is_stud_game setup.code) (street == 1) some.0 in
    let one : street ≡ 1 = eqb-true street 1 first.1 in
    record { first = one; unopened = subst (λ (s : ℕ). list_any (λ (m : Move). has_opened_betting m.act) (moves_on s moves) ≡ false) one (not-true opened most.1) }

module _ (setup : Setup) (valid : IsValid setup) (four : setup.stacks.seats ≤ 4) (events : List Said) (stock : HandSource) (going : IsGoing setup events stock.deck) where
  abbrev now : Past
  now = past_of setup events

  abbrev moves : List Move
  moves = moves_of (past_of setup events)

  abbrev turn_of : ℕ → InTurn
  turn_of street = player_to_act setup (up_cards setup.code now) moves street

  -- the player to act
  ups_known : has_unknown_up_card setup (up_cards setup.code now) moves ≡ false
  ups_known =
      none_passes (λ seat. list_any hides_card (up_cards setup.code now seat)) (able_seats setup moves) (λ seat.
      none_unknown (up_cards setup.code now seat) (kept_known (λ place. is_held_by seat place && is_up setup.code place) (places_of setup.code now) (all_known setup four events stock going)))

  pub now_due : (street : ℕ) (due : Due) → turn setup now ≡ (street, due) → is_unfinished due ≡ true → IsDue setup now street due
  now_due street due turned unfinished =
      subst (λ (s : ℕ). IsDue setup now s due) (ap (λ (t : ℕ × Due). t.0) turned) (unfinished_due setup now due (ap (λ (t : ℕ × Due). t.1) turned) unfinished)

  pub the_player_to_act : (street : ℕ) (due : Due) → turn setup now ≡ (street, due) → is_bet_due due ≡ true → (seat : ℕ) × (turn_of street ≡ TheSeat seat)
  the_player_to_act street due turned bets = by_turn (turn_of street) refl
    where
      by_turn : (t : InTurn) → turn_of street ≡ t → (seat : ℕ) × (turn_of street ≡ TheSeat seat)
      by_turn (TheSeat seat) is = (seat, is)
      by_turn Undecided is = absurd (player_to_act_known setup (up_cards setup.code now) moves street ups_known is)
      by_turn NoSeat is =
          absurd (has_movers setup history_rules (places_of setup.code now) moves (up_cards setup.code now) street due (legal_moves setup history_rules events going.legal)
          (bet_of setup now street due (now_due street due turned (bet_unfinished due bets)) bets) is)

  abbrev Good : Said → Type 0
  Good event = IsGoing setup (event ∷ events) stock.deck

  -- the moves of the player to act
  module _ (street : ℕ) (due : Due) (turned : turn setup now ≡ (street, due)) (seat : ℕ) (who : turn_of street ≡ TheSeat seat) where
    own : is_other_seat setup moves (Some seat) (turn_of street) ≡ false
    own = ap (is_other_seat setup moves (Some seat)) who ∙ ap not (eq-eqb seat seat refl)

    known : is_undecided (turn_of street) ≡ false
    known = ap is_undecided who

    in_hand : IsSeatOf setup.stacks.seats seat
    in_hand = player_to_act_in_hand setup (up_cards setup.code now) moves street seat who

    has_to : has_to_move setup moves street seat ≡ true
    has_to = player_to_act_has_to_move setup (up_cards setup.code now) moves street seat who

    on : IsStreet setup street
    on = on_street setup four events stock going street due turned

    five : street ≤ 5
    five = omega (arith, on.last, few_streets setup.code)

    fold_good : due ≡ dues.Move → Good (said.Fold (Some seat))
    unfolding with_event
    fold_good is =
        move_goes setup four events stock going street seat Folded (street_chips setup moves street seat) (said.Fold (Some seat)) in_hand refl
        (fold_takes setup moves street seat going.state.taken in_hand has_to)
        (ap (λ (t : ℕ × Due). resolved_on setup now t.0 (said.Fold (Some seat)) ∷ now) turned)
        (legal_at setup history_rules now (street, dues.Move) (said.Fold (Some seat)) (turned ∙ ap (λ d. (street, d)) is)
        (refl, (refl, (own, (refl, (refl, (refl, (known, (refl, (refl, (refl, (refl, (refl, tt)))))))))))))

    call_good : due ≡ dues.Move → Good (call_of seat)
    unfolding with_event
    call_good is =
        move_goes setup four events stock going street seat Called (call_target setup moves street seat) (call_of seat) in_hand refl
        (call_takes setup moves street seat going.state.taken in_hand has_to on.first five)
        (ap (λ (t : ℕ × Due). resolved_on setup now t.0 (call_of seat) ∷ now) turned)
        (legal_at setup history_rules now (street, dues.Move) (call_of seat) (turned ∙ ap (λ d. (street, d)) is)
        (refl, (refl, (own, (refl, (refl, (refl, (known, (refl, (refl, (refl, (refl, (refl, tt)))))))))))))

    raise_good : (target : ℕ) → due ≡ dues.Move → may_raise setup history_rules moves street seat ≡ true → is_legal_target history_rules.reopen setup moves street seat target ≡ true → target ≤ greatest_target setup moves street seat → Good (said.Raise (Some seat) (spelled.To target))
    unfolding with_event
    raise_good target is may legal most =
        move_goes setup four events stock going street seat Raised target (said.Raise (Some seat) (spelled.To target)) in_hand refl
        (raise_takes setup moves street seat going.state.taken in_hand has_to target (raises_above setup history_rules events street seat target valid going.legal on.first on.last (raise_parts setup moves street seat may) legal))
        (ap (λ (t : ℕ × Due). resolved_on setup now t.0 (said.Raise (Some seat) (spelled.To target)) ∷ now) turned)
        (legal_at setup history_rules now (street, dues.Move) (said.Raise (Some seat) (spelled.To target)) (turned ∙ ap (λ d. (street, d)) is)
        (refl, (refl, (own, (refl, (refl, (refl, (known, (refl, (ap not may, (ap (λ b. not b && nat_lt target (greatest_target setup moves street seat)) legal, (le-ltb (greatest_target setup moves street seat) target most, (refl, tt)))))))))))))

    pub bring_in_good : due ≡ dues.BringIn → Good (said.BringIn (Some seat))
    unfolding with_event
    bring_in_good is =
        let open_now = to_open setup moves street (brings due (now_due street due turned (ap is_unfinished is)) is) in
        move_goes setup four events stock going street seat BroughtIn (bring_in_target setup moves street seat) (said.BringIn (Some seat)) in_hand refl
        (bring_in_takes setup moves street seat going.state.taken in_hand has_to open_now.first open_now.unopened)
        (ap (λ (t : ℕ × Due). resolved_on setup now t.0 (said.BringIn (Some seat)) ∷ now) turned)
        (legal_at setup history_rules now (street, dues.BringIn) (said.BringIn (Some seat)) (turned ∙ ap (λ d. (street, d)) is)
        (refl, (refl, (own, (refl, (refl, (refl, (known, (refl, (refl, (refl, (refl, (refl, tt)))))))))))))
      where
        brings : (d : Due) → IsDue setup now street d → d ≡ dues.BringIn → is_bring_in_due setup moves street ≡ true
        brings _ (due_at.deal so) same = absurd cc
        brings _ (due_at.draw no_deal so) same = absurd cc
        brings _ (due_at.bring no_deal no_draw so) same = so
        brings _ (due_at.move no_deal no_draw no_bring so) same = absurd cc

    -- a raise to one of the ends, or a call
    raised : (pick : ℕ × ℕ → ℕ) → due ≡ dues.Move
        → is_legal_target history_rules.reopen setup moves street seat (pick (least_target history_rules.reopen setup moves street seat, greatest_target setup moves street seat)) ≡ true
        → pick (least_target history_rules.reopen setup moves street seat, greatest_target setup moves street seat) ≤ greatest_target setup moves street seat
        → Good (raise_of seat (option_map pick (ends_of setup history_rules moves street seat)))
    raised pick is legal most = by_may (may_raise setup history_rules moves street seat) refl
      where
        by_may : (may : Bool) → may_raise setup history_rules moves street seat ≡ may → Good (raise_of seat (option_map pick (if may then Some (least_target history_rules.reopen setup moves street seat, greatest_target setup moves street seat) else None)))
        by_may true may = raise_good (pick (least_target history_rules.reopen setup moves street seat, greatest_target setup moves street seat)) is may legal most
        by_may false may = call_good is

    pub move_good : due ≡ dues.Move → (number : ℕ) → Good (move_by setup history_rules moves street seat number)
    move_good is number =
        let ends = targets_end setup history_rules moves street seat in
        chosen (number == 0) (nat_le number 2) (number == 3) (nat_lt 0 (to_call setup moves street seat))
        (raise_of seat (option_map (λ (t : ℕ × ℕ). t.0) (ends_of setup history_rules moves street seat)))
        (raise_of seat (option_map (λ (t : ℕ × ℕ). t.1) (ends_of setup history_rules moves street seat)))
        (raised (λ (t : ℕ × ℕ). t.0) is ends.least_legal (ends.within (least_target history_rules.reopen setup moves street seat) ends.least_legal).1)
        (raised (λ (t : ℕ × ℕ). t.1) is ends.greatest_legal (omega arith))
      where
        chosen : (zero few three owes : Bool) (low high : Said) → Good low → Good high → Good (if zero then (if owes then said.Fold (Some seat) else call_of seat) else if few then low else if three then high else call_of seat)
        chosen true few three true low high is_low is_high = fold_good is
        chosen true few three false low high is_low is_high = call_good is
        chosen false true three owes low high is_low is_high = is_low
        chosen false false true owes low high is_low is_high = is_high
        chosen false false false owes low high is_low is_high = call_good is
