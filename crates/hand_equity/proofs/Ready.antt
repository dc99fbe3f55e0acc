-- A sound play has what its equity needs.
use Rattle.std.proofs.Common.{◌≡◌, ◌≤◌, ◌<◌, ◌+◌, ◌&&◌, ◌==◌, ◌++◌, ℕ, Bool, true, false, nat_le, nat_lt, List, [], ◌∷◌, length, map, filter, reverse, is_some, None, Some, inl, inr, sym, ◌∙◌, ap, subst, arith}
use Rattle.std.specs.List.{list_any}
use Rattle.std.proofs.lemmas.Bool.{and_parts, leb-true, ltb-true}
use Rattle.card_set.specs.declared.card.Slot.{Slot}
use Rattle.card_set.specs.declared.card.Slot.TheVariants as slots
use Rattle.card_set.specs.Different.{AllDifferent}
use Rattle.card_set.specs.Known.{hides_card, known_among}
use Rattle.card_set.proofs.KnownCards.{all_known_length}
use Rattle.canon_laws.proofs.TidyTraces.{tidy_cards}
use Rattle.play_event.specs.CanonScript.{dealt_slots, held_slots}
use Rattle.play_event.specs.TraceCore.{TraceCore}
use Rattle.chip_ledger.specs.Seat.{IsSeatOf}
use Rattle.hand_canon.specs.Sound.{IsSound}
use Rattle.hand_canon.specs.SoundRecord.{script_said}
use Rattle.hand_canon.specs.declared.trace.Play.{Play}
use Rattle.card_set.proofs.NumbersOfRange.{find_none}
use Rattle.play_event.specs.declared.setup.Setup.{Setup}
use Rattle.play_event.specs.Games.{game_of}
use Rattle.play_event.specs.Laws.{IsAmong}
use Rattle.play_event.specs.Past.{moves_of}
use Rattle.play_event.specs.Places.{Place, is_same_owner}
use Rattle.play_event.specs.Played.{move_said}
use Rattle.play_event.specs.Said.{Said}
use Rattle.play_event.specs.Scripts.{past_of}
use Rattle.play_event.specs.Table.{places_of}
use Rattle.play_event.specs.Trace.{TracedPlace, traced_moves, traced_places}
use Rattle.play_event.proofs.ClashLaws.{among_append}
use Rattle.play_laws.proofs.DiscardCounts.{is_out_of}
use Rattle.play_laws.proofs.InDeck.{legal_cards}
use Rattle.play_laws.proofs.PlaceGroups.{passed}
use Rattle.play_laws.proofs.PlaceLists.{rising}
use Rattle.play_laws.proofs.ApartCards.{both_different}
use Rattle.play_laws.proofs.DealtOnce.{dealt_once}
use Rattle.play_laws.proofs.StreetSplits.{is_before}
use Rattle.hand_equity.specs.Equity.{plays_board}
use Rattle.hand_equity.specs.LiveHands.{IsLive}
use Rattle.hand_equity.specs.Street.{IsReady, board_slots, deals_board, first_unknown, is_live_on, is_unknown_seat, standing_on, traced}
use Rattle.hand_equity.proofs.DealtHands.{AreFlopEvents, board_few, board_is, held_places, reached, slot_of, whole}
use Rattle.hand_equity.proofs.FlopGames.{IsFlopGame, flop_game}
use Rattle.hand_equity.proofs.SomeLive.{folded_rows, some_live}

known_few : (cards : List Slot) → length (known_among cards) ≤ length cards
known_few [] = omega arith
known_few (slots.Known card ∷ rest) = omega (arith, known_few rest)
known_few (slots.Unknown ∷ rest) = omega (arith, known_few rest)

-- a hand that deals a board on a street
record IsDealtOn (play : Play) (street : ℕ) : Type 0 where
  board : plays_board play.trace.setup.code ≡ true
  least : 2 ≤ street
  most : street ≤ 4
  some : 0 < length (dealt_slots (traced play.trace) None street)

dealt_on : (play : Play) (street : ℕ) → deals_board play.trace street ≡ true → IsDealtOn play street
dealt_on play street is =
    let dealt = length (dealt_slots (traced play.trace) None street) in
    let all = and_parts (plays_board play.trace.setup.code && (nat_le 2 street && nat_le street 4)) (nat_lt 0 dealt) is in
    let front = and_parts (plays_board play.trace.setup.code) (nat_le 2 street && nat_le street 4) all.0 in
    let range = and_parts (nat_le 2 street) (nat_le street 4) front.1 in
    record { board = front.0; least = leb-true 2 street range.0; most = leb-true street 4 range.1; some = ltb-true 0 dealt all.1 }

-- the events of a play
events_of : Play → List Said
events_of play = reverse (script_said play.hand)

same_places : (play : Play) → IsSound play → traced play.trace ≡ traced_places play.hand.setup (past_of play.hand.setup (events_of play))
unfolding events_of
same_places play sound = ap (λ (core : TraceCore). core.places) sound.trace.core

flop_events : (play : Play) (street : ℕ) → IsSound play → IsDealtOn play street → AreFlopEvents play.hand.setup play.hand.rules (events_of play)
unfolding events_of
flop_events play street sound on = record {
  legal = sound.legal.played.legal;
  game = subst IsFlopGame (ap (λ (setup : Setup). setup.code) sound.trace.same_setup) (flop_game play.trace.setup.code on.board);
}

held_few : (play : Play) (seat : ℕ) → IsSound play → length (held_slots (traced play.trace) seat) ≤ 7
unfolding events_of
held_few play seat sound =
    subst (λ (placed : List TracedPlace). length (held_slots placed seat) ≤ 7) (sym (same_places play sound))
    ((tidy_cards play.hand.setup play.hand.rules (events_of play) sound.legal.played.legal).held_few seat)

-- a seat of the trace is one of the hand
hand_seat : (play : Play) (seat : ℕ) → IsSound play → IsSeatOf play.trace.setup.stacks.seats seat → IsSeatOf play.hand.setup.stacks.seats seat
hand_seat play seat sound inside = record { first = inside.first; last = subst (λ (setup : Setup). seat ≤ setup.stacks.seats) sound.trace.same_setup inside.last }

whole_hand : (play : Play) (street seat : ℕ) → IsSound play → IsDealtOn play street → IsSeatOf play.trace.setup.stacks.seats seat → length (held_slots (traced play.trace) seat) ≡ (game_of play.trace.setup.code).hole
whole_hand play street seat sound on inside =
    let setup = play.hand.setup in
    let rules = play.hand.rules in
    let events = events_of play in
    let are = flop_events play street sound on in
    let seats = hand_seat play seat sound inside in
    let some : 0 < length (dealt_slots (traced_places setup (past_of setup events)) None street) =
    subst (λ (placed : List TracedPlace). 0 < length (dealt_slots placed None street)) (same_places play sound) on.some in
    let come = reached setup rules events street are (omega (arith, on.least)) on.most some in
    ap (λ (placed : List TracedPlace). length (held_slots placed seat)) (same_places play sound)
    ∙ whole setup rules events seat are seats.first seats.last (omega (arith, come, on.least))
    ∙ ap (λ (s : Setup). (game_of s.code).hole) (sym sound.trace.same_setup)

-- what passes one of two tests is among the dealt cards
among_either : (placed : List Place) (mine its : Place → Bool) (place : Place) → IsAmong (filter mine placed ++ filter its placed) place → IsAmong placed place
among_either placed mine its place among =
    elim (among_append (filter mine placed) (filter its placed) place among) [ inl here ↦ (passed mine placed place here).among | inr there ↦ (passed its placed place there).among ]

different_cards : (play : Play) (street seat : ℕ) → IsSound play → IsDealtOn play street → IsSeatOf play.trace.setup.stacks.seats seat → AllDifferent (known_among (held_slots (traced play.trace) seat) ++ known_among (board_slots (traced play.trace) street))
different_cards play street seat sound on inside =
    let setup = play.hand.setup in
    let rules = play.hand.rules in
    let events = events_of play in
    let are = flop_events play street sound on in
    let seats = hand_seat play seat sound inside in
    let placed = places_of setup.code (past_of setup events) in
    subst (λ (places : List TracedPlace). AllDifferent (known_among (held_slots places seat) ++ known_among (board_slots places street))) (sym (same_places play sound))
    (subst (λ (held : List Slot). AllDifferent (known_among held ++ known_among (board_slots (traced_places setup (past_of setup events)) street))) (sym (held_places setup rules events seat are seats.first seats.last))
    (subst (λ (board : List Slot). AllDifferent (known_among (map slot_of (filter (is_out_of 0 seat) placed)) ++ known_among board)) (sym (board_is setup rules events street are on.most))
    (both_different placed (is_out_of 0 seat) (is_before None (street + 1)) seat
    (rising 0 placed (legal_cards setup rules events are.legal).list.numbered)
    (λ a b in_a in_b apart. dealt_once setup rules events a b are.legal are.game.no_draw (among_either placed (is_out_of 0 seat) (is_before None (street + 1)) a in_a) (among_either placed (is_out_of 0 seat) (is_before None (street + 1)) b in_b) apart)
    (λ place is. (and_parts (is_same_owner place.owner (Some seat)) (place.discarded == 0) is).0)
    (λ place is. (and_parts (is_same_owner place.owner None) (nat_lt place.street (street + 1)) is).0))))

-- a live seat has no unknown card, if no seat is named
all_known : (play : Play) (street seat : ℕ) → first_unknown play.trace street ≡ None → IsSeatOf play.trace.setup.stacks.seats seat → is_live_on play.trace street seat ≡ true → list_any hides_card (held_slots (traced play.trace) seat) ≡ false
all_known play street seat none inside live =
    let seats = play.trace.setup.stacks.seats in
    let never = find_none (is_unknown_seat play.trace street) 1 seats seat (ap is_some none) inside.first (omega (arith, inside.last)) in
    sym (ap (λ (b : Bool). b && list_any hides_card (held_slots (traced play.trace) seat)) live) ∙ never

-- a seat is live when the board of a street is dealt
live_seat : (play : Play) (street : ℕ) → IsSound play → IsDealtOn play street → (seat : ℕ) × IsLive (standing_on play.trace street).hands seat
unfolding events_of
live_seat play street sound on =
    let setup = play.hand.setup in
    let past = past_of setup (events_of play) in
    let some : 0 < length (dealt_slots (traced_places setup past) None street) =
    subst (λ (placed : List TracedPlace). 0 < length (dealt_slots placed None street)) (same_places play sound) on.some in
    let found = some_live setup play.hand.rules (events_of play) street (flop_events play street sound on) (omega (arith, on.least)) on.most some in
    let inside : found.0 ≤ play.trace.setup.stacks.seats = subst (λ (s : Setup). found.0 ≤ s.stacks.seats) (sym sound.trace.same_setup) found.1.0.last in
    let rows : map move_said play.trace.moves ≡ traced_moves setup (moves_of past) = ap (λ (core : TraceCore). core.moves) sound.trace.core in
    (found.0, (record { first = found.1.0.first; last = inside }, sym (folded_rows setup street found.0 play.trace.moves (moves_of past) rows) ∙ found.1.1))

pub ready : (play : Play) (street : ℕ) → IsSound play → IsReady play.trace street
ready play street sound = record {
  held = λ seat. held_few play seat sound;
  board = λ dealt.
      let on = dealt_on play street dealt in
      subst (λ (placed : List TracedPlace). length (board_slots placed street) ≤ 5) (sym (same_places play sound)) (board_few play.hand.setup play.hand.rules (events_of play) street (flop_events play street sound on) on.most);
  some = λ dealt. live_seat play street sound (dealt_on play street dealt);
  complete = λ dealt none.
      let on = dealt_on play street dealt in
      let few = subst (λ (placed : List TracedPlace). length (board_slots placed street) ≤ 5) (sym (same_places play sound)) (board_few play.hand.setup play.hand.rules (events_of play) street (flop_events play street sound on) on.most) in
      record {
        board = omega (arith, few, known_few (board_slots (traced play.trace) street), (flop_game play.trace.setup.code on.board).five);
        whole = λ seat live. all_known_length (held_slots (traced play.trace) seat) (all_known play street seat none live.0 live.1) ∙ whole_hand play street seat sound on live.0;
        different = λ seat live. different_cards play street seat sound on live.0;
      };
}
