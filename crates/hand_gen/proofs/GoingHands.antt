-- What comes next by the definition is legal, and what holds of a made hand so far holds with it.
use Rattle.std.proofs.Common.{◌≡◌, ℕ, ◌+◌, ◌≤◌, ◌<◌, Bool, true, false, ◌&&◌, ◌==◌, not, nat_lt, nat_le, cond, if◌then◌else◌, Some, None, List, [], ◌∷◌, ◌++◌, length, filter, take, count_by, refl, sym, ap, subst, ◌∙◌, arith, length-append}
use Rattle.std.specs.Option.{option_map_or}
use Rattle.std.proofs.lemmas.Bool.{eq-eqb, eqb-true, le-leb, le-ltb, lt-ltb, or_from}
use Rattle.std.proofs.lemmas.List.{length-map, length-take, map-append}
use Rattle.card_set.specs.declared.card.Card.{Card}
use Rattle.card_set.specs.declared.card.Slot.{Slot}
use Rattle.card_set.specs.declared.card.Slot.TheVariants as slots
use Rattle.card_set.specs.Deck.{is_same_card}
use Rattle.card_set.specs.Known.{known_slots}
use Rattle.play_event.specs.PlayedScript.{is_move_event}
use Rattle.card_set.proofs.Counting.{count_both, count_by-cons, count_by-joined}
use Rattle.play_event.specs.declared.reason.Due.{Due}
use Rattle.play_event.specs.declared.reason.Due.TheVariants as dues
use Rattle.play_event.specs.declared.setup.Setup.{Setup}
use Rattle.play_event.specs.Dealing.{board_cards_owed, cards_owed, next_to_draw}
use Rattle.play_event.specs.Due.{turn}
use Rattle.play_event.specs.HistoryRules.{history_rules}
use Rattle.play_event.specs.Laws.{AreLegal}
use Rattle.play_event.specs.NameMatching.{after_discard}
use Rattle.play_event.specs.Past.{Act, Boarded, Dealt, Discarded, Move, Moved, Past, Resolved, is_folding, moves_of}
use Rattle.play_event.specs.Places.{Place, after_fold, is_held_by}
use Rattle.play_event.specs.Reasons.{is_due_kind, is_over, why}
use Rattle.play_event.specs.Said as said
use Rattle.play_event.specs.Said.{Said}
use Rattle.play_event.specs.Scripts.{past_of, with_event}
use Rattle.play_event.specs.Showing.{has_mucked}
use Rattle.play_event.specs.Streets.{deck_of}
use Rattle.play_event.specs.Table.{places_of}
use Rattle.play_event.specs.Taken.{has_taken_card, is_in_deck}
use Rattle.play_event.specs.CardReasons.{is_owed_nothing, is_seat, is_wrong_deal}
use Rattle.play_event.proofs.DealingLaws.{undrawn_none}
use Rattle.play_event.proofs.StreetLaws.{few_streets}
use Rattle.play_laws.proofs.DueAtEvents.{turn_reaches}
use Rattle.play_laws.proofs.LegalPlaces.{LegalPast, legal_past}
use Rattle.play_laws.proofs.PastLawKept.{DrawsNext, is_next_to_draw}
use Rattle.canon_laws.proofs.CardEvents.{board_legal, board_placed, deal_legal, deal_placed, discard_legal, discard_placed}
use Rattle.hand_gen.specs.Coming.{held_by}
use Rattle.hand_gen.specs.HandSource.{HandSource, after_cards, draw_of, full_deck, next_cards}
use Rattle.hand_gen.proofs.CardsOut.{IsFewDealt, IsStreet, all_drawn, board_few, board_fits, cards_out, deal_few, deck_enough, discard_few, discards, move_few, none_dealt, one_drawn, owed_fits}
use Rattle.hand_gen.proofs.FewMoves.{Takes, moves_left, one_less}
use Rattle.hand_gen.proofs.FreshCards.{none_taken}
use Rattle.hand_gen.proofs.KnownCards.{AreKnown, borne, cards_known, deal_borne, discard_borne, few_enough, fold_borne, has_places, kept_known, none_misplaced}
use Rattle.hand_gen.proofs.MovesTake.{made_to}
use Rattle.hand_gen.proofs.BetRaised.{AreTaken}
use Rattle.hand_gen.proofs.StockCounts.{all_in_deck, deck_length, once_in_deck, taken_counts, taken_length}
use Rattle.chip_ledger.specs.Seat.{IsSeatOf}

-- what holds of the past of a made hand, with the cards that are left in the deck
pub record IsDealtFrom (setup : Setup) (past : Past) (deck : List Card) : Type 0 where
  pub dealt : List Card
  pub lie : borne (places_of setup.code past) ≡ known_slots dealt
  pub cards : (p : Card → Bool) → count_by p dealt + count_by p deck ≡ count_by p (full_deck setup.code)
  pub out : length dealt ≡ cards_out past
  pub few : IsFewDealt setup past
  pub drawn : discards past ≤ all_drawn setup past
  pub taken : AreTaken setup (moves_of past)
  pub moves : length (moves_of past) + moves_left setup (moves_of past) ≤ moves_left setup []
  pub unmucked : (seat : ℕ) → has_mucked past seat ≡ false

abbrev pub is_other : Said → Bool
is_other event = not (is_move_event event)

-- and of its events, the newest first
pub record IsGoing (setup : Setup) (events : List Said) (deck : List Card) : Type 0 where
  pub legal : AreLegal setup history_rules events
  pub others : count_by is_other events ≤ cards_out (past_of setup events) + discards (past_of setup events)
  pub state : IsDealtFrom setup (past_of setup events) deck

-- before any event
pub at_start : (setup : Setup) → IsGoing setup [] (full_deck setup.code)
at_start setup = record {
  legal = tt;
  others = omega arith;
  state = record {
    dealt = [];
    lie = refl;
    cards = λ p. omega arith;
    out = refl;
    few = none_dealt setup;
    drawn = omega arith;
    taken = tt;
    moves = omega arith;
    unmucked = λ seat. refl;
  };
}

not_none : (n : ℕ) → 0 < n → (n == 0) ≡ false
not_none n some = by_test (n == 0) refl
  where
    by_test : (b : Bool) → (n == 0) ≡ b → b ≡ false
    by_test true is = absurd (omega (arith, some, eqb-true n 0 is))
    by_test false is = refl

right_count : (owed count : ℕ) → count ≡ owed → 0 < owed → is_wrong_deal owed count ≡ false
right_count owed count same some = or_from (count == 0) (nat_lt owed count) (not_none count (omega (arith, same, some))) (le-ltb owed count (omega (arith, same)))

known_joined : (xs ys : List Card) → known_slots (xs ++ ys) ≡ known_slots xs ++ known_slots ys
known_joined xs ys = map-append (λ card. slots.Known card) xs ys

take_few : {X : Type 0} (count : ℕ) (xs : List X) → length (take count xs) ≤ count
take_few count xs = omega (arith, length-take count xs)

module _ (setup : Setup) (four : setup.stacks.seats ≤ 4) (events : List Said) (stock : HandSource) (going : IsGoing setup events stock.deck) where
  abbrev now : Past
  now = past_of setup events

  abbrev placed : List Place
  placed = places_of setup.code (past_of setup events)

  abbrev state : IsDealtFrom setup (past_of setup events) stock.deck
  state = going.state

  law : LegalPast setup (past_of setup events)
  law = legal_past setup history_rules events going.legal

  -- what is due is due on a street of the game
  pub on_street : (street : ℕ) (due : Due) → turn setup now ≡ (street, due) → IsStreet setup street
  on_street street due turned =
      let reach = turn_reaches setup now law.past.within in
      let same : (turn setup now).0 ≡ street = ap (λ (t : ℕ × Due). t.0) turned in
      record { first = omega (arith, law.past.since, reach.on, same); last = omega (arith, reach.within, same) }

  -- one more event
  more : (event : Said) (resolved : Resolved) (deck : List Card) → with_event setup event now ≡ resolved ∷ now → why setup history_rules now event ≡ None → count_by is_other (event ∷ events) ≤ cards_out (resolved ∷ now) + discards (resolved ∷ now) → IsDealtFrom setup (resolved ∷ now) deck → IsGoing setup (event ∷ events) deck
  more event resolved deck comes legal others dealt = record {
    legal = (legal, going.legal);
    others = omega (arith, others, ap cards_out comes, ap discards comes);
    state = subst (λ (p : Past). IsDealtFrom setup p deck) (sym comes) dealt;
  }

  -- the stock has enough cards, none of which is on the table
  pub deck_is : length state.dealt + length stock.deck ≡ deck_of setup.code
  deck_is =
      let p : Card → Bool = is_in_deck setup.code in
      omega (arith, state.cards p, state.cards (λ card. not (p card)), count_both p state.dealt, count_both p stock.deck, count_both p (full_deck setup.code), deck_length setup.code)

  in_source : (count : ℕ) → count + cards_out now ≤ deck_of setup.code → count ≤ length stock.deck
  in_source count fits = omega (arith, fits, state.out, deck_is)

  free_cards : (count street : ℕ) → count ≤ length stock.deck → has_taken_card setup.code placed street (known_slots (next_cards count stock)) ≡ false
  free_cards count street enough =
      let foreign : Card → Bool = λ card. not (is_in_deck setup.code card) in
      none_taken setup.code placed state.dealt (next_cards count stock) street state.lie
      (omega (arith, all_in_deck setup.code, state.cards foreign, taken_counts foreign count stock enough))
      (λ card. omega (arith, once_in_deck setup.code card, state.cards (is_same_card card), taken_counts (is_same_card card) count stock enough))

  still_all : (count : ℕ) → count ≤ length stock.deck → (p : Card → Bool) → count_by p (state.dealt ++ next_cards count stock) + count_by p (after_cards count stock).deck ≡ count_by p (full_deck setup.code)
  still_all count enough p = omega (arith, state.cards p, taken_counts p count stock enough, count_by-joined p state.dealt (next_cards count stock))

  -- a deal to a seat
  pub hole_goes : (street : ℕ) (due : Due) (seat : ℕ) → turn setup now ≡ (street, due) → is_over due ≡ false → ((cards : List Slot) → is_due_kind setup.code due (said.Hole seat cards) ≡ true) → IsSeatOf setup.stacks.seats seat → 0 < cards_owed setup now street seat
      → IsGoing setup (said.Hole seat (known_slots (next_cards (cards_owed setup now street seat) stock)) ∷ events) (after_cards (cards_owed setup now street seat) stock).deck
  hole_goes street due seat turned going_on kind in_hand some =
      let count : ℕ = cards_owed setup now street seat in
      let cards : List Card = next_cards count stock in
      let dealt : List Slot = known_slots cards in
      let long : length dealt ≡ count = length-map cards (λ card. slots.Known card) ∙ taken_length count stock in
      let few : IsFewDealt setup (Dealt street seat dealt ∷ now) = deal_few setup now street seat dealt state.few (on_street street due turned) in_hand (omega (arith, long, owed_fits setup now street seat state.few)) in
      let enough : count ≤ length stock.deck = in_source count (omega (arith, long, deck_enough setup (Dealt street seat dealt ∷ now) four few)) in
      more (said.Hole seat dealt) (Dealt street seat dealt) (after_cards count stock).deck (deal_placed setup now street due seat dealt turned)
      (deal_legal setup history_rules now street due seat dealt turned going_on (kind dealt) (owed_some count in_hand some) (right_count count (length dealt) long some) (free_cards count street enough))
      (omega (arith, going.others, count_by-cons is_other (said.Hole seat dealt) events, long, some))
      (record {
        dealt = state.dealt ++ cards;
        lie = deal_borne setup.code (Some seat) street dealt placed ∙ ap (λ l. l ++ dealt) state.lie ∙ sym (known_joined state.dealt cards);
        cards = still_all count enough;
        out = omega (arith, length-append state.dealt cards, taken_length count stock, long, state.out);
        few = few;
        drawn = state.drawn;
        taken = state.taken;
        moves = state.moves;
        unmucked = state.unmucked;
      })
    where
      owed_some : (count : ℕ) → IsSeatOf setup.stacks.seats seat → 0 < cards_owed setup now street seat → is_owed_nothing setup now street seat ≡ false
      owed_some count is_in owed =
          or_from (not (is_seat setup seat)) (cards_owed setup now street seat == 0)
          (ap not (ap (λ b. b && nat_le seat setup.stacks.seats) (le-leb 1 seat is_in.first) ∙ le-leb seat setup.stacks.seats is_in.last))
          (not_none (cards_owed setup now street seat) owed)

  -- a deal to the board
  pub board_goes : (street : ℕ) → turn setup now ≡ (street, dues.Deal street) → 0 < board_cards_owed setup now street
      → IsGoing setup (said.Board (next_cards (board_cards_owed setup now street) stock) ∷ events) (after_cards (board_cards_owed setup now street) stock).deck
  board_goes street turned some =
      let count : ℕ = board_cards_owed setup now street in
      let cards : List Card = next_cards count stock in
      let long : length cards ≡ count = taken_length count stock in
      let few : IsFewDealt setup (Boarded street cards ∷ now) = board_few setup now street cards state.few (on_street street (dues.Deal street) turned) (omega (arith, long, board_fits setup now street state.few)) in
      let enough : count ≤ length stock.deck = in_source count (omega (arith, long, deck_enough setup (Boarded street cards ∷ now) four few)) in
      more (said.Board cards) (Boarded street cards) (after_cards count stock).deck (board_placed setup now street (dues.Deal street) cards turned)
      (board_legal setup history_rules now street cards turned (lt-ltb 0 _ (omega (arith, some))) (right_count count (length cards) long some) (free_cards count street enough))
      (omega (arith, going.others, count_by-cons is_other (said.Board cards) events, long, some))
      (record {
        dealt = state.dealt ++ cards;
        lie = deal_borne setup.code None street (known_slots cards) placed ∙ ap (λ l. l ++ known_slots cards) state.lie ∙ sym (known_joined state.dealt cards);
        cards = still_all count enough;
        out = omega (arith, length-append state.dealt cards, taken_length count stock, state.out);
        few = few;
        drawn = state.drawn;
        taken = state.taken;
        moves = state.moves;
        unmucked = state.unmucked;
      })

  pub all_known : AreKnown (borne placed)
  all_known = subst AreKnown (sym state.lie) (cards_known state.dealt)

  -- a discard
  pub discard_goes : (street seat : ℕ) → turn setup now ≡ (street, dues.Draw street) → next_to_draw setup now street ≡ Some seat → IsGoing setup (said.Discard seat (take (draw_of 3 stock) (held_by setup now seat)) ∷ events) stock.deck
  discard_goes street seat turned next =
      let count : ℕ = draw_of 3 stock in
      let two : count ≤ 2 = omega arith in
      let names : List Slot = take count (held_by setup now seat) in
      let draws : DrawsNext setup now street seat = is_next_to_draw setup now street seat next in
      let on = on_street street (dues.Draw street) turned in
      more (said.Discard seat names) (Discarded street seat names) stock.deck (discard_placed setup now street (dues.Draw street) seat names turned)
      (discard_legal setup history_rules now street seat names turned
      (ap (λ n. option_map_or (λ next. next == seat) n false) next ∙ eq-eqb seat seat refl)
      (few_enough seat count placed)
      (none_misplaced setup.code placed (after_discard street seat names placed) all_known)
      (has_places (filter (is_held_by seat) placed) count (kept_known (is_held_by seat) placed all_known)))
      (omega (arith, going.others, count_by-cons is_other (said.Discard seat names) events))
      (record {
        dealt = state.dealt;
        lie = discard_borne street seat names placed all_known ∙ state.lie;
        cards = state.cards;
        out = state.out;
        few = discard_few setup now street seat names state.few (undrawn_none now street seat draws.undrawn) (omega (arith, two, take_few count (held_by setup now seat)));
        drawn = omega (arith, state.drawn, one_drawn setup now street seat names on.first (omega (arith, on.last, few_streets setup.code)) (record { first = draws.least; last = draws.most }) draws.undrawn);
        taken = state.taken;
        moves = state.moves;
        unmucked = state.unmucked;
      })

  -- a move
  pub move_goes : (street seat : ℕ) (act : Act) (target : ℕ) (event : Said) → IsSeatOf setup.stacks.seats seat → is_move_event event ≡ true → Takes setup (made_to setup (moves_of now) street seat act target) (moves_of now) → with_event setup event now ≡ Moved (made_to setup (moves_of now) street seat act target) ∷ now → why setup history_rules now event ≡ None → IsGoing setup (event ∷ events) stock.deck
  move_goes street seat act target event in_hand moving takes comes legal =
      let move : Move = made_to setup (moves_of now) street seat act target in
      more event (Moved move) stock.deck comes legal
      (omega (arith, going.others, count_by-cons is_other event events, ap {B = ℕ} (λ b. cond (not b) 1 0) moving))
      (record {
        dealt = state.dealt;
        lie = by_fold (is_folding act);
        cards = state.cards;
        out = state.out;
        few = move_few setup now move state.few;
        drawn = state.drawn;
        taken = (record { from = refl; seat = in_hand }, state.taken);
        moves = omega (arith, state.moves, one_less setup move (moves_of now) in_hand.first in_hand.last takes);
        unmucked = state.unmucked;
      })
    where
      by_fold : (b : Bool) → borne (if b then after_fold seat placed else placed) ≡ known_slots state.dealt
      by_fold true = fold_borne seat placed ∙ state.lie
      by_fold false = state.lie
