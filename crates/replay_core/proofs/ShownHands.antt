-- At the end of a hand each shown seat has cards that the game's pick can use, and the rows show
-- what the trace shows.
use Rattle.std.proofs.Common.{◌≡◌, ℕ, ◌+◌, ◌≤◌, true, false, ◌&&◌, ◌==◌, not, nat_le, Some, None, List, ◌++◌, filter, length, sym, ap, subst, ◌∙◌, arith}
use Rattle.std.specs.List.{list_any}
use Rattle.std.proofs.lemmas.List.{length-map}
use Rattle.canon_laws.proofs.TracedSlots.{discarded_same}
use Rattle.canon_laws.proofs.TraceOrder.{finals_of}
use Rattle.canon_laws.proofs.HeldSame.{any_held, held_script}
use Rattle.play_event.specs.Held.{held_slots}
use Rattle.card_set.specs.declared.card.Card.{Card}
use Rattle.card_set.specs.declared.card.Slot.TheVariants as slots
use Rattle.card_set.specs.declared.row.CardRow.{CardRow}
use Rattle.card_set.specs.Different.{AllDifferent}
use Rattle.card_set.specs.Known.{known_among}
use Rattle.card_set.specs.Row.{cards_of}
use Rattle.chip_ledger.specs.declared.live_row.LiveRow.{LiveRow}
use Rattle.chip_ledger.specs.LiveRow.{flag_of, flagged}
use Rattle.chip_ledger.specs.Seat.{seats_of}
use Rattle.deal_core.specs.Board.{board_cards}
use Rattle.deal_core.proofs.Boards.{board_held}
use Rattle.hand_canon.specs.LegalHand.{showdown_in}
use Rattle.play_event.specs.TraceCore.{core_of}
use Rattle.card_set.specs.declared.pick.Pick.{Pick}
use Rattle.play_event.specs.declared.hands.HandRow.{HandRow}
use Rattle.play_event.specs.declared.setup.Rules.{Rules}
use Rattle.play_event.specs.declared.setup.Setup.{Setup}
use Rattle.play_event.specs.Due.{is_unfinished, turn}
use Rattle.play_event.specs.Games.{game_of, street_count}
use Rattle.play_event.specs.Laws.{AreLegal}
use Rattle.play_event.specs.Past.{Past, moves_of}
use Rattle.play_event.specs.Said.{Said}
use Rattle.play_event.specs.Scripts.{past_of}
use Rattle.play_event.specs.SeatSlots.{slots_of_hand}
use Rattle.play_event.specs.Seats.{all_seats, is_live, live_count}
use Rattle.play_event.specs.Showing.{has_mucked}
use Rattle.play_event.specs.Table.{places_of}
use Rattle.play_event.specs.Trace.{has_unknown_card, is_contested, is_mucked, is_shown}
use Rattle.card_set.proofs.NumbersOfRange.{filter_range}
use Rattle.play_laws.specs.ContestedEnd.{EndContested}
use Rattle.play_laws.proofs.Different.{cards_differ}
use Rattle.play_laws.proofs.WholeBoards.{whole_boards}
use Rattle.play_laws.proofs.WholeHands.{whole_hands}
use Rattle.showdown_split.specs.Hands.{holding, showdown_of}
use Rattle.showdown_split.specs.Playable.{ArePlayable}
use Rattle.showdown_split.proofs.Flagged.{is_flagged-flag}
use Rattle.chip_ledger.proofs.SeatLists.{count_seats}
use Rattle.trace_laws.proofs.ShownAtEnd.{shown_seat, traced_board}
use Rattle.variant_table.specs.Variants.{IsUsable}
use Rattle.replay_core.specs.EndRows.{flag_count, is_mucked_by, is_shown_by}
use Rattle.replay_core.specs.Showdowns.{ShowTheSame}
use Rattle.card_set.proofs.KnownCards.{all_known, all_known_length}

-- a hand is played to its end, and the rows agree with it
pub record IsEnd (setup : Setup) (rules : Rules) (events : List Said) (live mucked unknown shown : LiveRow) (hands : HandRow) (board : CardRow) : Type 0 where
  pub legal : AreLegal setup rules events
  pub finished : is_unfinished (turn setup (past_of setup events)).1 ≡ false
  pub live_seats : live.seats ≡ setup.stacks.seats
  pub shown_seats : shown.seats ≡ live.seats
  pub lives : (seat : ℕ) → 1 ≤ seat → seat ≤ setup.stacks.seats → flag_of live seat ≡ is_live (moves_of (past_of setup events)) seat
  pub mucks : (seat : ℕ) → 1 ≤ seat → seat ≤ setup.stacks.seats → flag_of mucked seat ≡ has_mucked (past_of setup events) seat
  pub unknowns : (seat : ℕ) → 1 ≤ seat → seat ≤ setup.stacks.seats → flag_of unknown seat ≡ has_unknown_card setup (past_of setup events) seat
  pub shows : (seat : ℕ) → 1 ≤ seat → seat ≤ live.seats → flag_of shown seat ≡ is_shown_by live mucked unknown seat
  pub holds : (seat : ℕ) → 1 ≤ seat → seat ≤ setup.stacks.seats → slots_of_hand hands seat ≡ held_slots (Some seat) (places_of setup.code (past_of setup events))
  pub boards : cards_of board ≡ board_cards (past_of setup events)

live_as : (setup : Setup) (rules : Rules) (events : List Said) (live mucked unknown shown : LiveRow) (hands : HandRow) (board : CardRow) → IsEnd setup rules events live mucked unknown shown hands board → flag_count live ≡ live_count setup (moves_of (past_of setup events))
live_as setup rules events live mucked unknown shown hands board ends =
    ap (λ (n : ℕ). Rattle.std.proofs.Common.count_by (flag_of live) (seats_of n)) ends.live_seats
    ∙ count_seats (flag_of live) (is_live (moves_of (past_of setup events))) setup.stacks.seats ends.lives

-- the flags are those of the past
pub shown_as : (setup : Setup) (rules : Rules) (events : List Said) (live mucked unknown shown : LiveRow) (hands : HandRow) (board : CardRow) → IsEnd setup rules events live mucked unknown shown hands board → (seat : ℕ) → 1 ≤ seat → seat ≤ setup.stacks.seats → flag_of shown seat ≡ is_shown setup (past_of setup events) seat
shown_as setup rules events live mucked unknown shown hands board ends seat low high =
    ends.shows seat low (omega (arith, high, ends.live_seats))
    ∙ ap (λ n. nat_le 2 n && flag_of live seat && not (flag_of mucked seat) && not (flag_of unknown seat)) (live_as setup rules events live mucked unknown shown hands board ends)
    ∙ ap (λ b. is_contested setup (past_of setup events) && b && not (flag_of mucked seat) && not (flag_of unknown seat)) (ends.lives seat low high)
    ∙ ap (λ b. is_contested setup (past_of setup events) && is_live (moves_of (past_of setup events)) seat && not b && not (flag_of unknown seat)) (ends.mucks seat low high)
    ∙ ap (λ b. is_contested setup (past_of setup events) && is_live (moves_of (past_of setup events)) seat && not (has_mucked (past_of setup events) seat) && not b) (ends.unknowns seat low high)

pub shown_are : (setup : Setup) (rules : Rules) (events : List Said) (live mucked unknown shown : LiveRow) (hands : HandRow) (board : CardRow) → IsEnd setup rules events live mucked unknown shown hands board → flagged shown ≡ filter (is_shown setup (past_of setup events)) (all_seats setup)
shown_are setup rules events live mucked unknown shown hands board ends =
    ap (λ (n : ℕ). filter (flag_of shown) (seats_of n)) (ends.shown_seats ∙ ends.live_seats)
    ∙ filter_range (flag_of shown) (is_shown setup (past_of setup events)) 1 setup.stacks.seats (λ seat low high. shown_as setup rules events live mucked unknown shown hands board ends seat low (omega (arith, high)))

pub mucked_are : (setup : Setup) (rules : Rules) (events : List Said) (live mucked unknown shown : LiveRow) (hands : HandRow) (board : CardRow) (row : LiveRow) → IsEnd setup rules events live mucked unknown shown hands board → row.seats ≡ live.seats → ((seat : ℕ) → 1 ≤ seat → seat ≤ live.seats → flag_of row seat ≡ is_mucked_by live shown seat) → flagged row ≡ filter (is_mucked setup (past_of setup events)) (all_seats setup)
mucked_are setup rules events live mucked unknown shown hands board row ends same flags =
    ap (λ (n : ℕ). filter (flag_of row) (seats_of n)) (same ∙ ends.live_seats)
    ∙ filter_range (flag_of row) (is_mucked setup (past_of setup events)) 1 setup.stacks.seats (λ seat low high.
    let most : seat ≤ setup.stacks.seats = omega (arith, high) in
    flags seat low (omega (arith, most, ends.live_seats))
    ∙ ap (λ n. nat_le 2 n && flag_of live seat && not (flag_of shown seat)) (live_as setup rules events live mucked unknown shown hands board ends)
    ∙ ap (λ b. is_contested setup (past_of setup events) && b && not (flag_of shown seat)) (ends.lives seat low most)
    ∙ ap (λ b. is_contested setup (past_of setup events) && is_live (moves_of (past_of setup events)) seat && not b) (shown_as setup rules events live mucked unknown shown hands board ends seat low most))

-- the cards of a shown seat are a whole hand
whole_hand : (setup : Setup) (rules : Rules) (events : List Said) (seat : ℕ) → AreLegal setup rules events → is_unfinished (turn setup (past_of setup events)).1 ≡ false → 1 ≤ seat → seat ≤ setup.stacks.seats → is_shown setup (past_of setup events) seat ≡ true → length (known_among (held_slots (Some seat) (places_of setup.code (past_of setup events)))) ≡ (game_of setup.code).hole
whole_hand setup rules events seat legal finished low high is =
    let past : Past = past_of setup events in
    let it = shown_seat setup past seat is in
    all_known_length (held_slots (Some seat) (places_of setup.code past)) (sym (any_held seat (places_of setup.code past)) ∙ it.known)
    ∙ whole_hands setup rules events seat (record { legal = legal; several = it.several; finished = finished }) (record { least = low; most = high; live = it.live })

board_known : (code : Rattle.play_event.specs.declared.code.Code.Code) (past : Past) → known_among (held_slots None (places_of code past)) ≡ board_cards past
board_known code past = ap known_among (board_held code past) ∙ all_known (board_cards past)

whole_board : (setup : Setup) (rules : Rules) (events : List Said) → EndContested setup rules events → length (board_cards (past_of setup events)) ≡ (game_of setup.code).board
whole_board setup rules events ends =
    sym (length-map (board_cards (past_of setup events)) (λ (card : Card). slots.Known card))
    ∙ ap length (sym (board_held setup.code (past_of setup events)))
    ∙ whole_boards setup rules events ends

-- the pick can use the cards of each shown seat, and they are different
pub playable : (setup : Setup) (rules : Rules) (events : List Said) (live mucked unknown shown : LiveRow) (hands : HandRow) (board : CardRow) (held : ℕ) (pick : Pick) → IsEnd setup rules events live mucked unknown shown hands board → IsUsable (game_of setup.code) held pick → ArePlayable held pick hands board shown
playable setup rules events live mucked unknown shown hands board held pick ends usable_by =
    let past : Past = past_of setup events in
    let cards : ℕ → List Card = λ n. known_among (held_slots (Some n) (places_of setup.code past)) in
    let within : (n : ℕ) → n ≤ shown.seats → n ≤ setup.stacks.seats = λ n last. omega (arith, last, ends.shown_seats, ends.live_seats) in
    let same : (n : ℕ) → 1 ≤ n → n ≤ shown.seats → holding hands n ≡ cards n = λ n low last. ap known_among (ends.holds n low (within n last)) in
    record {
      usable = λ n low last flag.
          let is = sym (shown_as setup rules events live mucked unknown shown hands board ends n low (within n last)) ∙ flag in
          let contested : EndContested setup rules events = record { legal = ends.legal; several = (shown_seat setup past n is).several; finished = ends.finished } in
          usable_by (holding hands n) (cards_of board)
          (ap length (same n low last) ∙ whole_hand setup rules events n ends.legal ends.finished low (within n last) is)
          (ap length ends.boards ∙ whole_board setup rules events contested);
      different = λ n low last flag.
          subst AllDifferent
          (ap (λ l. l ++ known_among (held_slots None (places_of setup.code past))) (sym (same n low last)) ∙ ap (λ l. holding hands n ++ l) (board_known setup.code past ∙ sym ends.boards))
          (cards_differ setup rules events n ends.legal);
    }

-- the rows show what the trace shows
pub rows_show : (setup : Setup) (rules : Rules) (events : List Said) (live mucked unknown shown : LiveRow) (hands : HandRow) (board : CardRow) → IsEnd setup rules events live mucked unknown shown hands board → ShowTheSame (showdown_of hands board shown) (showdown_in setup (core_of setup (past_of setup events)))
rows_show setup rules events live mucked unknown shown hands board ends =
    let past : Past = past_of setup events in
    let within : (n : ℕ) → n ≤ shown.seats → n ≤ setup.stacks.seats = λ n last. omega (arith, last, ends.shown_seats, ends.live_seats) in
    record {
      seats = ends.shown_seats ∙ ends.live_seats;
      shown = λ seat low high. sym (is_flagged-flag shown seat low) ∙ ap (list_any (λ n. n == seat)) (shown_are setup rules events live mucked unknown shown hands board ends);
      holding = λ seat low high flag.
          let is = sym (shown_as setup rules events live mucked unknown shown hands board ends seat low (within seat high)) ∙ flag in
          ap known_among (ends.holds seat low (within seat high)
          ∙ sym (discarded_same (finals_of setup (places_of setup.code past) (street_count setup.code)) seat 0
          ∙ held_script setup rules events seat ends.legal low (within seat high) (shown_seat setup past seat is).live));
      board = ends.boards ∙ sym (ap known_among (traced_board setup rules events ends.legal) ∙ board_known setup.code past);
    }
