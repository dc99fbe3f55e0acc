-- A script that was played to its end: betting and cards agree with the rules for its past.
use Rattle.std.proofs.Common.{◌≡◌, ℕ, ◌≤◌, false, Some, List, reverse, sym, ap, subst, ◌∙◌, arith}
use Rattle.betting_numbers.specs.declared.betting_state.BettingState.{BettingState}
use Rattle.betting_numbers.specs.Standing as betting
use Rattle.card_places.specs.declared.card_state.CardState.{CardState}
use Rattle.play_event.specs.Held.{held_slots}
use Rattle.card_set.specs.declared.row.CardRow.{CardRow}
use Rattle.card_set.specs.Row.{cards_of}
use Rattle.chip_ledger.specs.declared.live_row.LiveRow.{LiveRow}
use Rattle.chip_ledger.specs.declared.seat_row.SeatRow.{SeatRow}
use Rattle.chip_ledger.specs.LiveRow.{flag_of}
use Rattle.chip_ledger.specs.SeatRow.{amount_of}
use Rattle.deal_core.specs.Board.{board_cards}
use Rattle.deal_core.specs.Standing as cards
use Rattle.play_event.specs.PlayedScript.{IsPlayed}
use Rattle.replay_core.specs.Together.{StandTogether}
use Rattle.play_event.specs.declared.hands.HandRow.{HandRow}
use Rattle.play_event.specs.declared.code.Code.{Code}
use Rattle.play_event.specs.declared.reason.Due.{Due}
use Rattle.play_event.specs.declared.setup.Rules.{Rules}
use Rattle.play_event.specs.declared.setup.Setup.{Setup}
use Rattle.play_event.specs.Chips.{chips_left, chips_put}
use Rattle.play_event.specs.Due.{is_unfinished, turn}
use Rattle.play_event.specs.Laws.{AreLegal}
use Rattle.play_event.specs.Past.{Past, moves_of}
use Rattle.play_event.specs.Said.{Said}
use Rattle.play_event.specs.Scripts.{past_at_end}
use Rattle.play_event.specs.SeatSlots.{slots_of_hand}
use Rattle.play_event.specs.Seats.{is_live}
use Rattle.play_event.specs.Showing.{has_mucked}
use Rattle.play_event.specs.Table.{places_of}
use Rattle.play_event.specs.Trace.{has_unknown_card}
use Rattle.replay_core.specs.AtEnd.{StandAtEnd}
use Rattle.replay_core.specs.EndRows.{is_shown_by}
use Rattle.replay_core.proofs.ShownHands.{IsEnd}
use Rattle.play_event.proofs.ScriptLaws.{at_end}
use Rattle.chip_ledger.specs.Seat.{IsSeatOf}

-- after all events of a script, if it may end there, betting and cards describe its end
pub ended : (setup : Setup) (rules : Rules) (script : List Said) (first b : BettingState) (t : CardState) (due : Due) → first.setup ≡ setup → first.rules ≡ rules → b.setup ≡ first.setup
    → AreLegal first.setup first.rules (reverse script) → StandTogether b t (past_at_end first.setup script) → ((past : Past) → StandTogether b t past → due ≡ (turn b.setup past).1) → is_unfinished due ≡ false → StandAtEnd setup rules script b t
ended setup rules script first b t due start same_rules kept legal stands due_is finished =
    let together : StandTogether b t (past_at_end setup script) = subst (λ (s : Setup). StandTogether b t (past_at_end s script)) start stands in
    record {
      same_setup = kept ∙ start;
      legal = subst (λ (r : Rules). AreLegal setup r (reverse script)) same_rules (subst (λ (s : Setup). AreLegal s first.rules (reverse script)) start legal);
      stands = together;
      finished = sym (ap is_unfinished (due_is (past_at_end setup script) together ∙ ap (λ (s : Setup). (turn s (past_at_end setup script)).1) (kept ∙ start))) ∙ finished;
    }

module _ (setup : Setup) (rules : Rules) (script : List Said) (b : BettingState) (t : CardState) (ends : StandAtEnd setup rules script b t) where
  abbrev past : Past
  past = past_at_end setup script

  pub played : IsPlayed setup rules script
  played = record { legal = ends.legal; complete = ap (λ (p : Past). is_unfinished (turn setup p).1) (at_end setup script) ∙ ends.finished }

  seats_are : b.setup.stacks.seats ≡ setup.stacks.seats
  seats_are = ap (λ (s : Setup). s.stacks.seats) ends.same_setup

  seat_of : (seat : ℕ) → 1 ≤ seat → seat ≤ setup.stacks.seats → IsSeatOf b.setup.stacks.seats seat
  seat_of seat low high = record { first = low; last = omega (arith, high, seats_are) }

  card_seat : (seat : ℕ) → 1 ≤ seat → seat ≤ setup.stacks.seats → IsSeatOf t.seats seat
  card_seat seat low high = record { first = low; last = omega (arith, high, seats_are, ends.stands.seats) }

  pub puts_as : (puts : SeatRow) → ((p : Past) → betting.StandsFor b p → (seat : ℕ) → IsSeatOf b.setup.stacks.seats seat → amount_of puts seat ≡ chips_put b.setup (moves_of p) seat) → (seat : ℕ) → 1 ≤ seat → seat ≤ setup.stacks.seats → amount_of puts seat ≡ chips_put setup (moves_of past) seat
  puts_as puts added seat low high =
      added past ends.stands.betting seat (seat_of seat low high) ∙ ap (λ (s : Setup). chips_put s (moves_of past) seat) ends.same_setup

  pub left_as : (left : SeatRow) → ((p : Past) → betting.StandsFor b p → (seat : ℕ) → IsSeatOf b.setup.stacks.seats seat → amount_of left seat ≡ chips_left b.setup (moves_of p) seat) → (seat : ℕ) → 1 ≤ seat → seat ≤ setup.stacks.seats → amount_of left seat ≡ chips_left setup (moves_of past) seat
  left_as left added seat low high =
      added past ends.stands.betting seat (seat_of seat low high) ∙ ap (λ (s : Setup). chips_left s (moves_of past) seat) ends.same_setup

  pub lives_as : (live : LiveRow) → ((p : Past) → betting.StandsFor b p → (seat : ℕ) → IsSeatOf b.setup.stacks.seats seat → flag_of live seat ≡ is_live (moves_of p) seat) → (seat : ℕ) → 1 ≤ seat → seat ≤ setup.stacks.seats → flag_of live seat ≡ is_live (moves_of past) seat
  lives_as live added seat low high = added past ends.stands.betting seat (seat_of seat low high)

  pub is_end : (code : Code) (live mucked unknown shown : LiveRow) (hands : HandRow) (board : CardRow) → setup.code ≡ code → live.seats ≡ b.setup.stacks.seats → shown.seats ≡ live.seats
      → ((p : Past) → betting.StandsFor b p → (seat : ℕ) → IsSeatOf b.setup.stacks.seats seat → flag_of live seat ≡ is_live (moves_of p) seat)
      → ((p : Past) (seat : ℕ) → cards.StandsFor t p → IsSeatOf t.seats seat → flag_of mucked seat ≡ has_mucked p seat)
      → ((s : Setup) (p : Past) (seat : ℕ) → s.code ≡ code → cards.StandsFor t p → IsSeatOf t.seats seat → flag_of unknown seat ≡ has_unknown_card s p seat)
      → ((seat : ℕ) → 1 ≤ seat → seat ≤ live.seats → flag_of shown seat ≡ is_shown_by live mucked unknown seat)
      → ((p : Past) (seat : ℕ) → cards.StandsFor t p → IsSeatOf t.seats seat → slots_of_hand hands seat ≡ held_slots (Some seat) (places_of code p))
      → ((p : Past) → cards.StandsFor t p → cards_of board ≡ board_cards p)
      → IsEnd setup rules (reverse script) live mucked unknown shown hands board
  is_end code live mucked unknown shown hands board code_is live_seats shown_seats lives mucks unknowns shows holds boards = record {
    legal = ends.legal;
    finished = ends.finished;
    live_seats = live_seats ∙ seats_are;
    shown_seats = shown_seats;
    lives = lives_as live lives;
    mucks = λ seat low high. mucks past seat ends.stands.cards (card_seat seat low high);
    unknowns = λ seat low high. unknowns setup past seat code_is ends.stands.cards (card_seat seat low high);
    shows = shows;
    holds = λ seat low high. holds past seat ends.stands.cards (card_seat seat low high) ∙ ap (λ game. held_slots (Some seat) (places_of game past)) (sym code_is);
    boards = boards past ends.stands.cards;
  }
