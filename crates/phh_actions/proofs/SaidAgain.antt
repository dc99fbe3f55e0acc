-- The text of an event reads as that event.
use Rattle.std.proofs.Common.{◌≡◌, ℕ, ◌≤◌, [], ◌∷◌, codes, Some, None, Ok, refl, ap, ◌∙◌, arith}
use Rattle.std.specs.List.{AllByRecursion}
use Rattle.play_event.specs.declared.event.Spelled.TheVariants as spelled
use Rattle.play_event.specs.Said as said
use Rattle.play_event.specs.Said.{Said}
use Rattle.phh_actions.specs.Action.{action_said, act_said, act_with_said, four_say, three_say, two_say, words_say}
use Rattle.phh_actions.specs.Written.{event_text, event_words}
use Rattle.phh_actions.proofs.WordsAgain.{IsWord, words_again}
use Rattle.phh_actions.proofs.PartsAgain.{amount_again, cards_again, cards_word, decimal_word, name_word, seat_again, slots_again, slots_word}
use Rattle.chip_ledger.specs.Seat.{IsSeatOf}
use Rattle.play_event.specs.Ranges.{IsInRange}
use Rattle.chip_ledger.specs.SeatsSaid.{default_name}

-- the words that each event of a form has
dealer_word : IsWord (codes "d")
dealer_word = record { some = omega arith; plain = refl }

hole_word : IsWord (codes "dh")
hole_word = record { some = omega arith; plain = refl }

board_word : IsWord (codes "db")
board_word = record { some = omega arith; plain = refl }

fold_word : IsWord (codes "f")
fold_word = record { some = omega arith; plain = refl }

call_word : IsWord (codes "cc")
call_word = record { some = omega arith; plain = refl }

raise_word : IsWord (codes "cbr")
raise_word = record { some = omega arith; plain = refl }

bring_in_word : IsWord (codes "pb")
bring_in_word = record { some = omega arith; plain = refl }

discard_word : IsWord (codes "sd")
discard_word = record { some = omega arith; plain = refl }

show_word : IsWord (codes "sm")
show_word = record { some = omega arith; plain = refl }

seat_word : (seats seat : ℕ) → seats ≤ 10 → IsSeatOf seats seat → IsWord (default_name seat)
seat_word seats seat few is = name_word seat (omega (arith, few, is.last))

-- each word of an event is a word
are_words : (seats : ℕ) (event : Said) → seats ≤ 10 → IsInRange seats event → AllByRecursion IsWord (event_words event)
are_words seats (said.Hole seat slots) few can = (dealer_word, (hole_word, (seat_word seats seat few can.0, (slots_word slots can.1, tt))))
are_words seats (said.Board cards) few can = (dealer_word, (board_word, (cards_word cards can.0, tt)))
are_words seats (said.Fold (Some seat)) few can = (seat_word seats seat few can, (fold_word, tt))
are_words seats (said.Call (Some seat) None) few can = (seat_word seats seat few can, (call_word, tt))
are_words seats (said.Raise (Some seat) (spelled.To amount)) few can = (seat_word seats seat few can.0, (raise_word, (decimal_word amount (omega (arith, can.1)), tt)))
are_words seats (said.BringIn (Some seat)) few can = (seat_word seats seat few can, (bring_in_word, tt))
are_words seats (said.Discard seat []) few can = (seat_word seats seat few can.0, (discard_word, tt))
are_words seats (said.Discard seat (slot ∷ rest)) few can = (seat_word seats seat few can.0, (discard_word, (slots_word (slot ∷ rest) (omega arith), tt)))
are_words seats (said.Show seat cards) few can = (seat_word seats seat few can.0, (show_word, (cards_word cards can.1, tt)))
are_words seats (said.Muck seat) few can = (seat_word seats seat few can, (show_word, tt))
are_words seats (said.Fold None) few can = absurd can
are_words seats (said.Call None stated) few can = absurd can
are_words seats (said.Call (Some seat) (Some chips)) few can = absurd can
are_words seats (said.Raise None amount) few can = absurd can
are_words seats (said.Raise (Some seat) (spelled.Added amount)) few can = absurd can
are_words seats (said.Raise (Some seat) (spelled.HandTotal amount)) few can = absurd can
are_words seats (said.Raise (Some seat) spelled.Unit) few can = absurd can
are_words seats (said.BringIn None) few can = absurd can

-- the words of an event read as that event
words_back : (seats : ℕ) (event : Said) → seats ≤ 10 → IsInRange seats event → words_say seats (event_words event) ≡ Ok (Some event)
unfolding words_say two_say three_say four_say act_said act_with_said
words_back seats (said.Hole seat slots) few can = rw (seat_again seats seat few can.0.first can.0.last, slots_again 7 slots can.1 can.2) refl
words_back seats (said.Board cards) few can = rw (cards_again 5 cards can.0 can.1) refl
words_back seats (said.Fold (Some seat)) few can = rw (seat_again seats seat few can.first can.last) refl
words_back seats (said.Call (Some seat) None) few can = rw (seat_again seats seat few can.first can.last) refl
words_back seats (said.Raise (Some seat) (spelled.To amount)) few can = rw (seat_again seats seat few can.0.first can.0.last, amount_again amount can.1) refl
words_back seats (said.BringIn (Some seat)) few can = rw (seat_again seats seat few can.first can.last) refl
words_back seats (said.Discard seat []) few can = rw (seat_again seats seat few can.0.first can.0.last) refl
words_back seats (said.Discard seat (slot ∷ rest)) few can = rw (seat_again seats seat few can.0.first can.0.last, slots_again 5 (slot ∷ rest) (omega arith) can.1) refl
words_back seats (said.Show seat cards) few can = rw (seat_again seats seat few can.0.first can.0.last, cards_again 7 cards can.1 can.2) refl
words_back seats (said.Muck seat) few can = rw (seat_again seats seat few can.first can.last) refl
words_back seats (said.Fold None) few can = absurd can
words_back seats (said.Call None stated) few can = absurd can
words_back seats (said.Call (Some seat) (Some chips)) few can = absurd can
words_back seats (said.Raise None amount) few can = absurd can
words_back seats (said.Raise (Some seat) (spelled.Added amount)) few can = absurd can
words_back seats (said.Raise (Some seat) (spelled.HandTotal amount)) few can = absurd can
words_back seats (said.Raise (Some seat) spelled.Unit) few can = absurd can
words_back seats (said.BringIn None) few can = absurd can

-- the text of an event reads as that event
pub event_again : (seats : ℕ) (event : Said) → seats ≤ 10 → IsInRange seats event → action_said seats (event_text event) ≡ Ok (Some event)
unfolding event_text
event_again seats event few can = ap (words_say seats) (words_again (event_words event) (are_words seats event few can)) ∙ words_back seats event few can
