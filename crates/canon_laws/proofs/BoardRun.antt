-- The canonical deal of the board.
use Rattle.std.proofs.Common.{◌≡◌, ℕ, ◌<◌, false, ◌==◌, nat_lt, inl, inr, Some, None, List, [], ◌∷◌, map, length, refl, sym, ap, subst, arith, if◌then◌else◌}
use Rattle.std.specs.List.{list_any}
use Rattle.std.proofs.lemmas.Bool.{or_right, or_from, lt-ltb, le-ltb, ne_eqb}
use Rattle.card_set.specs.declared.card.Card.{Card}
use Rattle.card_set.specs.declared.card.Slot.{Slot}
use Rattle.card_set.specs.declared.card.Slot.TheVariants as slots
use Rattle.play_event.specs.declared.reason.Due.TheVariants as dues
use Rattle.play_event.specs.declared.setup.Setup.{Setup}
use Rattle.play_event.specs.declared.setup.Rules.{Rules}
use Rattle.play_event.specs.Games.{board_cards_on}
use Rattle.play_event.specs.Past as past
use Rattle.play_event.specs.Past.{Past, moves_of}
use Rattle.play_event.specs.Seats.{all_seats}
use Rattle.card_set.specs.Known.{hides_card, known_among}
use Rattle.play_event.specs.Dealing.{board_cards_owed, hole_cards_owed, is_draw_due}
use Rattle.play_event.specs.Due.{turn, due_on, is_bring_in_due, is_move_due}
use Rattle.play_event.specs.Table.{places_of}
use Rattle.play_event.specs.Taken.{has_taken_card}
use Rattle.card_set.proofs.Tests.{false_true}
use Rattle.play_event.proofs.ClashLaws.{IsOneOf}
use Rattle.play_event.specs.CanonScript.{board_said}
use Rattle.canon_laws.proofs.Runs.{Runs}
use Rattle.canon_laws.proofs.CardEvents.{HasCome, due_there, board_legal, board_placed}
use Rattle.canon_laws.proofs.CleanShow.{known_length}

-- a past with a deal of the board, if it has cards
abbrev pub with_board : ℕ → List Slot → Past → Past
with_board street [] before = before
with_board street (slot ∷ rest) before = past.Boarded street (known_among (slot ∷ rest)) ∷ before

-- known slots are those of their cards
pub known_again : (list : List Slot) → ((slot : Slot) → IsOneOf list slot → hides_card slot ≡ false) → map (λ card. slots.Known card) (known_among list) ≡ list
known_again [] known = refl
known_again (slots.Known card ∷ rest) known = ap (λ l. slots.Known card ∷ l) (known_again rest (λ slot among. known slot (inr among)))
known_again (slots.Unknown ∷ rest) known = false_true (sym (known slots.Unknown (inl refl)))

-- a deal is due if the board is owed cards
board_due : (setup : Setup) (before : Past) (street : ℕ) → 0 < board_cards_owed setup before street → due_on setup before street ≡ Some (dues.Deal street)
board_due setup before street some =
    ap (λ b. if b then Some (dues.Deal street) else if is_draw_due setup before street then Some (dues.Draw street) else if is_bring_in_due setup (moves_of before) street then Some dues.BringIn else if is_move_due setup (moves_of before) street then Some dues.Move else None)
    (or_right (list_any (λ seat. nat_lt 0 (hole_cards_owed setup before street seat)) (all_seats setup)) (nat_lt 0 (board_cards_owed setup before street)) (lt-ltb 0 (board_cards_owed setup before street) some))

-- the canonical deal of the board is legal, and makes its places
pub board_run : (setup : Setup) (rules : Rules) (before : Past) (street : ℕ) (cards : List Slot) → HasCome setup before street → ((slot : Slot) → IsOneOf cards slot → hides_card slot ≡ false) → board_cards_owed setup before street ≡ length cards → has_taken_card setup.code (places_of setup.code before) street cards ≡ false → Runs setup rules before (board_said cards) (with_board street cards before)
board_run setup rules before street [] come known owed free = refl
board_run setup rules before street (slot ∷ rest) come known owed free =
    let cards : List Card = known_among (slot ∷ rest) in
    let count : length cards ≡ length (slot ∷ rest) = known_length (slot ∷ rest) known in
    let turned : turn setup before ≡ (street, dues.Deal street) = due_there setup before street (dues.Deal street) come (board_due setup before street (omega (arith, owed))) in
    let F : List Slot → Type 0 = λ l. has_taken_card setup.code (places_of setup.code before) street l ≡ false in (
      board_legal setup rules before street cards turned (lt-ltb 0 (board_cards_on setup.code street) (omega (arith, owed)))
          (or_from (length cards == 0) (nat_lt (board_cards_owed setup before street) (length cards)) (ne_eqb (length cards) 0 (λ none. omega (arith, none, count))) (le-ltb (board_cards_owed setup before street) (length cards) (omega (arith, owed, count))))
          (subst F (sym (known_again (slot ∷ rest) known)) free),
      board_placed setup before street (dues.Deal street) cards turned,
    )
