-- What a legal event implies about the past before it.
use Rattle.std.proofs.Common.{◌≡◌, ℕ, zero, suc, ◌≤◌, true, false, ◌==◌, nat_lt, inl, inr, ◌⊎◌, Option, Some, None, List, map, length, refl, sym, arith}
use Rattle.std.proofs.lemmas.Bool.{or_parts, not-false, ltb-false}
use Rattle.card_set.specs.declared.card.Slot.{Slot}
use Rattle.card_set.specs.declared.card.Slot.TheVariants as slots
use Rattle.card_set.specs.declared.card.Card.{Card}
use Rattle.play_event.specs.declared.event.Spelled.{Spelled}
use Rattle.play_event.specs.declared.reason.Due.{Due}
use Rattle.play_event.specs.declared.reason.Due.TheVariants as dues
use Rattle.play_event.specs.declared.setup.Setup.{Setup}
use Rattle.play_event.specs.declared.setup.Rules.{Rules}
use Rattle.play_event.specs.Said as said
use Rattle.play_event.specs.Said.{Said}
use Rattle.play_event.specs.Past.{Past, Resolved, Move, Dealt, Boarded, Moved, Discarded, Shown, Mucked}
use Rattle.play_event.specs.Dealing.{is_deal_due, is_draw_due, cards_owed, board_cards_owed, next_to_draw}
use Rattle.play_event.specs.Due.{turn}
use Rattle.play_event.specs.NameMatching.{after_discard, after_show, held_count}
use Rattle.play_event.specs.Table.{places_of}
use Rattle.play_event.specs.Taken.{has_taken_card, has_misplaced_card}
use Rattle.play_event.specs.CardReasons.{is_seat, is_wrong_deal, may_show, is_not_held}
use Rattle.play_event.specs.Reasons.{why, is_due_kind}
use Rattle.play_event.specs.Scripts.{resolved_on}
use Rattle.play_event.proofs.ReasonLaws.{no_reason_holds}
use Rattle.card_set.proofs.Tests.{false_true, first_holds}
use Rattle.play_laws.proofs.DueAtEvents.{IsDue, deal, draw, bring, move, unfinished_due}
use Rattle.play_event.proofs.FloorLaws.{may_come_by, bet_unfinished}
use Rattle.card_set.proofs.Options.{next_number}
use Rattle.play_event.specs.TurnTargets.{is_bet_due}

-- what an event implies, by its kind
pub data Stepped (setup : Setup) (before : Past) (street : ℕ) : Resolved → Type 0 where
  deals : (seat : ℕ) (cards : List Slot) → (is_deal_due setup before street ≡ true) ⊎ ((is_deal_due setup before street ≡ false) × (is_draw_due setup before street ≡ true)) → is_seat setup seat ≡ true → 1 ≤ length cards → length cards ≤ cards_owed setup before street seat → has_taken_card setup.code (places_of setup.code before) street cards ≡ false → Stepped setup before street (Dealt street seat cards)
  boards : (cards : List Card) → is_deal_due setup before street ≡ true → 1 ≤ length cards → length cards ≤ board_cards_owed setup before street → has_taken_card setup.code (places_of setup.code before) street (map (λ card. slots.Known card) cards) ≡ false → Stepped setup before street (Boarded street cards)
  moves : (move : Move) → is_deal_due setup before street ≡ false → is_draw_due setup before street ≡ false → move.street ≡ street → Stepped setup before street (Moved move)
  discards : (seat : ℕ) (cards : List Slot) → is_deal_due setup before street ≡ false → is_draw_due setup before street ≡ true → next_to_draw setup before street ≡ Some seat → length cards ≤ held_count (places_of setup.code before) seat → has_misplaced_card setup.code (places_of setup.code before) (after_discard street seat cards (places_of setup.code before)) ≡ false → is_not_held setup.code (places_of setup.code before) (said.Discard seat cards) ≡ false → Stepped setup before street (Discarded street seat cards)
  shows : (seat : ℕ) (cards : List Card) → may_show setup before seat ≡ true → has_misplaced_card setup.code (places_of setup.code before) (after_show setup.code seat cards (places_of setup.code before)) ≡ false → Stepped setup before street (Shown street seat cards)
  mucks : (seat : ℕ) → may_show setup before seat ≡ true → Stepped setup before street (Mucked street seat)

-- a deal
deal_by : (setup : Setup) (before : Past) (seat : ℕ) (cards : List Slot) (due : Due) → (turn setup before).1 ≡ due → is_due_kind setup.code due (said.Hole seat cards) ≡ true → (is_deal_due setup before (turn setup before).0 ≡ true) ⊎ ((is_deal_due setup before (turn setup before).0 ≡ false) × (is_draw_due setup before (turn setup before).0 ≡ true))
deal_by setup before seat cards (dues.Deal street) is kind = by_due (dues.Deal street) (unfinished_due setup before (dues.Deal street) is refl) refl
  where
    by_due : (due : Due) → IsDue setup before (turn setup before).0 due → due ≡ dues.Deal street → (is_deal_due setup before (turn setup before).0 ≡ true) ⊎ ((is_deal_due setup before (turn setup before).0 ≡ false) × (is_draw_due setup before (turn setup before).0 ≡ true))
    by_due _ (deal so) same = inl so
    by_due _ (draw no_deal so) same = inr (no_deal, so)
    by_due _ (bring no_deal no_draw so) same = absurd cc
    by_due _ (move no_deal no_draw no_bring so) same = absurd cc
deal_by setup before seat cards (dues.Draw street) is kind = by_due (dues.Draw street) (unfinished_due setup before (dues.Draw street) is refl) refl
  where
    by_due : (due : Due) → IsDue setup before (turn setup before).0 due → due ≡ dues.Draw street → (is_deal_due setup before (turn setup before).0 ≡ true) ⊎ ((is_deal_due setup before (turn setup before).0 ≡ false) × (is_draw_due setup before (turn setup before).0 ≡ true))
    by_due _ (deal so) same = inl so
    by_due _ (draw no_deal so) same = inr (no_deal, so)
    by_due _ (bring no_deal no_draw so) same = absurd cc
    by_due _ (move no_deal no_draw no_bring so) same = absurd cc
deal_by setup before seat cards dues.BringIn is kind = false_true kind
deal_by setup before seat cards dues.Move is kind = false_true kind
deal_by setup before seat cards dues.Show is kind = false_true kind
deal_by setup before seat cards dues.Over is kind = false_true kind

board_by : (setup : Setup) (before : Past) (cards : List Card) (due : Due) → (turn setup before).1 ≡ due → is_due_kind setup.code due (said.Board cards) ≡ true → is_deal_due setup before (turn setup before).0 ≡ true
board_by setup before cards (dues.Deal street) is kind = by_due (dues.Deal street) (unfinished_due setup before (dues.Deal street) is refl) refl
  where
    by_due : (due : Due) → IsDue setup before (turn setup before).0 due → due ≡ dues.Deal street → is_deal_due setup before (turn setup before).0 ≡ true
    by_due _ (deal so) same = so
    by_due _ (draw no_deal so) same = absurd cc
    by_due _ (bring no_deal no_draw so) same = absurd cc
    by_due _ (move no_deal no_draw no_bring so) same = absurd cc
board_by setup before cards (dues.Draw street) is kind = false_true kind
board_by setup before cards dues.BringIn is kind = false_true kind
board_by setup before cards dues.Move is kind = false_true kind
board_by setup before cards dues.Show is kind = false_true kind
board_by setup before cards dues.Over is kind = false_true kind

draw_by : (setup : Setup) (before : Past) (seat : ℕ) (cards : List Slot) (due : Due) → (turn setup before).1 ≡ due → is_due_kind setup.code due (said.Discard seat cards) ≡ true → (is_deal_due setup before (turn setup before).0 ≡ false) × (is_draw_due setup before (turn setup before).0 ≡ true)
draw_by setup before seat cards (dues.Draw street) is kind = by_due (dues.Draw street) (unfinished_due setup before (dues.Draw street) is refl) refl
  where
    by_due : (due : Due) → IsDue setup before (turn setup before).0 due → due ≡ dues.Draw street → (is_deal_due setup before (turn setup before).0 ≡ false) × (is_draw_due setup before (turn setup before).0 ≡ true)
    by_due _ (deal so) same = absurd cc
    by_due _ (draw no_deal so) same = (no_deal, so)
    by_due _ (bring no_deal no_draw so) same = absurd cc
    by_due _ (move no_deal no_draw no_bring so) same = absurd cc
draw_by setup before seat cards (dues.Deal street) is kind = false_true kind
draw_by setup before seat cards dues.BringIn is kind = false_true kind
draw_by setup before seat cards dues.Move is kind = false_true kind
draw_by setup before seat cards dues.Show is kind = false_true kind
draw_by setup before seat cards dues.Over is kind = false_true kind

bet_by : (setup : Setup) (before : Past) (due : Due) → IsDue setup before (turn setup before).0 due → is_bet_due due ≡ true → (is_deal_due setup before (turn setup before).0 ≡ false) × (is_draw_due setup before (turn setup before).0 ≡ false)
bet_by setup before _ (deal so) is = false_true is
bet_by setup before _ (draw no_deal so) is = false_true is
bet_by setup before _ (bring no_deal no_draw so) is = (no_deal, no_draw)
bet_by setup before _ (move no_deal no_draw no_bring so) is = (no_deal, no_draw)

move_by : (setup : Setup) (before : Past) → is_bet_due (turn setup before).1 ≡ true → (is_deal_due setup before (turn setup before).0 ≡ false) × (is_draw_due setup before (turn setup before).0 ≡ false)
move_by setup before is = bet_by setup before (turn setup before).1 (unfinished_due setup before (turn setup before).1 refl (bet_unfinished (turn setup before).1 is)) is

-- a fold may come only when a bring-in or a move is due
pub fold_kind : (setup : Setup) (named : Option ℕ) (due : Due) → is_due_kind setup.code due (said.Fold named) ≡ true → is_bet_due due ≡ true
fold_kind setup named dues.Move is = refl
fold_kind setup named dues.BringIn is = false_true is
fold_kind setup named (dues.Deal street) is = false_true is
fold_kind setup named (dues.Draw street) is = false_true is
fold_kind setup named dues.Show is = false_true is
fold_kind setup named dues.Over is = false_true is

-- so may a call
pub call_kind : (setup : Setup) (named stated : Option ℕ) (due : Due) → is_due_kind setup.code due (said.Call named stated) ≡ true → is_bet_due due ≡ true
call_kind setup named stated dues.Move is = refl
call_kind setup named stated dues.BringIn is = false_true is
call_kind setup named stated (dues.Deal street) is = false_true is
call_kind setup named stated (dues.Draw street) is = false_true is
call_kind setup named stated dues.Show is = false_true is
call_kind setup named stated dues.Over is = false_true is

-- a raise
pub raise_kind : (setup : Setup) (named : Option ℕ) (amount : Spelled) (due : Due) → is_due_kind setup.code due (said.Raise named amount) ≡ true → is_bet_due due ≡ true
raise_kind setup named amount dues.Move is = refl
raise_kind setup named amount dues.BringIn is = refl
raise_kind setup named amount (dues.Deal street) is = false_true is
raise_kind setup named amount (dues.Draw street) is = false_true is
raise_kind setup named amount dues.Show is = false_true is
raise_kind setup named amount dues.Over is = false_true is

-- and a bring-in
pub bring_kind : (setup : Setup) (named : Option ℕ) (due : Due) → is_due_kind setup.code due (said.BringIn named) ≡ true → is_bet_due due ≡ true
bring_kind setup named dues.Move is = false_true is
bring_kind setup named dues.BringIn is = refl
bring_kind setup named (dues.Deal street) is = false_true is
bring_kind setup named (dues.Draw street) is = false_true is
bring_kind setup named dues.Show is = false_true is
bring_kind setup named dues.Over is = false_true is

-- how many cards
count_by : (owed count : ℕ) → is_wrong_deal owed count ≡ false → (1 ≤ count) × (count ≤ owed)
count_by owed count is =
    let parts = or_parts (count == 0) (nat_lt owed count) is in
    (some count parts.0, ltb-false owed count parts.1)
  where
    some : (n : ℕ) → (n == 0) ≡ false → 1 ≤ n
    some zero is = false_true (sym is)
    some (suc n) is = omega arith

-- a legal event implies the facts of its kind
pub stepped : (setup : Setup) (rules : Rules) (before : Past) (event : Said) → why setup rules before event ≡ None → Stepped setup before (turn setup before).0 (resolved_on setup before (turn setup before).0 event)
stepped setup rules before (said.Hole seat cards) legal =
    let none = no_reason_holds setup rules before (said.Hole seat cards) legal in
    let counted = count_by (cards_owed setup before (turn setup before).0 seat) (length cards) none.1.1.1.0 in
    deals seat cards (deal_by setup before seat cards (turn setup before).1 refl (may_come_by (is_due_kind setup.code (turn setup before).1 (said.Hole seat cards)) false none.1.0))
    (first_holds (is_seat setup seat) (cards_owed setup before (turn setup before).0 seat == 0) none.1.1.0) counted.0 counted.1 none.1.1.1.1.0
stepped setup rules before (said.Board cards) legal =
    let none = no_reason_holds setup rules before (said.Board cards) legal in
    let counted = count_by (board_cards_owed setup before (turn setup before).0) (length cards) none.1.1.1.0 in
    boards cards (board_by setup before cards (turn setup before).1 refl (may_come_by (is_due_kind setup.code (turn setup before).1 (said.Board cards)) false none.1.0)) counted.0 counted.1 none.1.1.1.1.0
stepped setup rules before (said.Discard seat cards) legal =
    let none = no_reason_holds setup rules before (said.Discard seat cards) legal in
    let due = draw_by setup before seat cards (turn setup before).1 refl (may_come_by (is_due_kind setup.code (turn setup before).1 (said.Discard seat cards)) false none.1.0) in
    discards seat cards due.0 due.1 (next_number seat (next_to_draw setup before (turn setup before).0) none.1.1.0) (ltb-false (held_count (places_of setup.code before) seat) (length cards) none.1.1.1.0) none.1.1.1.1.0 none.1.1.1.1.1.0
stepped setup rules before (said.Show seat cards) legal =
    let none = no_reason_holds setup rules before (said.Show seat cards) legal in
    shows seat cards (not-false (may_show setup before seat) none.1.1.0) none.1.1.1.1.0
stepped setup rules before (said.Muck seat) legal =
    let none = no_reason_holds setup rules before (said.Muck seat) legal in
    mucks seat (not-false (may_show setup before seat) none.1.1.0)
stepped setup rules before (said.Fold named) legal =
    let none = no_reason_holds setup rules before (said.Fold named) legal in
    let due = move_by setup before (fold_kind setup named (turn setup before).1 (may_come_by (is_due_kind setup.code (turn setup before).1 (said.Fold named)) false none.1.0)) in
    moves _ due.0 due.1 refl
stepped setup rules before (said.Call named stated) legal =
    let none = no_reason_holds setup rules before (said.Call named stated) legal in
    let due = move_by setup before (call_kind setup named stated (turn setup before).1 (may_come_by (is_due_kind setup.code (turn setup before).1 (said.Call named stated)) false none.1.0)) in
    moves _ due.0 due.1 refl
stepped setup rules before (said.Raise named amount) legal =
    let none = no_reason_holds setup rules before (said.Raise named amount) legal in
    let due = move_by setup before (raise_kind setup named amount (turn setup before).1 (may_come_by (is_due_kind setup.code (turn setup before).1 (said.Raise named amount)) false none.1.0)) in
    moves _ due.0 due.1 refl
stepped setup rules before (said.BringIn named) legal =
    let none = no_reason_holds setup rules before (said.BringIn named) legal in
    let due = move_by setup before (bring_kind setup named (turn setup before).1 (may_come_by (is_due_kind setup.code (turn setup before).1 (said.BringIn named)) false none.1.0)) in
    moves _ due.0 due.1 refl
