-- The reasons against a show or a muck by the state are the reasons of the rules.
use Rattle.std.proofs.Common.{◌≡◌, ℕ, Bool, true, false, ◌&&◌, ◌||◌, not, if◌then◌else◌, filter, List, length, Option, Some, None, refl, sym, ap, ◌∙◌}
use Rattle.card_set.specs.declared.card.Card.{Card}
use Rattle.chip_ledger.specs.declared.live_row.LiveRow.{LiveRow}
use Rattle.chip_ledger.specs.LiveRow.{flag_of}
use Rattle.play_event.specs.declared.code.Code.{Code}
use Rattle.play_event.specs.declared.reason.Due.{Due}
use Rattle.play_event.specs.declared.reason.Due.TheVariants as dues
use Rattle.play_event.specs.declared.reason.Illegal.{Illegal}
use Rattle.play_event.specs.declared.reason.Illegal.TheVariants as reasons
use Rattle.play_event.specs.declared.setup.Setup.{Setup}
use Rattle.play_event.specs.declared.setup.Rules.{Rules}
use Rattle.play_event.specs.Said as said
use Rattle.play_event.specs.Past.{Past, moves_of}
use Rattle.play_event.specs.Showing.{has_shown, has_mucked, has_to_show}
use Rattle.play_event.specs.Due.{turn, is_settled}
use Rattle.play_event.specs.Places.{Place}
use Rattle.play_event.specs.NameMatching.{after_show, can_be_named, is_show_of_all}
use Rattle.play_event.specs.Table.{places_of}
use Rattle.play_event.specs.Taken.{has_misplaced_card}
use Rattle.play_event.specs.CardReasons.{may_show, is_show_of_others}
use Rattle.play_event.specs.Reasons.{why, first_reason, all_reasons}
use Rattle.card_places.specs.declared.card_state.CardState.{CardState}
use Rattle.card_places.specs.Placed.{placed}
use Rattle.deal_core.specs.Standing.{IsNow}
use Rattle.card_places.specs.Refusals.{may_show_in, is_legal_show_count, show_chain, show_reason_on, show_reason, muck_reason}
use Rattle.card_places.specs.Room.{is_seat_of}
use Rattle.deal_core.proofs.WhyDeal.{seat_in}
use Rattle.card_set.proofs.Tests.{and_same}

at_over : (may : Bool) (rest : Option Illegal) → (if not may then Some reasons.HandOver else rest) ≡ (if may then rest else Some reasons.HandOver)
at_over true rest = refl
at_over false rest = refl

settled_first : (settled : Bool) (rest : Option Illegal) → (if not settled then Some reasons.WrongKind else rest) ≡ (if settled then rest else Some reasons.WrongKind)
settled_first true rest = refl
settled_first false rest = refl

muck_over : (may : Bool) → (if not may then Some reasons.HandOver else if not may then Some reasons.WrongSeat else None) ≡ (if may then None else Some reasons.HandOver)
muck_over true = refl
muck_over false = refl

muck_show : (may : Bool) → (if not may then Some reasons.WrongSeat else None) ≡ (if may then None else Some reasons.WrongSeat)
muck_show true = refl
muck_show false = refl

module _ (t : CardState) (due : Due) (live : LiveRow) (setup : Setup) (past : Past) (now : IsNow t due live setup past) where
  pub may_is : (seat : ℕ) → may_show setup past seat ≡ may_show_in t live seat
  may_is seat =
      ap (λ (n : ℕ). is_seat_of n seat && has_to_show past seat) now.seats
      ∙ and_same (is_seat_of t.seats seat) (has_to_show past seat) (flag_of live seat && not (flag_of t.shown seat || flag_of t.mucked seat))
      (λ is.
      let in_hand = seat_in t.seats seat is in
      ap (λ b. b && not (has_shown past seat || has_mucked past seat)) (sym (now.lives seat in_hand))
      ∙ ap (λ b. flag_of live seat && not (b || has_mucked past seat)) (sym (now.stands.shown seat in_hand))
      ∙ ap (λ b. flag_of live seat && not (flag_of t.shown seat || b)) (sym (now.stands.mucked seat in_hand)))

  chain : (seat : ℕ) (cards : List Card) → Option Illegal
  chain seat cards =
      let ps = places_of setup.code past in
      show_chain (may_show setup past seat) (is_legal_show_count setup.code ps seat (length cards)) (has_misplaced_card setup.code ps (after_show setup.code seat cards ps)) (is_show_of_others (filter (can_be_named setup.code seat (is_show_of_all ps seat cards)) ps) cards)

  chain_is : (seat : ℕ) (cards : List Card) → chain seat cards ≡ show_reason_on t live seat cards
  unfolding chain
  chain_is seat cards =
      ap (λ (c : Code). show_chain (may_show setup past seat) (is_legal_show_count c (places_of c past) seat (length cards)) (has_misplaced_card c (places_of c past) (after_show c seat cards (places_of c past))) (is_show_of_others (filter (can_be_named c seat (is_show_of_all (places_of c past) seat cards)) (places_of c past)) cards)) now.code_is
      ∙ ap (λ (ps : List Place). show_chain (may_show setup past seat) (is_legal_show_count t.table.code ps seat (length cards)) (has_misplaced_card t.table.code ps (after_show t.table.code seat cards ps)) (is_show_of_others (filter (can_be_named t.table.code seat (is_show_of_all ps seat cards)) ps) cards)) (sym now.stands.places)
      ∙ ap (λ (m : Bool). show_chain m (is_legal_show_count t.table.code (placed t.places) seat (length cards)) (has_misplaced_card t.table.code (placed t.places) (after_show t.table.code seat cards (placed t.places))) (is_show_of_others (filter (can_be_named t.table.code seat (is_show_of_all (placed t.places) seat cards)) (placed t.places)) cards)) (may_is seat)

settled_is : (setup : Setup) (past : Past) (due : Due) (settled : Bool) → (turn setup past).1 ≡ due → is_settled setup (moves_of past) (turn setup past) ≡ settled → is_settled setup (moves_of past) ((turn setup past).0, due) ≡ settled
settled_is setup past due settled due_is is = ap (λ (d : Due). is_settled setup (moves_of past) ((turn setup past).0, d)) (sym due_is) ∙ is

between : (settled now : Bool) (first rest : Option Illegal) → now ≡ settled → first ≡ rest → (if not now then Some reasons.WrongKind else first) ≡ (if settled then rest else Some reasons.WrongKind)
between settled now first rest now_is first_is = ap (λ b. if not b then Some reasons.WrongKind else first) now_is ∙ ap (λ (o : Option Illegal). if not settled then Some reasons.WrongKind else o) first_is ∙ settled_first settled rest

show_by : (t : CardState) (due : Due) (live : LiveRow) (setup : Setup) (rules : Rules) (past : Past) (settled : Bool) (seat : ℕ) (cards : List Card) → IsNow t due live setup past → is_settled setup (moves_of past) (turn setup past) ≡ settled → first_reason (all_reasons setup rules past ((turn setup past).0, due) (said.Show seat cards)) ≡ show_reason t live due settled seat cards
unfolding chain
show_by t dues.Over live setup rules past settled seat cards now is =
    ap (λ (o : Option Illegal). if not (may_show setup past seat) then Some reasons.HandOver else o) (chain_is t dues.Over live setup past now seat cards)
    ∙ ap (λ (b : Bool). if not b then Some reasons.HandOver else show_reason_on t live seat cards) (may_is t dues.Over live setup past now seat)
    ∙ at_over (may_show_in t live seat) (show_reason_on t live seat cards)
show_by t dues.Show live setup rules past settled seat cards now is = chain_is t dues.Show live setup past now seat cards
show_by t (dues.Deal on) live setup rules past settled seat cards now is =
    between settled _ _ (show_reason_on t live seat cards) (settled_is setup past (dues.Deal on) settled now.due_is is) (chain_is t (dues.Deal on) live setup past now seat cards)
show_by t (dues.Draw on) live setup rules past settled seat cards now is =
    between settled _ _ (show_reason_on t live seat cards) (settled_is setup past (dues.Draw on) settled now.due_is is) (chain_is t (dues.Draw on) live setup past now seat cards)
show_by t dues.BringIn live setup rules past settled seat cards now is =
    between settled _ _ (show_reason_on t live seat cards) (settled_is setup past dues.BringIn settled now.due_is is) (chain_is t dues.BringIn live setup past now seat cards)
show_by t dues.Move live setup rules past settled seat cards now is =
    between settled _ _ (show_reason_on t live seat cards) (settled_is setup past dues.Move settled now.due_is is) (chain_is t dues.Move live setup past now seat cards)

pub why_show : (t : CardState) (due : Due) (live : LiveRow) (setup : Setup) (rules : Rules) (past : Past) (settled : Bool) (seat : ℕ) (cards : List Card) → IsNow t due live setup past → is_settled setup (moves_of past) (turn setup past) ≡ settled → why setup rules past (said.Show seat cards) ≡ show_reason t live due settled seat cards
unfolding why
why_show t due live setup rules past settled seat cards now is =
    ap (λ (d : Due). first_reason (all_reasons setup rules past ((turn setup past).0, d) (said.Show seat cards))) now.due_is
    ∙ show_by t due live setup rules past settled seat cards now is

muck_by : (t : CardState) (due : Due) (live : LiveRow) (setup : Setup) (rules : Rules) (past : Past) (seat : ℕ) → IsNow t due live setup past → first_reason (all_reasons setup rules past ((turn setup past).0, due) (said.Muck seat)) ≡ muck_reason t live due seat
muck_by t dues.Over live setup rules past seat now = muck_over (may_show setup past seat) ∙ ap (λ (b : Bool). if b then None else Some reasons.HandOver) (may_is t dues.Over live setup past now seat)
muck_by t dues.Show live setup rules past seat now = muck_show (may_show setup past seat) ∙ ap (λ (b : Bool). if b then None else Some reasons.WrongSeat) (may_is t dues.Show live setup past now seat)
muck_by t (dues.Deal on) live setup rules past seat now = refl
muck_by t (dues.Draw on) live setup rules past seat now = refl
muck_by t dues.BringIn live setup rules past seat now = refl
muck_by t dues.Move live setup rules past seat now = refl

pub why_muck : (t : CardState) (due : Due) (live : LiveRow) (setup : Setup) (rules : Rules) (past : Past) (seat : ℕ) → IsNow t due live setup past → why setup rules past (said.Muck seat) ≡ muck_reason t live due seat
unfolding why
why_muck t due live setup rules past seat now =
    ap (λ (d : Due). first_reason (all_reasons setup rules past ((turn setup past).0, d) (said.Muck seat))) now.due_is
    ∙ muck_by t due live setup rules past seat now
