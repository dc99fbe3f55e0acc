-- The canonical deals of a street: to each seat, in one event, as many cards as it is owed. They
-- are legal one after another.
use Rattle.play_laws.proofs.SeatRanges.{any_seat}
use Rattle.std.proofs.Common.{◌≡◌, ℕ, zero, suc, ◌+◌, ◌-◌, ◌≤◌, ◌<◌, true, false, ◌&&◌, ◌||◌, ◌==◌, not, nat_lt, nat_le, Some, None, is_some, List, [], ◌∷◌, ◌++◌, length, refl, sym, ◌∙◌, ap, subst, arith, if◌then◌else◌}
use Rattle.std.specs.List.{list_any, flat_map, range_with_len}
use Rattle.std.proofs.lemmas.Bool.{and_from, or_from, or_left, or_right, lt-ltb, le-ltb, le-leb, ne_eqb, and_right}
use Rattle.card_set.specs.declared.card.Slot.{Slot}
use Rattle.play_event.specs.declared.code.Code.{Code}
use Rattle.play_event.specs.declared.reason.Due.{Due}
use Rattle.play_event.specs.declared.reason.Due.TheVariants as dues
use Rattle.play_event.specs.declared.setup.Setup.{Setup}
use Rattle.play_event.specs.declared.setup.Rules.{Rules}
use Rattle.play_event.specs.Games.{hole_cards_on, board_cards_on}
use Rattle.play_event.specs.Streets.{has_draw}
use Rattle.play_event.specs.Said as said
use Rattle.play_event.specs.Said.{Said}
use Rattle.play_event.specs.Past as past
use Rattle.play_event.specs.Past.{Past, moves_of}
use Rattle.play_event.specs.Seats.{is_live, all_seats}
use Rattle.play_event.specs.Dealing.{cards_owed, hole_cards_owed, hole_cards_dealt, replacements_owed, cards_discarded, is_deal_due, is_draw_due, next_to_draw, board_cards_owed}
use Rattle.play_event.specs.Due.{turn, due_on, is_bring_in_due, is_move_due}
use Rattle.play_event.specs.Table.{places_of}
use Rattle.play_event.specs.Taken.{has_taken_card}
use Rattle.play_event.specs.CardReasons.{is_seat}
use Rattle.play_event.specs.Reasons.{is_over, is_due_kind}
use Rattle.play_event.specs.CanonScript.{deal_said}
use Rattle.canon_laws.proofs.Runs.{Runs}
use Rattle.canon_laws.proofs.CardEvents.{HasCome, due_there, still_there, deal_legal, deal_placed}
use Rattle.card_set.proofs.Any.{none_passes}
use Rattle.play_laws.proofs.TurnAfter.{nothing_owed_by}

-- a past with a deal, if it has cards
abbrev pub with_deal : ℕ → ℕ → List Slot → Past → Past
with_deal street seat [] before = before
with_deal street seat (slot ∷ rest) before = past.Dealt street seat (slot ∷ rest) ∷ before

-- a past with the deals of a street to these seats
abbrev pub with_deals : ℕ → (ℕ → List Slot) → List ℕ → Past → Past
with_deals street cards [] before = before
with_deals street cards (seat ∷ rest) before = with_deals street cards rest (with_deal street seat (cards seat) before)

-- on this street a deal to a seat may come if the seat is owed cards
pub record DealsOn (setup : Setup) (street : ℕ) (due : Due) : Type 0 where
  pub kind : (seat : ℕ) (cards : List Slot) → is_due_kind setup.code due (said.Hole seat cards) ≡ true
  pub going : is_over due ≡ false
  pub is_due : (before : Past) (seat : ℕ) → 1 ≤ seat → seat ≤ setup.stacks.seats → 0 < cards_owed setup before street seat → due_on setup before street ≡ Some due

-- a street that deals hole cards deals to any seat that is owed some
pub hole_street : (setup : Setup) (street : ℕ) → has_draw setup.code street ≡ false → 0 < hole_cards_on setup.code street → DealsOn setup street (dues.Deal street)
hole_street setup street no_draw deals =
    record {
      kind = λ seat cards. lt-ltb 0 (hole_cards_on setup.code street) deals;
      going = refl;
      is_due = λ before seat least most some.
          let owed : 0 < hole_cards_owed setup before street seat = omega (arith, some, ap (λ b. if b then replacements_owed before street seat else hole_cards_owed setup before street seat) no_draw) in
          let due : is_deal_due setup before street ≡ true =
          or_left (list_any (λ seat. nat_lt 0 (hole_cards_owed setup before street seat)) (all_seats setup)) (nat_lt 0 (board_cards_owed setup before street))
          (any_seat setup (λ seat. nat_lt 0 (hole_cards_owed setup before street seat)) seat least most (lt-ltb 0 (hole_cards_owed setup before street seat) owed)) in
          ap (λ b. if b then Some (dues.Deal street) else if is_draw_due setup before street then Some (dues.Draw street) else if is_bring_in_due setup (moves_of before) street then Some dues.BringIn else if is_move_due setup (moves_of before) street then Some dues.Move else None) due;
    }

-- a street without cards has no deal due
pub no_deal : (setup : Setup) (before : Past) (street : ℕ) → hole_cards_on setup.code street ≡ 0 → board_cards_on setup.code street ≡ 0 → is_deal_due setup before street ≡ false
no_deal setup before street no_hole no_board =
    ap (λ b. b || nat_lt 0 (board_cards_owed setup before street)) (none_passes (λ seat. nat_lt 0 (hole_cards_owed setup before street seat)) (all_seats setup) (λ seat. nothing_owed_by (is_live (moves_of before) seat) (hole_cards_on setup.code street) (hole_cards_dealt before street seat) no_hole))
    ∙ le-ltb 0 (board_cards_owed setup before street) (omega (arith, no_board))

-- so does a street that draws, if discards are to be replaced
pub draw_street : (setup : Setup) (street : ℕ) → has_draw setup.code street ≡ true → hole_cards_on setup.code street ≡ 0 → board_cards_on setup.code street ≡ 0 → DealsOn setup street (dues.Draw street)
draw_street setup street draws no_hole no_board =
    record {
      kind = λ seat cards. refl;
      going = refl;
      is_due = λ before seat least most some.
          let owed : 0 < replacements_owed before street seat = omega (arith, some, ap (λ b. if b then replacements_owed before street seat else hole_cards_owed setup before street seat) draws) in
          let any : list_any (λ seat. nat_lt 0 (replacements_owed before street seat)) (all_seats setup) ≡ true = any_seat setup (λ seat. nat_lt 0 (replacements_owed before street seat)) seat least most (lt-ltb 0 (replacements_owed before street seat) owed) in
          let due : is_draw_due setup before street ≡ true =
          and_from (has_draw setup.code street) (is_some (next_to_draw setup before street) || list_any (λ seat. nat_lt 0 (replacements_owed before street seat)) (all_seats setup)) draws
          (or_right (is_some (next_to_draw setup before street)) (list_any (λ seat. nat_lt 0 (replacements_owed before street seat)) (all_seats setup)) any) in
          ap (λ b. if b then Some (dues.Deal street) else if is_draw_due setup before street then Some (dues.Draw street) else if is_bring_in_due setup (moves_of before) street then Some dues.BringIn else if is_move_due setup (moves_of before) street then Some dues.Move else None) (no_deal setup before street no_hole no_board)
          ∙ ap (λ b. if b then Some (dues.Draw street) else if is_bring_in_due setup (moves_of before) street then Some dues.BringIn else if is_move_due setup (moves_of before) street then Some dues.Move else None) due;
    }

-- a deal to one seat does not change what others are owed
owed_still : (setup : Setup) (before : Past) (street seat other : ℕ) (cards : List Slot) → (seat ≡ other → ⊥) → cards_owed setup (past.Dealt street seat cards ∷ before) street other ≡ cards_owed setup before street other
owed_still setup before street seat other cards differ =
    let added : (if (street == street) && (seat == other) then length cards else 0) ≡ 0 = ap (λ b. if b then length cards else 0) (and_right (street == street) (seat == other) (ne_eqb seat other differ)) in
    ap (λ n. if has_draw setup.code street then cards_discarded before street other - n else (if is_live (moves_of before) other then hole_cards_on setup.code street - n else 0)) (omega (arith, added))

-- none of the cards is taken when it is dealt
abbrev pub AllFree : Code → ℕ → (ℕ → List Slot) → List ℕ → Past → Type 0
AllFree code street cards [] before = Unit {0}
AllFree code street cards (seat ∷ rest) before = (has_taken_card code (places_of code before) street (cards seat) ≡ false) × AllFree code street cards rest (with_deal street seat (cards seat) before)

-- what a seat is owed before these deals
abbrev pub OwesRange : Setup → Past → ℕ → (ℕ → List Slot) → ℕ → ℕ → Type 0
OwesRange setup before street cards first count = (seat : ℕ) → first ≤ seat → seat < first + count → cards_owed setup before street seat ≡ length (cards seat)

one_deal : (setup : Setup) (rules : Rules) (before after : Past) (street : ℕ) (due : Due) (seat : ℕ) (given : List Slot) (more : List Said) → HasCome setup before street → DealsOn setup street due → 1 ≤ seat → seat ≤ setup.stacks.seats → cards_owed setup before street seat ≡ length given → has_taken_card setup.code (places_of setup.code before) street given ≡ false → Runs setup rules (with_deal street seat given before) more after → Runs setup rules before (deal_said seat given ++ more) after
one_deal setup rules before after street due seat [] more come deals least most owed free later = later
one_deal setup rules before after street due seat (slot ∷ rest) more come deals least most owed free later =
    let some : 0 < cards_owed setup before street seat = omega (arith, owed) in
    let turned : turn setup before ≡ (street, due) = due_there setup before street due come (deals.is_due before seat least most some) in
    let is : is_seat setup seat ≡ true = and_from (nat_le 1 seat) (nat_le seat setup.stacks.seats) (le-leb 1 seat least) (le-leb seat setup.stacks.seats most) in
    let not_none : (cards_owed setup before street seat == 0) ≡ false = ne_eqb (cards_owed setup before street seat) 0 (λ none. omega (arith, some, none)) in
    let P : Past → Type 0 = λ start. Runs setup rules start more after in (
      deal_legal setup rules before street due seat (slot ∷ rest) turned deals.going (deals.kind seat (slot ∷ rest))
          (ap (λ b. not b || (cards_owed setup before street seat == 0)) is ∙ not_none)
          (or_from (length (slot ∷ rest) == 0) (nat_lt (cards_owed setup before street seat) (length (slot ∷ rest))) (ne_eqb (length (slot ∷ rest)) 0 (λ none. omega (arith, none))) (le-ltb (cards_owed setup before street seat) (length (slot ∷ rest)) (omega (arith, owed)))) free,
      subst P (sym (deal_placed setup before street due seat (slot ∷ rest) turned)) later,
    )

come_still : (setup : Setup) (before : Past) (street seat : ℕ) (given : List Slot) → HasCome setup before street → HasCome setup (with_deal street seat given before) street
come_still setup before street seat [] come = come
come_still setup before street seat (slot ∷ rest) come = still_there setup before street (past.Dealt street seat (slot ∷ rest)) come refl refl

owes_still : (setup : Setup) (before : Past) (street first : ℕ) (given : List Slot) (cards : ℕ → List Slot) (count : ℕ) → OwesRange setup before street cards first (suc count) → OwesRange setup (with_deal street first given before) street cards (first + 1) count
owes_still setup before street first [] cards count owes = λ seat least most. owes seat (omega (arith, least)) (omega (arith, most))
owes_still setup before street first (slot ∷ rest) cards count owes = λ seat least most.
    owed_still setup before street first seat (slot ∷ rest) (λ same. omega (arith, same, least)) ∙ owes seat (omega (arith, least)) (omega (arith, most))

-- the canonical deals to a range of seats take place one after another
pub deals_run : (setup : Setup) (rules : Rules) (before : Past) (street : ℕ) (due : Due) (cards : ℕ → List Slot) (first count : ℕ) → HasCome setup before street → DealsOn setup street due → 1 ≤ first → first + count ≤ setup.stacks.seats + 1 → OwesRange setup before street cards first count → AllFree setup.code street cards (range_with_len first count) before → Runs setup rules before (flat_map (λ seat. deal_said seat (cards seat)) (range_with_len first count)) (with_deals street cards (range_with_len first count) before)
deals_run setup rules before street due cards first zero come deals least most owes free = refl
deals_run setup rules before street due cards first (suc count) come deals least most owes free =
    one_deal setup rules before (with_deals street cards (range_with_len first (suc count)) before) street due first (cards first) (flat_map (λ seat. deal_said seat (cards seat)) (range_with_len (first + 1) count)) come deals least (omega (arith, most)) (owes first (omega arith) (omega arith)) free.0
    (deals_run setup rules (with_deal street first (cards first) before) street due cards (first + 1) count (come_still setup before street first (cards first) come) deals (omega (arith, least)) (omega (arith, most)) (owes_still setup before street first (cards first) cards count owes) free.1)

-- the deals of a street to all seats
pub street_deals : (setup : Setup) (rules : Rules) (before : Past) (street : ℕ) (due : Due) (cards : ℕ → List Slot) → HasCome setup before street → DealsOn setup street due → ((seat : ℕ) → 1 ≤ seat → seat ≤ setup.stacks.seats → cards_owed setup before street seat ≡ length (cards seat)) → AllFree setup.code street cards (all_seats setup) before → Runs setup rules before (flat_map (λ seat. deal_said seat (cards seat)) (all_seats setup)) (with_deals street cards (all_seats setup) before)
street_deals setup rules before street due cards come deals owes free =
    deals_run setup rules before street due cards 1 setup.stacks.seats come deals (omega arith) (omega arith) (λ seat least most. owes seat least (omega (arith, most))) free
