-- What may be dealt is owed, and there is room for it.
use Rattle.std.proofs.Common.{◌≡◌, ℕ, zero, suc, ◌+◌, ◌-◌, ◌≤◌, Bool, true, false, ◌||◌, ◌==◌, not, nat_lt, nat_le, if◌then◌else◌, Option, Some, None, List, length, count_by, refl, sym, subst, arith}
use Rattle.std.proofs.lemmas.Bool.{ltb-false, le-leb, and_from}
use Rattle.card_set.specs.declared.card.Slot.{Slot}
use Rattle.chip_ledger.specs.declared.live_row.LiveRow.{LiveRow}
use Rattle.chip_ledger.specs.LiveRow.{flag_of}
use Rattle.play_event.specs.declared.code.Code.{Code}
use Rattle.play_event.specs.declared.reason.Due.{Due}
use Rattle.play_event.specs.declared.reason.Due.TheVariants as dues
use Rattle.play_event.specs.declared.reason.Illegal.{Illegal}
use Rattle.play_event.specs.declared.reason.Illegal.TheVariants as reasons
use Rattle.play_event.specs.Games.{game_of, hole_cards_on, board_cards_on, street_count}
use Rattle.play_event.specs.Streets.{has_draw}
use Rattle.play_event.specs.Places.{Place, is_in_group}
use Rattle.play_event.specs.Taken.{has_taken_card}
use Rattle.card_places.specs.declared.card_state.CardState.{CardState}
use Rattle.card_places.specs.declared.draws.Draws.{Draws}
use Rattle.card_places.specs.Drawn.{named_at}
use Rattle.play_laws.specs.Dues.{IsDueWithin}
use Rattle.card_places.specs.DueStreet.{due_street}
use Rattle.card_places.specs.Placed.{placed}
use Rattle.card_places.specs.Refusals.{owed_of, owed_in, board_owed_in, hole_deal_reason_on, board_deal_reason_on, hole_deal_reason, board_deal_reason}
use Rattle.card_places.specs.Room.{is_seat_of, is_street, hole_most, most_of, AreNamedWithin, IsOwed}
use Rattle.card_places.proofs.Rooms.{seat_parts, street_parts}
use Rattle.card_set.proofs.Tests.{first_holds}
use Rattle.play_event.proofs.StreetLaws.{few_streets}

count_at : (zero_count over : Bool) (wrong taken : Bool) → (if wrong then Some reasons.WrongSeat else if (zero_count || over) then Some reasons.WrongCount else if taken then Some reasons.CardTaken else None) ≡ None → (wrong ≡ false) × (zero_count ≡ false) × (over ≡ false)
count_at zero_count over true taken is = absurd cc
count_at true over false taken is = absurd cc
count_at false true false taken is = absurd cc
count_at false false false taken is = (refl, refl, refl)

some_cards : (count : ℕ) → (count == 0) ≡ false → 1 ≤ count
some_cards zero is = absurd cc
some_cards (suc count) is = omega arith

owed_few : (draws live : Bool) (hole named dealt count : ℕ) → 1 ≤ count → count ≤ owed_of draws live hole named dealt → count ≤ (if draws then named else hole) - dealt
owed_few true live hole named dealt count some within = within
owed_few false true hole named dealt count some within = within
owed_few false false hole named dealt count some within = absurd (omega (arith, some, within))

street_is : (code : Code) (on : ℕ) → 1 ≤ on → on ≤ street_count code → is_street code on ≡ true
street_is code on first last = and_from (nat_le 1 on) (nat_le on (street_count code)) (le-leb 1 on first) (le-leb on (street_count code) last)

-- this number of cards is owed
abbrev pub IsOwedIn : CardState → Option ℕ → ℕ → ℕ → Type 0
IsOwedIn t owner street count = IsOwed t.table.code t.seats t.draws (placed t.places) owner street count

owed_on : (t : CardState) (live : LiveRow) (on seat : ℕ) (cards : List Slot) → 1 ≤ on → on ≤ street_count t.table.code → hole_deal_reason_on t live on seat cards ≡ None → IsOwedIn t (Some seat) on (length cards)
owed_on t live on seat cards first last is =
    let owed : ℕ = owed_in t live on seat in
    let parts = count_at (length cards == 0) (nat_lt owed (length cards)) (not (is_seat_of t.seats seat) || (owed == 0)) (has_taken_card t.table.code (placed t.places) on cards) is in
    let some : 1 ≤ length cards = some_cards (length cards) parts.1 in
    record {
      owner_in = first_holds (is_seat_of t.seats seat) (owed == 0) parts.0;
      street_in = street_is t.table.code on first last;
      some = some;
      few = owed_few (has_draw t.table.code on) (flag_of live seat) (hole_cards_on t.table.code on) (named_at t.draws on seat) (count_by (is_in_group (Some seat) on) (placed t.places)) (length cards) some (ltb-false owed (length cards) parts.2);
    }

by_kind : (b : Bool) (rest : Option Illegal) → (if b then rest else Some reasons.WrongKind) ≡ None → rest ≡ None
by_kind true rest is = is
by_kind false rest is = absurd cc

pub hole_owed : (t : CardState) (live : LiveRow) (due : Due) (on seat : ℕ) (cards : List Slot) → due_street due ≡ Some on → IsDueWithin (street_count t.table.code) due → hole_deal_reason t live due seat cards ≡ None → IsOwedIn t (Some seat) on (length cards)
hole_owed t live (dues.Deal at) on seat cards street within is =
    let same : at ≡ on = cc in
    subst (λ (s : ℕ). IsOwedIn t (Some seat) s (length cards)) same
    (owed_on t live at seat cards within.0 within.1 (by_kind (nat_lt 0 (hole_cards_on t.table.code at)) (hole_deal_reason_on t live at seat cards) is))
hole_owed t live (dues.Draw at) on seat cards street within is =
    let same : at ≡ on = cc in
    subst (λ (s : ℕ). IsOwedIn t (Some seat) s (length cards)) same (owed_on t live at seat cards within.0 within.1 is)
hole_owed t live dues.BringIn on seat cards street within is = absurd cc
hole_owed t live dues.Move on seat cards street within is = absurd cc
hole_owed t live dues.Show on seat cards street within is = absurd cc
hole_owed t live dues.Over on seat cards street within is = absurd cc

board_owed_on : (t : CardState) (on : ℕ) (cards : List Slot) → 1 ≤ on → on ≤ street_count t.table.code → board_deal_reason_on t on cards ≡ None → IsOwedIn t None on (length cards)
board_owed_on t on cards first last is =
    let owed : ℕ = board_owed_in t on in
    let parts = count_at (length cards == 0) (nat_lt owed (length cards)) false (has_taken_card t.table.code (placed t.places) on cards) is in
    record {
      owner_in = refl;
      street_in = street_is t.table.code on first last;
      some = some_cards (length cards) parts.1;
      few = ltb-false owed (length cards) parts.2;
    }

pub board_owed : (t : CardState) (due : Due) (on : ℕ) (cards : List Slot) → due_street due ≡ Some on → IsDueWithin (street_count t.table.code) due → board_deal_reason t due cards ≡ None → IsOwedIn t None on (length cards)
board_owed t (dues.Deal at) on cards street within is =
    let same : at ≡ on = cc in
    subst (λ (s : ℕ). IsOwedIn t None s (length cards)) same
    (board_owed_on t at cards within.0 within.1 (by_kind (nat_lt 0 (board_cards_on t.table.code at)) (board_deal_reason_on t at cards) is))
board_owed t (dues.Draw at) on cards street within is = absurd cc
board_owed t dues.BringIn on cards street within is = absurd cc
board_owed t dues.Move on cards street within is = absurd cc
board_owed t dues.Show on cards street within is = absurd cc
board_owed t dues.Over on cards street within is = absurd cc

named_most : (draws : Bool) (named most hole dealt count : ℕ) → named ≤ most → 1 ≤ count → count ≤ (if draws then named else hole) - dealt → dealt + count ≤ (if draws then most else hole)
named_most true named most hole dealt count less some few = omega (arith, less, some, few)
named_most false named most hole dealt count less some few = omega (arith, some, few)

-- there is room for what is owed
pub owed_room : (code : Code) (seats : ℕ) (draws : Draws) (placed : List Place) (owner : Option ℕ) (on count : ℕ) → seats ≤ 10 → AreNamedWithin code draws → IsOwed code seats draws placed owner on count → count_by (is_in_group owner on) placed + count ≤ most_of code seats owner on
owed_room code seats draws placed (Some seat) on count ten named owed =
    let at = street_parts code on owed.street_in in
    let in_hand = seat_parts seats seat owed.owner_in in
    subst (λ (b : Bool). count_by (is_in_group (Some seat) on) placed + count ≤ (if b then hole_most code on else 0))
    (sym (and_from (is_seat_of seats seat) (is_street code on) owed.owner_in owed.street_in))
    (named_most (has_draw code on) (named_at draws on seat) (game_of code).hole (hole_cards_on code on) (count_by (is_in_group (Some seat) on) placed) count
    (named on seat (omega (arith, at.1, few_streets code)) in_hand.0 (omega (arith, in_hand.1, ten))) owed.some owed.few)
owed_room code seats draws placed None on count ten named owed =
    let room : count_by (is_in_group None on) placed + count ≤ board_cards_on code on = omega (arith, owed.some, owed.few) in
    subst (λ (b : Bool). count_by (is_in_group None on) placed + count ≤ (if b then board_cards_on code on else 0)) (sym owed.street_in) room

pub due_within : (least most : ℕ) (due : Due) → least ≤ most → IsDueWithin least due → IsDueWithin most due
due_within least most (dues.Deal on) less within = (within.0, omega (arith, less, within.1))
due_within least most (dues.Draw on) less within = (within.0, omega (arith, less, within.1))
due_within least most dues.BringIn less within = tt
due_within least most dues.Move less within = tt
due_within least most dues.Show less within = tt
due_within least most dues.Over less within = tt

pub within_five : (code : Code) (due : Due) → IsDueWithin (street_count code) due → IsDueWithin 5 due
within_five code due within = due_within (street_count code) 5 due (few_streets code) within
