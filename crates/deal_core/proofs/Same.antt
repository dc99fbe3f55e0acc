-- A state of the same game and seats.
use Rattle.std.proofs.Common.{◌≡◌, ℕ, refl, sym, ap, subst}
use Rattle.play_event.specs.Past.{Past}
use Rattle.play_event.specs.Table.{places_of}
use Rattle.card_places.specs.declared.card_state.CardState.{CardState}
use Rattle.card_places.specs.declared.deal_table.DealTable.{DealTable}
use Rattle.deal_core.specs.Answered.{AreOfOneHand}
use Rattle.chip_ledger.specs.Seat.{IsSeatOf}

pub same_places : (t next : CardState) (past : Past) → next.table ≡ t.table → places_of t.table.code past ≡ places_of next.table.code past
same_places t next past same = ap (λ (table : DealTable). places_of table.code past) (sym same)

pub back : (t next : CardState) (seat : ℕ) → next.seats ≡ t.seats → IsSeatOf next.seats seat → IsSeatOf t.seats seat
back t next seat same in_hand = subst (λ (n : ℕ). IsSeatOf n seat) same in_hand

pub one_hand : (t next : CardState) → next.table ≡ t.table → next.seats ≡ t.seats → AreOfOneHand t next
one_hand t next table seats = record { code = ap (λ (table : DealTable). table.code) table; seats = seats }

pub of_itself : (t : CardState) → AreOfOneHand t t
of_itself t = record { code = refl; seats = refl }
