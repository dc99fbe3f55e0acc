-- Moves and places are equal if the definitions see them as equal.
use Rattle.std.proofs.Common.{◌≡◌, ◌↔◌, ℕ, Bool, Option, refl, sym, ap, ◌∙◌}
use Rattle.card_set.specs.declared.card.Slot.{Slot}
use Rattle.chip_ledger.specs.declared.numbers.Seat.{Seat}
use Rattle.chip_ledger.proofs.Same.{seat_same}
use Rattle.play_event.specs.declared.played.Act as rows
use Rattle.play_event.specs.declared.played.Act.TheVariants as acts
use Rattle.play_event.specs.declared.played.Move.{Move}
use Rattle.play_event.specs.declared.played.Place.{Place}
use Rattle.play_event.specs.Past.{Act, Folded, Called, Raised, BroughtIn}
use Rattle.play_event.specs.Played.{IsPlace, act_said, move_said}
use Rattle.play_event.specs.Trace.{TracedPlace}
use Rattle.hand_canon.specs.TraceRows.{place_said}
use Rattle.card_set.proofs.Options.{options_same}

-- the act of a row, by its definition
act_from : Act → rows.Act
act_from Folded = acts.Fold
act_from Called = acts.Call
act_from Raised = acts.Raise
act_from BroughtIn = acts.BringIn

act_back : (act : rows.Act) → act_from (act_said act) ≡ act
unfolding act_from
act_back acts.Fold = refl
act_back acts.Call = refl
act_back acts.Raise = refl
act_back acts.BringIn = refl

act_same : (a b : rows.Act) → act_said a ≡ act_said b → a ≡ b
act_same a b same = sym (act_back a) ∙ (ap act_from same ∙ act_back b)

-- moves that the definitions see as equal are equal
pub move_same : (a b : Move) → move_said a ≡ move_said b → a ≡ b
move_same a b same =
    let move : ℕ → Seat → rows.Act → ℕ → ℕ → ℕ → Bool → ℕ → Move =
    λ street seat act from to price closed unit_to. record { street = street; seat = seat; act = act; from = from; to = to; price = price; closed = closed; unit_to = unit_to } in
    ap (λ street. move street a.seat a.act a.from a.to a.price a.closed a.unit_to) (ap (λ said. said.street) same)
    ∙ (ap (λ seat. move b.street seat a.act a.from a.to a.price a.closed a.unit_to) (seat_same a.seat b.seat (ap (λ said. said.seat) same))
    ∙ (ap (λ act. move b.street b.seat act a.from a.to a.price a.closed a.unit_to) (act_same a.act b.act (ap (λ said. said.act) same))
    ∙ (ap (λ from. move b.street b.seat b.act from a.to a.price a.closed a.unit_to) (ap (λ said. said.from) same)
    ∙ (ap (λ to. move b.street b.seat b.act b.from to a.price a.closed a.unit_to) (ap (λ said. said.to) same)
    ∙ (ap (λ price. move b.street b.seat b.act b.from b.to price a.closed a.unit_to) (ap (λ said. said.price) same)
    ∙ (ap (λ closed. move b.street b.seat b.act b.from b.to b.price closed a.unit_to) (ap (λ said. said.closed) same)
    ∙ ap (λ unit_to. move b.street b.seat b.act b.from b.to b.price b.closed unit_to) (ap (λ said. said.unit_to) same)))))))

-- places that the definitions see as equal are equal
pub place_same : (a b : Place) → place_said a ≡ place_said b → a ≡ b
place_same a b same =
    let place : Option Seat → ℕ → Slot → ℕ → Place =
    λ owner street slot gone. record { owner = owner; street = street; slot = slot; gone = gone } in
    let owner : a.owner ≡ b.owner = options_same (λ (seat : Seat). seat.number) seat_same a.owner b.owner (ap (λ said. said.owner) same) in
    ap (λ o. place o a.street a.slot a.gone) owner
    ∙ (ap (λ street. place b.owner street a.slot a.gone) (ap (λ said. said.street) same)
    ∙ (ap (λ slot. place b.owner b.street slot a.gone) (ap (λ said. said.slot) same)
    ∙ ap (λ gone. place b.owner b.street b.slot gone) (ap (λ said. said.discarded) same)))

-- a row agrees with a place if and only if the definitions see it as this place
pub says_place : (row : Place) (place : TracedPlace) → IsPlace row place ↔ (place_said row ≡ place)
says_place row place = (
  λ is.
      ap {B = TracedPlace} (λ (owner : Option ℕ). record { owner = owner; street = row.street; slot = row.slot; discarded = row.gone }) is.owner
      ∙ (ap {B = TracedPlace} (λ (street : ℕ). record { owner = place.owner; street = street; slot = row.slot; discarded = row.gone }) is.street
      ∙ (ap {B = TracedPlace} (λ (slot : Slot). record { owner = place.owner; street = place.street; slot = slot; discarded = row.gone }) is.slot
      ∙ ap {B = TracedPlace} (λ (discarded : ℕ). record { owner = place.owner; street = place.street; slot = place.slot; discarded = discarded }) is.gone)),
  λ same. record {
    owner = ap (λ (said : TracedPlace). said.owner) same;
    street = ap (λ (said : TracedPlace). said.street) same;
    slot = ap (λ (said : TracedPlace). said.slot) same;
    gone = ap (λ (said : TracedPlace). said.discarded) same;
  },
)
