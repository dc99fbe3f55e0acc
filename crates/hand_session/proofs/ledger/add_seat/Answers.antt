-- The name is new in the hand, and gets its visit.
use Rattle.std.proofs.Common.{◌≡◌, ℕ, ◌-◌, ◌++◌, List, false, map, ap, subst, sym, ◌∙◌}
use Rattle.std.specs.List.{list_any}
use Rattle.std.proofs.lemmas.Result.{on_ok_weaker}
use Rattle.chip_ledger.specs.Seat.{seats_of}
use Rattle.hand_session.specs.declared.ledger.Ledger.{Ledger}
use Rattle.hand_session.specs.declared.visits.Visit.{Visit}
use Rattle.hand_session.specs.Hands.{Hand, Seated, hand_of, seated_in}
use Rattle.hand_session.specs.Ledgers.{HasGrown}
use Rattle.hand_session.specs.Sessions.{is_named}
use Rattle.hand_session.specs.Visits.{after_seat, session_at, steps_of_seat, visit_in, visit_seat, visit_steps}
use Rattle.hand_session.proofs.ledger.add_seat.Goals as goal

grown : (old new : Ledger) (number : ℕ) (hand : Hand) (before : List Seated) (found name : List ℕ) (visit : Visit) → found ≡ name
    → visit ≡ visit_in found hand → list_any (is_named found) before ≡ false
    → HasGrown old new (visit_seat old.rows.items found visit) (visit_steps number (session_at old.rows.items found) visit)
    → HasGrown old new (after_seat hand before old.rows.items name) (steps_of_seat number hand before old.rows.items name)
grown old new number hand before found name visit same visit_is missing has =
    subst (λ (some : List ℕ). HasGrown old new (after_seat hand before old.rows.items some) (steps_of_seat number hand before old.rows.items some)) same
    (rw missing (record {
      names = has.names;
      rows = has.rows ∙ ap (visit_seat old.rows.items found) visit_is;
      steps = has.steps ∙ ap (λ (some : Visit). old.steps.items ++ visit_steps number (session_at old.rows.items found) some) visit_is;
    }))

pub returns : goal.returns
returns c =
    let play = c.args.play.now in
    let before = map (seated_in play) (seats_of (c.args.seat.number - 1)) in
    let missing = sym c.is_name_before.ensures ∙ c.if-is_name_before.false in
    on_ok_weaker c.add_visit_of.result
    (grown c.args.ledger.now c.add_visit_of.new.ledger c.args.number (hand_of play) before c.name_of-name.result.now (seated_in play c.args.seat.number).name c.visit_of.result c.name_of-name.ensures c.visit_of.ensures.visit missing)
    c.add_visit_of.ensures
