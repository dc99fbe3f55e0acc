-- Before the first card the first deal is due.
use Rattle.std.proofs.Common.{◌≡◌, Bool, false, nat_le, [], Some, refl, ap, ◌∙◌, arith, if◌then◌else◌}
use Rattle.std.proofs.lemmas.Bool.{lt-leb}
use Rattle.card_set.proofs.Counting.{count_all}
use Rattle.play_event.proofs.StreetLaws.{first_is_due}
use Rattle.play_event.specs.Due.{turn, due_on}
use Rattle.play_event.specs.Seats.{is_live, live_count}
use Rattle.play_event.specs.declared.reason.Due.TheVariants as dues
use Rattle.play_event.specs.declared.setup.Setup.{Setup}
use Rattle.play_laws.proofs.StreetTables.{first_draws}
use Rattle.play_laws.proofs.TurnAfter.{cards_come}
use Rattle.play_laws.specs.Walk.{street_cards}
use Rattle.play_event.proofs.DealingLaws.{some_street}

pub all_live : (setup : Setup) → nat_le (live_count setup []) 1 ≡ false
all_live setup = lt-leb (live_count setup []) 1 (omega (arith, count_all (is_live []) 1 setup.stacks.seats (λ k. refl), setup.stacks.least))

pub first_deal : (setup : Setup) → turn setup [] ≡ (1, dues.Deal 1)
first_deal setup =
    let come : due_on setup [] 1 ≡ Some (street_cards setup.code 1) = cards_come setup [] 0 1 refl (omega arith) (some_street setup.code) (all_live setup) in
    let deal : due_on setup [] 1 ≡ Some (dues.Deal 1) = come ∙ ap (λ (d : Bool). Some (if d then dues.Draw 1 else dues.Deal 1)) (first_draws setup.code) in
    first_is_due setup [] 1 (dues.Deal 1) (all_live setup) (record { reached = omega arith; is_due = deal; quiet = λ between low high. absurd (omega (arith, low, high)) }) (some_street setup.code)
