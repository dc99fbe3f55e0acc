-- Words that are written one part after another.
use Rattle.std.proofs.Common.{◌≡◌, ◌+◌, List, [], ◌∷◌, ◌++◌, length, map, Result, Ok, Err, OnOk, OnErr, sym, ap, ◌∙◌, length-append, subst}
use Rattle.std.proofs.lemmas.List.{map-append}
use Rattle.chip_ledger.specs.Seat.{seats_of}
use Rattle.chip_ledger.proofs.Seats.{seats_of_more}
use Rattle.play_event.specs.declared.event.Event.{Event}
use Rattle.hand_canon.specs.Numbers.{AreNumbered}
use Rattle.first_fault.specs.Numbers.{saturated}

-- one more event has the next number
more_numbered : (events : List Event) (event : Event) → AreNumbered events → event.at ≡ saturated (length events + 1) → AreNumbered (events ++ event ∷ [])
more_numbered events event numbered at =
    let longer : length (events ++ event ∷ []) ≡ length events + 1 = length-append events (event ∷ []) in
    map-append (λ e. e.at) events (event ∷ [])
    ∙ ap (λ l. l ++ event.at ∷ []) numbered
    ∙ ap (λ n. map saturated (seats_of (length events)) ++ n ∷ []) at
    ∙ sym (map-append saturated (seats_of (length events)) ((length events + 1) ∷ []))
    ∙ ap (map saturated) (sym (seats_of_more (length events)))
    ∙ ap (λ n. map saturated (seats_of n)) (sym longer)

pub numbered_after : {T E : Type 0} (result : Result T E) (old new : List Event) (event : Event) → AreNumbered old → event.at ≡ saturated (length old + 1)
    → OnOk result (new ≡ old ++ event ∷ []) → OnErr result (new ≡ old) → AreNumbered new
numbered_after (Ok value) old new event numbered at pushed unchanged = subst AreNumbered (sym pushed) (more_numbered old event numbered at)
numbered_after (Err error) old new event numbered at pushed unchanged = subst AreNumbered (sym unchanged) numbered
