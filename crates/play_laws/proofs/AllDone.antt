-- When a contested hand ends, no street has a deal or a draw that is due.
use Rattle.std.proofs.Common.{◌≡◌, ℕ, ◌+◌, ◌-◌, ◌≤◌, Bool, true, false, inl, inr, nat_le, if◌then◌else◌, Option, Some, None, unwrap_or, List, refl, sym, ap, ◌∙◌, arith}
use Rattle.std.proofs.lemmas.Bool.{true≢false, cases_lt}
use Rattle.play_event.specs.declared.reason.Due.{Due}
use Rattle.play_event.specs.declared.reason.Due.TheVariants as dues
use Rattle.play_event.specs.declared.setup.Rules.{Rules}
use Rattle.play_event.specs.declared.setup.Setup.{Setup}
use Rattle.play_event.specs.Dealing.{is_deal_due, is_draw_due}
use Rattle.play_event.specs.Due.{turn, due_on, first_due, showdown, is_bring_in_due, is_move_due, is_unfinished}
use Rattle.play_event.specs.Games.{street_count}
use Rattle.play_event.specs.Laws.{IsFirstStreet}
use Rattle.play_event.specs.Past.{Past, moves_of, newest_street}
use Rattle.play_event.specs.Said.{Said}
use Rattle.play_event.specs.Scripts.{past_of}
use Rattle.play_event.specs.Seats.{live_count}
use Rattle.play_event.proofs.StreetLaws.{street_found}
use Rattle.play_laws.proofs.DonePasts.{legal_done}
use Rattle.play_laws.proofs.Showdown.{nothing_by}
use Rattle.play_laws.proofs.TurnAfter.{due_by}
use Rattle.play_laws.specs.ContestedEnd.{EndContested}
use Rattle.play_event.proofs.DueStreets.{none_found}
use Rattle.play_laws.proofs.PlayedStreets.{IsDone}

-- what is due on a street cannot stay undone at the end
unfinished_by : (street : ℕ) (deal draw bring_in move : Bool) (due : Due) → due_by street deal draw bring_in move ≡ Some due → is_unfinished due ≡ false → ⊥
unfinished_by street deal draw bring_in move dues.Show is finished = never_show deal draw bring_in move is
  where
    never_show : (deal draw bring_in move : Bool) → due_by street deal draw bring_in move ≡ Some dues.Show → ⊥
    never_show true draw bring_in move is = cc
    never_show false true bring_in move is = cc
    never_show false false true move is = cc
    never_show false false false true is = cc
    never_show false false false false is = cc
unfinished_by street deal draw bring_in move dues.Over is finished = never_over deal draw bring_in move is
  where
    never_over : (deal draw bring_in move : Bool) → due_by street deal draw bring_in move ≡ Some dues.Over → ⊥
    never_over true draw bring_in move is = cc
    never_over false true bring_in move is = cc
    never_over false false true move is = cc
    never_over false false false true is = cc
    never_over false false false false is = cc
unfinished_by street deal draw bring_in move (dues.Deal on) is finished = true≢false finished
unfinished_by street deal draw bring_in move (dues.Draw on) is finished = true≢false finished
unfinished_by street deal draw bring_in move dues.BringIn is finished = true≢false finished
unfinished_by street deal draw bring_in move dues.Move is finished = true≢false finished

quiet_by : (setup : Setup) (past : Past) (street : ℕ) (found : Option (ℕ × Due)) → first_due (due_on setup past) (street_count setup.code + 1 - newest_street past) (newest_street past) ≡ found → is_unfinished (unwrap_or found (street_count setup.code, showdown setup past)).1 ≡ false → newest_street past ≤ street → street ≤ street_count setup.code → due_on setup past street ≡ None
quiet_by setup past street (Some there) walked finished low high =
    let first : IsFirstStreet (due_on setup past) (newest_street past) there.0 there.1 = street_found (due_on setup past) (street_count setup.code + 1 - newest_street past) (newest_street past) there.0 there.1 walked in
    absurd (unfinished_by there.0 (is_deal_due setup past there.0) (is_draw_due setup past there.0) (is_bring_in_due setup (moves_of past) there.0) (is_move_due setup (moves_of past) there.0) there.1 first.is_due finished)
quiet_by setup past street None walked finished low high =
    none_found (due_on setup past) (street_count setup.code + 1 - newest_street past) (newest_street past) walked street low (omega (arith, low, high))

quiet : (setup : Setup) (past : Past) (street : ℕ) → nat_le (live_count setup (moves_of past)) 1 ≡ false → is_unfinished (turn setup past).1 ≡ false → newest_street past ≤ street → street ≤ street_count setup.code → due_on setup past street ≡ None
unfolding turn
quiet setup past street several finished low high =
    quiet_by setup past street (first_due (due_on setup past) (street_count setup.code + 1 - newest_street past) (newest_street past)) refl
    (sym (ap (λ b. is_unfinished (if b then (newest_street past, dues.Over) else unwrap_or (first_due (due_on setup past) (street_count setup.code + 1 - newest_street past) (newest_street past)) (street_count setup.code, showdown setup past)).1) several) ∙ finished)
    low high

pub all_dealt : (setup : Setup) (rules : Rules) (events : List Said) → EndContested setup rules events → (street : ℕ) → 1 ≤ street → street ≤ street_count setup.code → IsDone setup (past_of setup events) street
all_dealt setup rules events ends street some most =
    let past : Past = past_of setup events in
    elim (cases_lt street (newest_street past)) [
      | inl early ↦ let it = (legal_done setup rules events ends.legal).done.earlier street some early in record { no_deal = it.0; no_draw = it.1.0 }
      | inr late ↦
          let it = nothing_by street (is_deal_due setup past street) (is_draw_due setup past street) (is_bring_in_due setup (moves_of past) street) (is_move_due setup (moves_of past) street) (quiet setup past street ends.several ends.finished late most) in
          record { no_deal = it.0; no_draw = it.1 }
    ]
