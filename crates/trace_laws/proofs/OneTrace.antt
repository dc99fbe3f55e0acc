-- Whole traces with the same core are the same.
use Rattle.std.proofs.Common.{◌≡◌, ◌↔◌, ◌≤◌, List, map, refl, sym, ap, ◌∙◌, subst, arith}
use Rattle.chip_ledger.specs.declared.pots.PotRow.{PotRow}
use Rattle.chip_ledger.specs.declared.shares.ShareRow.{ShareRow}
use Rattle.chip_ledger.specs.declared.live_row.LiveRow.{LiveRow}
use Rattle.chip_ledger.specs.declared.seat_row.SeatRow.{SeatRow}
use Rattle.chip_ledger.specs.PotRow.{plain_shares, shares_in}
use Rattle.chip_ledger.specs.Rakes.{nets_of}
use Rattle.chip_ledger.specs.Seat.{seats_of}
use Rattle.chip_ledger.specs.SeatRow.{amount_of}
use Rattle.chip_ledger.proofs.Same.{seat_row_same_by_seats}
use Rattle.chip_ledger.proofs.SameEntries.{share_row_same_by_shares}
use Rattle.play_event.specs.declared.played.Move.{Move}
use Rattle.play_event.specs.declared.played.Place.{Place}
use Rattle.play_event.specs.declared.setup.Setup.{Setup}
use Rattle.play_event.specs.Past.{Past}
use Rattle.play_event.specs.Played.{move_said}
use Rattle.play_event.specs.Stakes.{finishing_stack}
use Rattle.hand_canon.specs.declared.trace.Trace.{Trace}
use Rattle.play_event.specs.CanonScript.{plain_moves}
use Rattle.hand_canon.specs.LegalHand.{showdown_in}
use Rattle.play_event.specs.TraceCore.{TraceCore, core_of}
use Rattle.hand_canon.specs.TraceRows.{core_said, place_said}
use Rattle.hand_canon.specs.WholeTrace.{HasSeats, HasShares, IsTraceOf}
use Rattle.trace_laws.proofs.Readings.{move_same, place_same}
use Rattle.trace_laws.proofs.SameRows.{flags_same, pot_rows_same}
use Rattle.trace_laws.proofs.OneSharing.{share_lists_same}
use Rattle.card_set.proofs.Lists.{lists_same}

-- a trace of this setup and core: its rows have this many seats, and its shares follow the rules
record IsWhole (setup : Setup) (core : TraceCore) (trace : Trace) : Type 0 where
  same_setup : trace.setup ≡ setup
  seats : HasSeats setup.stacks.seats trace
  said : core_said trace ≡ core
  shares : HasShares setup core (plain_shares trace.shares) (amount_of trace.finish)

-- what is returned, seat by seat
returned_said : (setup : Setup) (core : TraceCore) (trace : Trace) → IsWhole setup core trace → map (amount_of trace.pots.returned) (seats_of setup.stacks.seats) ≡ core.returned
returned_said setup core trace whole =
    ap (λ (s : Setup). map (amount_of trace.pots.returned) (seats_of s.stacks.seats)) (sym whole.same_setup)
    ∙ ap (λ said. said.returned) whole.said

-- the shares of two traces with one core
shares_one : (setup : Setup) (core : TraceCore) (a b : Trace) → IsWhole setup core a → IsWhole setup core b → a.shares ≡ b.shares
shares_one setup core a b one other =
    share_row_same_by_shares a.shares b.shares
    (share_lists_same setup.code (showdown_in setup core) (nets_of setup.rakes core.pots) (shares_in a.shares) (shares_in b.shares) one.seats.shares other.seats.shares one.shares.shared other.shares.shared)

-- and their finishing stacks
finish_one : (setup : Setup) (core : TraceCore) (a b : Trace) → IsWhole setup core a → IsWhole setup core b → a.finish ≡ b.finish
finish_one setup core a b one other =
    seat_row_same_by_seats a.finish b.finish (one.seats.finish ∙ sym other.seats.finish) (λ seat least most.
    let within : seat ≤ setup.stacks.seats = omega (arith, most, one.seats.finish) in
    one.shares.finishes seat least within
    ∙ (ap (λ row. finishing_stack setup (plain_moves core.moves) (plain_shares row) seat) (shares_one setup core a b one other)
    ∙ sym (other.shares.finishes seat least within)))

-- the parts of a trace
trace_by : Setup → List Place → List Move → LiveRow → LiveRow → PotRow → ShareRow → SeatRow → Trace
trace_by setup places moves shown mucked pots shares finish =
    record { setup = setup; places = places; moves = moves; shown = shown; mucked = mucked; pots = pots; shares = shares; finish = finish }

-- so they are the same trace
whole_same : (setup : Setup) (core : TraceCore) (a b : Trace) → IsWhole setup core a → IsWhole setup core b → a ≡ b
unfolding trace_by
whole_same setup core a b one other =
    let said : core_said a ≡ core_said b = one.said ∙ sym other.said in
    ap (λ x. trace_by x a.places a.moves a.shown a.mucked a.pots a.shares a.finish) (one.same_setup ∙ sym other.same_setup)
    ∙ (ap (λ x. trace_by b.setup x a.moves a.shown a.mucked a.pots a.shares a.finish) (lists_same place_said place_same a.places b.places (ap (λ core. core.places) said))
    ∙ (ap (λ x. trace_by b.setup b.places x a.shown a.mucked a.pots a.shares a.finish) (lists_same move_said move_same a.moves b.moves (ap (λ core. core.moves) said))
    ∙ (ap (λ x. trace_by b.setup b.places b.moves x a.mucked a.pots a.shares a.finish) (flags_same setup.stacks.seats a.shown b.shown one.seats.shown other.seats.shown (ap (λ core. core.shown) said))
    ∙ (ap (λ x. trace_by b.setup b.places b.moves b.shown x a.pots a.shares a.finish) (flags_same setup.stacks.seats a.mucked b.mucked one.seats.mucked other.seats.mucked (ap (λ core. core.mucked) said))
    ∙ (ap (λ x. trace_by b.setup b.places b.moves b.shown b.mucked x a.shares a.finish)
    (pot_rows_same setup.stacks.seats a.pots b.pots one.seats.eligible other.seats.eligible one.seats.returned other.seats.returned (ap (λ core. core.pots) said) (returned_said setup core a one ∙ sym (returned_said setup core b other)))
    ∙ (ap (λ x. trace_by b.setup b.places b.moves b.shown b.mucked b.pots x a.finish) (shares_one setup core a b one other)
    ∙ ap (λ x. trace_by b.setup b.places b.moves b.shown b.mucked b.pots b.shares x) (finish_one setup core a b one other)))))))

-- a whole trace of a past is one of its core
whole : (setup : Setup) (past : Past) (trace : Trace) → IsTraceOf setup past trace → IsWhole setup (core_of setup past) trace
whole setup past trace is = record { same_setup = is.same_setup; seats = is.seats; said = is.core; shares = is.shares }

-- whole traces of two pasts are the same if and only if the pasts have the same core
pub one_core : (setup : Setup) (past later : Past) (trace other : Trace) → IsTraceOf setup past trace → IsTraceOf setup later other → (trace ≡ other) ↔ (core_of setup past ≡ core_of setup later)
one_core setup past later trace other is also =
    let P : TraceCore → Type 0 = λ core. IsWhole setup core other in (
      (λ same. sym is.core ∙ (ap core_said same ∙ also.core)),
      (λ same. whole_same setup (core_of setup past) trace other (whole setup past trace is) (subst P (sym same) (whole setup later other also))),
    )

-- so those of one past are the same
pub one_past : (setup : Setup) (past : Past) (trace other : Trace) → IsTraceOf setup past trace → IsTraceOf setup past other → trace ≡ other
one_past setup past trace other is also = (one_core setup past past trace other is also).1 refl
