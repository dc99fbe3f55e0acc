-- What is done in a legal past, by induction over its events.
use Rattle.std.proofs.Common.{◌≡◌, ℕ, ◌+◌, ◌-◌, ◌≤◌, ◌<◌, true, false, nat_le, inl, inr, None, List, [], ◌∷◌, refl, sym, ◌∙◌, ap, subst, arith, unwrap_or, if◌then◌else◌}
use Rattle.std.specs.List.{list_any}
use Rattle.std.proofs.lemmas.Bool.{or_cases, cases_lt, both_ways, eqb-true}
use Rattle.play_event.specs.declared.reason.Due.{Due}
use Rattle.play_event.specs.declared.reason.Due.TheVariants as dues
use Rattle.play_event.specs.declared.setup.Setup.{Setup}
use Rattle.play_event.specs.declared.setup.Rules.{Rules}
use Rattle.play_event.specs.Games.{street_count, hole_cards_on}
use Rattle.play_event.specs.Streets.{has_draw}
use Rattle.play_event.specs.Said as said
use Rattle.play_event.specs.Said.{Said}
use Rattle.play_event.specs.Past.{Past, Resolved, Move, Dealt, Boarded, Moved, Discarded, Shown, Mucked, moves_of, newest_street, street_of, moves_before}
use Rattle.play_event.specs.Seats.{is_live, live_count}
use Rattle.play_event.specs.Dealing.{is_deal_due, is_draw_due, hole_cards_dealt, has_drawn}
use Rattle.play_event.specs.Due.{turn, due_on, first_due, showdown, is_bring_in_due, is_move_due}
use Rattle.play_event.specs.Reasons.{why, is_due_kind}
use Rattle.play_event.specs.Scripts.{with_event, past_of, resolved_on}
use Rattle.play_event.specs.Laws.{AreLegal}
use Rattle.play_event.proofs.ReasonLaws.{no_reason_holds}
use Rattle.card_set.proofs.Tests.{false_true}
use Rattle.play_laws.specs.PastLaws.{PastLaw, DoneLaw, is_played_on}
use Rattle.play_laws.proofs.DueAtEvents.{Reaches, IsNotDue, turn_reaches}
use Rattle.play_laws.proofs.LegalEvents.{Stepped, stepped}
use Rattle.play_laws.proofs.ClosedBetting.{not_due_still}
use Rattle.play_laws.proofs.LegalPlaces.{legal_past}
use Rattle.play_laws.proofs.DoneKept.{on_street, before_same, all_early, none_before, done_or_live, live_dealt, live_drawn, dealt_more, drawn_still, is_live_at_start, most_dealt, most_board, played_several}
use Rattle.play_event.proofs.FloorLaws.{may_come_by}

-- with one live seat nothing is played
over_turn : (setup : Setup) (before : Past) → nat_le (live_count setup (moves_of before)) 1 ≡ true → (turn setup before).1 ≡ dues.Over
unfolding turn
over_turn setup before one =
    let here : ℕ × Due = (newest_street before, dues.Over) in
    ap (λ b. (if b then here else unwrap_or (first_due (due_on setup before) (street_count setup.code + 1 - newest_street before) (newest_street before)) (street_count setup.code, showdown setup before)).1) one

not_over : (setup : Setup) (before : Past) (event : Said) → nat_le (live_count setup (moves_of before)) 1 ≡ true → is_due_kind setup.code (turn setup before).1 event ≡ true → is_due_kind setup.code dues.Over event ≡ true
not_over setup before event one kind = sym (ap (λ d. is_due_kind setup.code d event) (over_turn setup before one)) ∙ kind

-- an event that is no show or muck is legal only if two or more seats are live
pub several_now : (setup : Setup) (rules : Rules) (before : Past) (street : ℕ) (event : Said) → why setup rules before event ≡ None → nat_le (live_count setup (moves_of before)) 1 ≡ true → is_played_on street (resolved_on setup before (turn setup before).0 event) ≡ true → ⊥
several_now setup rules before street (said.Hole seat cards) legal one plays = both_ways false refl (not_over setup before (said.Hole seat cards) one (may_come_by (is_due_kind setup.code (turn setup before).1 (said.Hole seat cards)) false (no_reason_holds setup rules before (said.Hole seat cards) legal).1.0))
several_now setup rules before street (said.Board cards) legal one plays = both_ways false refl (not_over setup before (said.Board cards) one (may_come_by (is_due_kind setup.code (turn setup before).1 (said.Board cards)) false (no_reason_holds setup rules before (said.Board cards) legal).1.0))
several_now setup rules before street (said.Fold named) legal one plays = both_ways false refl (not_over setup before (said.Fold named) one (may_come_by (is_due_kind setup.code (turn setup before).1 (said.Fold named)) false (no_reason_holds setup rules before (said.Fold named) legal).1.0))
several_now setup rules before street (said.Call named stated) legal one plays = both_ways false refl (not_over setup before (said.Call named stated) one (may_come_by (is_due_kind setup.code (turn setup before).1 (said.Call named stated)) false (no_reason_holds setup rules before (said.Call named stated) legal).1.0))
several_now setup rules before street (said.Raise named amount) legal one plays = both_ways false refl (not_over setup before (said.Raise named amount) one (may_come_by (is_due_kind setup.code (turn setup before).1 (said.Raise named amount)) false (no_reason_holds setup rules before (said.Raise named amount) legal).1.0))
several_now setup rules before street (said.BringIn named) legal one plays = both_ways false refl (not_over setup before (said.BringIn named) one (may_come_by (is_due_kind setup.code (turn setup before).1 (said.BringIn named)) false (no_reason_holds setup rules before (said.BringIn named) legal).1.0))
several_now setup rules before street (said.Discard seat cards) legal one plays = both_ways false refl (not_over setup before (said.Discard seat cards) one (may_come_by (is_due_kind setup.code (turn setup before).1 (said.Discard seat cards)) false (no_reason_holds setup rules before (said.Discard seat cards) legal).1.0))
several_now setup rules before street (said.Show seat cards) legal one plays = both_ways false refl plays
several_now setup rules before street (said.Muck seat) legal one plays = both_ways false refl plays

-- an event that is played on a street is on it
plays_here : (street : ℕ) (event : Resolved) → is_played_on street event ≡ true → street_of event ≡ street
plays_here street (Dealt on owner cards) is = eqb-true on street is
plays_here street (Boarded on cards) is = eqb-true on street is
plays_here street (Moved move) is = eqb-true move.street street is
plays_here street (Discarded on owner cards) is = eqb-true on street is
plays_here street (Shown on owner cards) is = false_true is
plays_here street (Mucked on owner) is = false_true is

-- what was played was played up to the newest street
abbrev pub AreOn : ℕ → Past → Type 0
AreOn newest [] = Unit {0}
AreOn newest (event ∷ before) = (street_of event ≤ newest) × AreOn newest before

on_more : (newest street : ℕ) (before : Past) → newest ≤ street → AreOn newest before → AreOn street before
on_more newest street [] most on = tt
on_more newest street (event ∷ before) most on = (omega (arith, most, on.0), on_more newest street before most on.1)

-- an event of a street is not later than the newest street
pub played_on : (newest street : ℕ) (before : Past) → AreOn newest before → list_any (is_played_on street) before ≡ true → street ≤ newest
played_on newest street [] on is = false_true is
played_on newest street (event ∷ before) on is = elim (or_cases (is_played_on street event) (list_any (is_played_on street) before) is) [
  | inl now ↦ omega (arith, plays_here street event now, on.0)
  | inr earlier ↦ played_on newest street before on.1 earlier
]

-- the laws with one more event
earlier_still : (setup : Setup) (before : Past) (at : ℕ) (event : Resolved) → DoneLaw setup before → Reaches setup before at → street_of event ≡ at → (street : ℕ) → 1 ≤ street → street < street_of event → IsNotDue setup (event ∷ before) street
earlier_still setup before at event law come on street some less =
    not_due_still setup before event street (λ same. omega (arith, same, less)) (none_before setup before at street law come some (omega (arith, on, less)))

closed_still : (setup : Setup) (before : Past) (at : ℕ) (event : Resolved) → PastLaw setup before → DoneLaw setup before → Reaches setup before at → street_of event ≡ at → (street later : ℕ) → 1 ≤ street → street < later → later ≤ street_of event → (is_bring_in_due setup (moves_before later (moves_of (event ∷ before))) street ≡ false) × (is_move_due setup (moves_before later (moves_of (event ∷ before))) street ≡ false)
closed_still setup before at event past law come on street later some less most =
    let P : List Move → Type 0 = λ l. (is_bring_in_due setup l street ≡ false) × (is_move_due setup l street ≡ false) in
    subst P (sym (before_same event before later most)) (elim (cases_lt (newest_street before) later) [
      | inr early ↦ law.closed street later some less early
      | inl new ↦
          let none = none_before setup before at street law come some (omega (arith, less, most, on)) in
          subst P (sym (all_early (newest_street before) later (moves_of before) past.moved new)) (none.no_bring, none.no_move)
    ])

dealt_still : (setup : Setup) (before : Past) (at : ℕ) (event : Resolved) → PastLaw setup before → DoneLaw setup before → Reaches setup before at → Stepped setup before at event → (street seat : ℕ) → 1 ≤ street → 1 ≤ seat → seat ≤ setup.stacks.seats → is_deal_due setup (event ∷ before) street ≡ false → is_live (moves_before street (moves_of (event ∷ before))) seat ≡ true → hole_cards_on setup.code street ≤ hole_cards_dealt (event ∷ before) street seat
dealt_still setup before at event past law come step street seat some least most none live = elim (done_or_live setup before at street seat event past law come step some live) [
  | inl live_now ↦ live_dealt setup (event ∷ before) street seat none live_now least most
  | inr done ↦ omega (arith, law.dealt street seat some least most done.0 (is_live_at_start event before street seat live), dealt_more before event street seat)
]

drawn_again : (setup : Setup) (before : Past) (at : ℕ) (event : Resolved) → PastLaw setup before → DoneLaw setup before → Reaches setup before at → Stepped setup before at event → (street seat : ℕ) → 1 ≤ street → 1 ≤ seat → seat ≤ setup.stacks.seats → has_draw setup.code street ≡ true → is_draw_due setup (event ∷ before) street ≡ false → is_live (moves_before street (moves_of (event ∷ before))) seat ≡ true → has_drawn (event ∷ before) street seat ≡ true
drawn_again setup before at event past law come step street seat some least most draws_there none live = elim (done_or_live setup before at street seat event past law come step some live) [
  | inl live_now ↦ live_drawn setup (event ∷ before) street seat draws_there none live_now least most
  | inr done ↦ drawn_still before event street seat (law.drawn street seat some least most draws_there done.1 (is_live_at_start event before street seat live))
]

-- a legal event keeps what is done
pub done_law : (setup : Setup) (before : Past) (at : ℕ) (event : Resolved) → PastLaw setup before → DoneLaw setup before → AreOn (newest_street before) before → Reaches setup before at → Stepped setup before at event → ((street : ℕ) → nat_le (live_count setup (moves_of before)) 1 ≡ true → is_played_on street event ≡ true → ⊥) → DoneLaw setup (event ∷ before)
done_law setup before at event past law are_on come step never =
    let on = on_street setup before at event step in
    record {
      earlier = λ street some less. let it = earlier_still setup before at event law come on street some less in (it.no_deal, (it.no_draw, (it.no_bring, it.no_move)));
      closed = closed_still setup before at event past law come on;
      dealt_most = most_dealt setup before at event step law.dealt_most;
      board_most = most_board setup before at event step law.board_most;
      dealt = dealt_still setup before at event past law come step;
      drawn = drawn_again setup before at event past law come step;
      several = λ street is. elim (or_cases (is_played_on street event) (list_any (is_played_on street) before) is) [
        | inl now ↦
            ap (λ l. nat_le (live_count setup l) 1) (before_same event before street (omega (arith, plays_here street event now)))
            ∙ played_several setup before at street event step (never street) now
        | inr earlier ↦
            ap (λ l. nat_le (live_count setup l) 1) (before_same event before street (omega (arith, played_on (newest_street before) street before are_on earlier, on, come.on)))
            ∙ law.several street earlier
      ];
    }

-- what is kept through legal events
pub record LegalDone (setup : Setup) (before : Past) : Type 0 where
  pub done : DoneLaw setup before
  pub are_on : AreOn (newest_street before) before

-- legal events leave earlier streets done
pub legal_done : (setup : Setup) (rules : Rules) (events : List Said) → AreLegal setup rules events → LegalDone setup (past_of setup events)
unfolding with_event
legal_done setup rules [] legal =
    record {
      done = record {
        earlier = λ street some less. absurd (omega (arith, some, less));
        closed = λ street later some less most. absurd (omega (arith, some, less, most));
        dealt_most = λ street seat none. omega arith;
        board_most = λ street. omega arith;
        dealt = λ street seat some least most none live. live_dealt setup [] street seat none live least most;
        drawn = λ street seat some least most draws_there none live. live_drawn setup [] street seat draws_there none live least most;
        several = λ street is. false_true is;
      };
      are_on = tt;
    }
legal_done setup rules (event ∷ events) legal =
    let before = past_of setup events in
    let it = legal_done setup rules events legal.1 in
    let law = legal_past setup rules events legal.1 in
    let come = turn_reaches setup before law.past.within in
    let step = stepped setup rules before event legal.0 in
    let on = on_street setup before (turn setup before).0 _ step in
    record {
      done = done_law setup before (turn setup before).0 _ law.past it.done it.are_on come step (λ street one plays. several_now setup rules before street event legal.0 one plays);
      are_on = (omega arith, on_more (newest_street before) _ before (omega (arith, on, come.on)) it.are_on);
    }
