-- Legal events keep what holds of a legal past.
use Rattle.std.proofs.Common.{◌≡◌, ◌≢◌, ℕ, ◌≤◌, ◌<◌, true, false, ◌&&◌, ◌||◌, ◌==◌, not, nat_lt, inl, inr, ◌⊎◌, Some, List, [], ◌∷◌, length, refl, sym, ◌∙◌, ap, arith, if◌then◌else◌}
use Rattle.std.specs.List.{list_any}
use Rattle.std.proofs.lemmas.Bool.{or_cases, and_parts, and_right, ne_eqb, eqb-true, cases_eq, cases_Bool, both_ways, cases_lt, false_from_ne_true, not-true}
use Rattle.card_set.specs.declared.card.Slot.{Slot}
use Rattle.play_event.specs.declared.setup.Setup.{Setup}
use Rattle.play_event.specs.Streets.{has_draw}
use Rattle.play_event.specs.Past.{Past, Resolved, Move, Dealt, Boarded, Moved, Discarded, Shown, Mucked, moves_of, newest_street}
use Rattle.play_event.specs.Seats.{is_live, all_seats}
use Rattle.play_event.specs.Dealing.{is_deal_due, is_draw_due, hole_cards_dealt, hole_cards_owed, cards_discarded, replacements_owed, cards_owed, has_drawn, next_to_draw}
use Rattle.play_laws.specs.PastLaws.{AreReached, has_move, PastLaw}
use Rattle.play_laws.proofs.DueAtEvents.{Reaches, not_due}
use Rattle.play_laws.proofs.LegalEvents.{Stepped, deals, boards, moves, discards, shows, mucks}
use Rattle.play_laws.proofs.SettledStreets.{deal_still, draw_still, is_discard_on, replaced_still, none_owed}
use Rattle.std.specs.Option.{is_some}
use Rattle.card_set.proofs.NumbersOfRange.{found_in_range}

-- on a street other than that of the turn no seat is owed cards for its discards
pub owed_elsewhere : (setup : Setup) (before : Past) (at street seat : ℕ) → PastLaw setup before → Reaches setup before at → 1 ≤ seat → seat ≤ setup.stacks.seats → street ≢ at → replacements_owed before street seat ≡ 0
owed_elsewhere setup before at street seat law come least most other = elim (cases_eq street (newest_street before)) [
  | inr differ ↦ law.owed_now street seat least most differ
  | inl same ↦ elim (cases_Bool (has_draw setup.code street)) [
    | inr never ↦ omega (arith, law.undrawn street seat never)
    | inl draws_there ↦ none_owed setup before street seat draws_there (not_due setup before street (come.quiet street (omega (arith, same)) (below same))).no_draw least most
  ]
]
  where
    below : street ≡ newest_street before → street < at
    below same = elim (cases_lt street at) [ inl less ↦ less | inr more ↦ absurd (other (omega (arith, more, same, come.on))) ]

-- and when a move is due none is owed cards at all
owed_none : (setup : Setup) (before : Past) (at street seat : ℕ) → PastLaw setup before → Reaches setup before at → is_draw_due setup before at ≡ false → 1 ≤ seat → seat ≤ setup.stacks.seats → replacements_owed before street seat ≡ 0
owed_none setup before at street seat law come no_draw least most = elim (cases_eq street at) [
  | inr differ ↦ owed_elsewhere setup before at street seat law come least most differ
  | inl same ↦ elim (cases_Bool (has_draw setup.code street)) [
    | inr never ↦ omega (arith, law.undrawn street seat never)
    | inl draws_there ↦ none_owed setup before street seat draws_there (ap (is_draw_due setup before) same ∙ no_draw) least most
  ]
]

-- the seat that draws next is a live seat of the hand that has not drawn on the street
pub record DrawsNext (setup : Setup) (before : Past) (street seat : ℕ) : Type 0 where
  pub live : is_live (moves_of before) seat ≡ true
  pub undrawn : has_drawn before street seat ≡ false
  pub least : 1 ≤ seat
  pub most : seat ≤ setup.stacks.seats

-- who draws next is live and has not drawn
pub is_next_to_draw : (setup : Setup) (before : Past) (street seat : ℕ) → next_to_draw setup before street ≡ Some seat → DrawsNext setup before street seat
is_next_to_draw setup before street seat is =
    let it = found_in_range (λ seat. is_live (moves_of before) seat && not (has_drawn before street seat)) 1 setup.stacks.seats seat is in
    let parts = and_parts (is_live (moves_of before) seat) (not (has_drawn before street seat)) it.0 in
    record { live = parts.0; undrawn = not-true (has_drawn before street seat) parts.1; least = it.1.0; most = omega (arith, it.1.1) }

-- moves up to a street are up to a later one
pub reached_more : (newest street : ℕ) (list : List Move) → newest ≤ street → AreReached newest list → AreReached street list
reached_more newest street [] on all = tt
reached_more newest street (move ∷ rest) on all = (omega (arith, on, all.0), reached_more newest street rest on all.1)

-- no draw begins on a street without draws
pub drawing : (setup : Setup) (before : Past) (street : ℕ) → is_draw_due setup before street ≡ true → has_draw setup.code street ≡ true
drawing setup before street is = (and_parts (has_draw setup.code street) (is_some (next_to_draw setup before street) || list_any (λ seat. nat_lt 0 (replacements_owed before street seat)) (all_seats setup)) is).0

unmoved_by : (setup : Setup) (before : Past) (street : ℕ) → PastLaw setup before → (is_deal_due setup before street ≡ false → is_draw_due setup before street ≡ false → ⊥) → has_move street (moves_of before) ≡ false
unmoved_by setup before street law never = false_from_ne_true (has_move street (moves_of before)) (λ is. let done = law.moved_done street is in never done.0 done.1)

-- a street with a deal or a draw due has no move yet
pub unmoved_deal : (setup : Setup) (before : Past) (street : ℕ) → PastLaw setup before → (is_deal_due setup before street ≡ true) ⊎ ((is_deal_due setup before street ≡ false) × (is_draw_due setup before street ≡ true)) → has_move street (moves_of before) ≡ false
unmoved_deal setup before street law (inl is) = unmoved_by setup before street law (λ no_deal no_draw. both_ways (is_deal_due setup before street) no_deal is)
unmoved_deal setup before street law (inr is) = unmoved_by setup before street law (λ no_deal no_draw. both_ways (is_draw_due setup before street) no_draw is.1)

-- what is done stays done
done_still : (setup : Setup) (before : Past) (event : Resolved) (street : ℕ) → is_discard_on street event ≡ false → (is_deal_due setup before street ≡ false) × (is_draw_due setup before street ≡ false) → (is_deal_due setup (event ∷ before) street ≡ false) × (is_draw_due setup (event ∷ before) street ≡ false)
done_still setup before event street no_discard done = (deal_still setup before event street done.0, draw_still setup before event street no_discard done.1)

-- what stays the same for events other than moves and discards
still_owed : (setup : Setup) (before : Past) (event : Resolved) (at street seat : ℕ) → PastLaw setup before → Reaches setup before at → is_discard_on street event ≡ false → 1 ≤ seat → seat ≤ setup.stacks.seats → street ≢ at → replacements_owed (event ∷ before) street seat ≡ 0
still_owed setup before event at street seat law come no_discard least most other =
    omega (arith, replaced_still before event street seat no_discard, owed_elsewhere setup before at street seat law come least most other)

deal_counts : (setup : Setup) (before : Past) (at seat : ℕ) (cards : List Slot) → PastLaw setup before → 1 ≤ length cards → length cards ≤ cards_owed setup before at seat → (street other : ℕ) → has_draw setup.code street ≡ true → hole_cards_dealt (Dealt at seat cards ∷ before) street other ≤ cards_discarded before street other
deal_counts setup before at seat cards law some few street other draws_there = elim (cases_Bool ((at == street) && (seat == other))) [
  | inr never ↦ omega (arith, ap (λ b. if b then length cards else 0) never, law.drawn_count street other draws_there)
  | inl here ↦
      let parts = and_parts (at == street) (seat == other) here in
      let on : at ≡ street = eqb-true at street parts.0 in
      let same : seat ≡ other = eqb-true seat other parts.1 in
      let owed : cards_owed setup before street other ≡ replacements_owed before street other = ap (λ b. if b then replacements_owed before street other else hole_cards_owed setup before street other) draws_there in
      let moved : cards_owed setup before at seat ≡ cards_owed setup before street other = ap (λ a. cards_owed setup before a seat) on ∙ ap (cards_owed setup before street) same in
      omega (arith, ap (λ b. if b then length cards else 0) here, some, few, owed, moved)
]

-- a legal event keeps the law of pasts
pub past_law : (setup : Setup) (before : Past) (at : ℕ) (event : Resolved) → PastLaw setup before → Reaches setup before at → Stepped setup before at event → PastLaw setup (event ∷ before)
past_law setup before at _ law come (deals seat cards due is some few free) =
    record {
      within = come.within;
      since = omega (arith, law.since, come.on);
      moved = reached_more (newest_street before) at (moves_of before) come.on law.moved;
      moved_done = λ street has. done_still setup before (Dealt at seat cards) street refl (law.moved_done street has);
      drawn_count = deal_counts setup before at seat cards law some few;
      undrawn = law.undrawn;
      owed_now = λ street other least most differ. still_owed setup before (Dealt at seat cards) at street other law come refl least most differ;
      folded_owed = λ street other least most folded. omega (arith, replaced_still before (Dealt at seat cards) street other refl, law.folded_owed street other least most folded);
    }
past_law setup before at _ law come (boards cards due some few free) =
    record {
      within = come.within;
      since = omega (arith, law.since, come.on);
      moved = reached_more (newest_street before) at (moves_of before) come.on law.moved;
      moved_done = λ street has. done_still setup before (Boarded at cards) street refl (law.moved_done street has);
      drawn_count = law.drawn_count;
      undrawn = law.undrawn;
      owed_now = λ street other least most differ. still_owed setup before (Boarded at cards) at street other law come refl least most differ;
      folded_owed = law.folded_owed;
    }
past_law setup before at _ law come (shows seat cards may free) =
    record {
      within = come.within;
      since = omega (arith, law.since, come.on);
      moved = reached_more (newest_street before) at (moves_of before) come.on law.moved;
      moved_done = λ street has. done_still setup before (Shown at seat cards) street refl (law.moved_done street has);
      drawn_count = law.drawn_count;
      undrawn = law.undrawn;
      owed_now = λ street other least most differ. still_owed setup before (Shown at seat cards) at street other law come refl least most differ;
      folded_owed = law.folded_owed;
    }
past_law setup before at _ law come (mucks seat may) =
    record {
      within = come.within;
      since = omega (arith, law.since, come.on);
      moved = reached_more (newest_street before) at (moves_of before) come.on law.moved;
      moved_done = λ street has. done_still setup before (Mucked at seat) street refl (law.moved_done street has);
      drawn_count = law.drawn_count;
      undrawn = law.undrawn;
      owed_now = λ street other least most differ. still_owed setup before (Mucked at seat) at street other law come refl least most differ;
      folded_owed = law.folded_owed;
    }
past_law setup before at _ law come (discards seat cards no_deal draw next few free held) =
    let who = is_next_to_draw setup before at seat next in
    record {
      within = come.within;
      since = omega (arith, law.since, come.on);
      moved = reached_more (newest_street before) at (moves_of before) come.on law.moved;
      moved_done = λ street has. done_still setup before (Discarded at seat cards) street (ne_eqb at street (λ same. both_ways (is_draw_due setup before street) (law.moved_done street has).1 (sym (ap (is_draw_due setup before) same) ∙ draw))) (law.moved_done street has);
      drawn_count = λ street other draws_there. omega (arith, law.drawn_count street other draws_there);
      undrawn = λ street other none. omega (arith, law.undrawn street other none, ap (λ b. if b && (seat == other) then length cards else 0) (ne_eqb at street (λ same. both_ways (has_draw setup.code street) none (sym (ap (has_draw setup.code) same) ∙ drawing setup before at draw))));
      owed_now = λ street other least most differ. still_owed setup before (Discarded at seat cards) at street other law come (ne_eqb at street (λ same. differ (sym same))) least most differ;
      folded_owed = λ street other least most folded.
          let not_he : ((at == street) && (seat == other)) ≡ false = and_right (at == street) (seat == other) (ne_eqb seat other (λ same. both_ways (is_live (moves_of before) other) folded (ap (is_live (moves_of before)) (sym same) ∙ who.live))) in
          omega (arith, ap (λ b. if b then length cards else 0) not_he, law.folded_owed street other least most folded);
    }
past_law setup before at _ law come (moves move no_deal no_draw on) =
    record {
      within = omega (arith, on, come.within);
      since = omega (arith, on, law.since, come.on);
      moved = (omega arith, reached_more (newest_street before) move.street (moves_of before) (omega (arith, on, come.on)) law.moved);
      moved_done = λ street has. elim (or_cases (move.street == street) (has_move street (moves_of before)) has) [
        | inl here ↦
            let same : at ≡ street = sym on ∙ eqb-true move.street street here in
            done_still setup before (Moved move) street refl (ap (is_deal_due setup before) (sym same) ∙ no_deal, ap (is_draw_due setup before) (sym same) ∙ no_draw)
        | inr before_it ↦ done_still setup before (Moved move) street refl (law.moved_done street before_it)
      ];
      drawn_count = law.drawn_count;
      undrawn = law.undrawn;
      owed_now = λ street other least most differ. owed_none setup before at street other law come no_draw least most;
      folded_owed = λ street other least most folded. owed_none setup before at street other law come no_draw least most;
    }
