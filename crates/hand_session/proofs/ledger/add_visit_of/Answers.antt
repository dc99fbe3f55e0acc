-- The row of the name gets the visit.
use Rattle.std.proofs.Common.{◌≡◌, ℕ, ◌≤◌, ◌-◌, ◌++◌, List, slice_set, sym, ap, subst, ◌∙◌, arith}
use Rattle.printed_hands.specs.Indexed.{AreIndexed}
use Rattle.hand_session.specs.declared.player_sessions.PlayerSession.{PlayerSession}
use Rattle.hand_session.specs.declared.steps.Step.{Step}
use Rattle.hand_session.specs.Visits.{IsOfHands, MOST_OF_HAND, session_at, session_names, visit_seat, visit_steps, with_visit}
use Rattle.hand_session.proofs.RowPlaces.{IsRowOf, names_after, names_with, row_is}
use Rattle.hand_session.proofs.ledger.add_visit_of.Goals as goal

pub index-requires : goal.index-requires
index-requires c =
    let at = row_is c.args.ledger.now.rows.items c.session_index.new.ledger.rows.items c.args.name.now c.args.visit c.in_ok-place.place c.in_ok-place.ensures.rows c.in_ok-place.ensures.place in
    omega (arith, at.within)

pub push_steps-requires-clause-last : goal.push_steps-requires-clause-last
push_steps-requires-clause-last c =
    let at = row_is c.args.ledger.now.rows.items c.session_index.new.ledger.rows.items c.args.name.now c.args.visit c.in_ok-place.place c.in_ok-place.ensures.rows c.in_ok-place.ensures.place in
    subst (λ (row : PlayerSession). row.last ≤ MOST_OF_HAND) (sym (c.index.ensures ∙ at.got c.index.result.now)) c.requires.within.last

pub index_mut-requires : goal.index_mut-requires
index_mut-requires c =
    let at = row_is c.args.ledger.now.rows.items c.session_index.new.ledger.rows.items c.args.name.now c.args.visit c.in_ok-place.place c.in_ok-place.ensures.rows c.in_ok-place.ensures.place in
    omega (arith, at.within)

pub add_visit-requires-clause-row : goal.add_visit-requires-clause-row
add_visit-requires-clause-row c =
    let at = row_is c.args.ledger.now.rows.items c.session_index.new.ledger.rows.items c.args.name.now c.args.visit c.in_ok-place.place c.in_ok-place.ensures.rows c.in_ok-place.ensures.place in
    (c.args.number - 1, omega (arith, c.requires.hand.first, c.requires.hand.few), subst (IsOfHands (c.args.number - 1)) (sym (c.index_mut.ensures.value ∙ at.got c.index_mut.result.now)) c.requires.within)

-- what the ledger holds after the visit
module _ (c : goal.After-ledger-1) where
  abbrev old : List PlayerSession
  old = c.args.ledger.now.rows.items

  abbrev name : List ℕ
  name = c.args.name.now

  at : IsRowOf old c.session_index.new.ledger.rows.items name c.args.visit c.in_ok-place.place
  at = row_is old c.session_index.new.ledger.rows.items name c.args.visit c.in_ok-place.place c.in_ok-place.ensures.rows c.in_ok-place.ensures.place

  put : slice_set c.session_index.new.ledger.rows.items c.in_ok-place.place c.add_visit.new.row ≡ visit_seat old name c.args.visit
  put =
      ap (slice_set c.session_index.new.ledger.rows.items c.in_ok-place.place) (c.add_visit.ensures ∙ ap (λ (row : PlayerSession). with_visit row c.args.visit) (c.index_mut.ensures.value ∙ at.got c.index_mut.result.now))
      ∙ at.put

pub returns : goal.returns
returns c = record {
  names =
      subst (AreIndexed c.session_index.new.ledger.names)
      (ap session_names c.in_ok-place.ensures.rows
      ∙ names_with (old c) (name c)
      ∙ sym (names_after (old c) (name c) c.args.visit)
      ∙ ap session_names (sym (put c)))
      c.in_ok-place.ensures.names;
  rows = put c;
  steps =
      c.in_ok-push_steps.ensures
      ∙ ap (λ (row : PlayerSession). c.session_index.new.ledger.steps.items ++ visit_steps c.args.number row c.args.visit) (c.index.ensures ∙ (at c).got c.index.result.now)
      ∙ ap (λ (steps : List Step). steps ++ visit_steps c.args.number (session_at (old c) (name c)) c.args.visit) (ap (λ v. v.items) c.in_ok-place.ensures.steps);
}
