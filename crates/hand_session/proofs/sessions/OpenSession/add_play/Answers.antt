-- One more hand.
use Rattle.std.proofs.Common.{◌≡◌, ℕ, ◌+◌, ◌-◌, cond, List, [], ◌∷◌, ◌++◌, map, fold, sum_by, length, length-append, sym, ap, subst, ◌∙◌, arith}
use Rattle.std.proofs.lemmas.List.{length-map, map-append}
use Rattle.hand_canon.specs.declared.trace.Play.{Play}
use Rattle.printed_hands.specs.Names.{with_name}
use Rattle.hand_session.specs.declared.sessions.OpenSession.{OpenSession}
use Rattle.hand_session.specs.declared.steps.Step.{Step}
use Rattle.hand_session.specs.Hands.{Hand, hand_of}
use Rattle.hand_session.specs.SoFar.{IsSessionSoFar}
use Rattle.hand_session.specs.Sessions.{names_among, names_of, session_of_name, steps_after}
use Rattle.hand_session.specs.Visits.{IsOfHands, session_at, session_names, steps_of_names, visit_in, with_names, with_visit}
use Rattle.hand_session.proofs.SeatNames.{any_names, distinct_names, names_of_more}
use Rattle.hand_session.proofs.HandByHand.{rakes_more, row_more, seated_more, steps_after_more, steps_hand, within_more}
use Rattle.hand_session.proofs.HandChips.{rake_within}
use Rattle.hand_session.proofs.RowUpdates.{at_names, names_of_rows}
use Rattle.hand_session.proofs.VisitBounds.{visit_within}
use Rattle.hand_session.proofs.sessions.OpenSession.add_play.Goals as goal

pub overflow_add-number : goal.overflow_add-number
overflow_add-number c = omega (arith, c.requires.1.hands, c.requires.2)

pub add_hand-requires-clause-hand : goal.add_hand-requires-clause-hand
add_hand-requires-clause-hand c = record {
  names = c.requires.1.indexed;
  first = omega arith;
  few = omega (arith, c.requires.1.hands, c.requires.2);
}

pub add_hand-requires-clause-within : goal.add_hand-requires-clause-within
add_hand-requires-clause-within c name =
    let before = c.requires.0 in
    let so_far = c.requires.1 in
    let same : length before ≡ c.args.self.now.hands + 1 - 1 = omega (arith, so_far.hands) in
    subst (λ (count : ℕ). IsOfHands count (session_at c.args.self.now.ledger.rows.items name)) same
    (subst (IsOfHands (length before)) (sym (so_far.rows name)) (so_far.within name))

pub rakes_of-rake-requires : goal.rakes_of-rake-requires
rakes_of-rake-requires c = omega (arith, rake_within c.play-play.result.now c.play-play.ensures.sound)

pub overflow_add-self : goal.overflow_add-self
overflow_add-self c =
    omega (arith, rake_within c.play-play.result.now c.play-play.ensures.sound, c.rakes_of-rake.ensures, c.requires.1.few, c.requires.2)

pub returns : goal.returns
returns c = λ before so_far.
    let play = c.play-play.result.now in
    let hand = hand_of play in
    let hands = map hand_of before in
    let rows = c.args.self.now.ledger.rows.items in
    let more : map hand_of (before ++ play ∷ []) ≡ hands ++ hand ∷ [] = map-append hand_of before (play ∷ []) in
    let many : length hands ≡ length before = length-map before hand_of in
    let one_more : length (before ++ play ∷ []) ≡ length before + 1 = length-append before (play ∷ []) in
    let rows_are : c.add_hand.new.ledger.rows.items ≡ with_names hand rows (names_among hand.seats) = c.in_ok-add_hand.ensures.rows in
    let it : OpenSession =
    record { ledger = c.add_hand.new.ledger; hands = c.args.self.now.hands + 1; rake = c.args.self.now.rake + c.rakes_of-rake.result } in
    subst (λ (play : Play). IsSessionSoFar it (before ++ play ∷ [])) c.play-play.ensures.same (record {
      indexed = c.in_ok-add_hand.ensures.names;
      names =
          ap session_names rows_are
          ∙ names_of_rows hand rows (names_among hand.seats)
          ∙ ap (λ names. fold with_name names (names_among hand.seats)) so_far.names
          ∙ sym (names_of_more hands hand (seated_more hands hand))
          ∙ ap names_of (sym more);
      rows = λ name.
          ap (λ some. session_at some name) rows_are
          ∙ at_names hand rows (names_among hand.seats) name (distinct_names hand.seats)
          ∙ (λ i. cond (any_names name hand.seats i) (with_visit (so_far.rows name i) (visit_in name hand)) (so_far.rows name i))
          ∙ sym (row_more hands hand name)
          ∙ ap (λ some. session_of_name some name) (sym more);
      within = λ name.
          subst (λ some. IsOfHands (length (before ++ play ∷ [])) (session_of_name some name)) (sym more)
          (subst (λ (count : ℕ). IsOfHands count (session_of_name (hands ++ hand ∷ []) name)) (sym one_more)
          (within_more (length before) hands hand name (visit_within play name) (so_far.within name)));
      steps =
          c.in_ok-add_hand.ensures.steps
          ∙ ap (λ (steps : List Step). steps ++ steps_of_names (c.args.self.now.hands + 1) hand rows (names_among hand.seats)) so_far.steps
          ∙ ap (λ (steps : List Step). steps_after [] hands ++ steps) (steps_hand (c.args.self.now.hands + 1) hands hand rows so_far.rows (omega (arith, so_far.hands, many)))
          ∙ sym (steps_after_more [] hands hand)
          ∙ ap (steps_after []) (sym more);
      hands = omega (arith, so_far.hands, one_more);
      rake =
          omega (
            arith,
            so_far.rake,
            c.rakes_of-rake.ensures,
            rakes_more hands hand,
            ap (λ some. sum_by (λ (one : Hand). one.rake) some) more,
          );
      few = omega (arith, rake_within play c.play-play.ensures.sound, c.rakes_of-rake.ensures, so_far.few, one_more);
    })
