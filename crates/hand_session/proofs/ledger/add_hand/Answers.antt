-- One more seat.
use Rattle.std.proofs.Common.{◌≡◌, ℕ, ◌+◌, ◌-◌, ◌++◌, List, false, map, ap, sym, subst, ◌∙◌, arith}
use Rattle.std.proofs.lemmas.List.{append_assoc}
use Rattle.std.specs.List.{list_any}
use Rattle.chip_ledger.specs.Seat.{seats_of}
use Rattle.hand_session.specs.declared.player_sessions.PlayerSession.{PlayerSession}
use Rattle.hand_session.specs.declared.steps.Step.{Step}
use Rattle.hand_session.specs.Hands.{Seated, hand_of, seated_in}
use Rattle.hand_session.specs.Sessions.{is_named, names_among}
use Rattle.hand_session.specs.Visits.{IsOfHands, after_seat, session_at, steps_of_names, steps_of_seat, with_names}
use Rattle.hand_session.proofs.SeatNames.{any_names}
use Rattle.hand_session.proofs.RowUpdates.{at_others, rows_more, steps_more}
use Rattle.hand_session.proofs.SeatBySeat.{seats_more}
use Rattle.hand_session.proofs.ledger.add_hand.Goals as goal

-- the seats before the one with the next index
seats_before : (index : ℕ) → seats_of (index + 1 - 1) ≡ seats_of index
seats_before index = ap seats_of (omega arith)

pub add_seat-requires-clause-within : goal.add_seat-requires-clause-within
add_seat-requires-clause-within c none =
    let play = c.args.play.now in
    let index = c.loop-index.index in
    let before = map (seated_in play) (seats_of index) in
    let name = (seated_in play (index + 1)).name in
    let missing : list_any (is_named name) before ≡ false =
    subst (λ (seats : List ℕ). list_any (is_named name) (map (seated_in play) seats) ≡ false) (seats_before index) none in
    let same : session_at c.loop-index.ledger.rows.items name ≡ session_at c.args.ledger.now.rows.items name =
    ap (λ rows. session_at rows name) c.loop-index.invariant.rows
    ∙ at_others (hand_of play) c.args.ledger.now.rows.items (names_among before) name (any_names name before ∙ missing) in
    subst (IsOfHands (c.args.number - 1)) (sym same) (c.requires.within name)

pub add_seat-requires-clause-hand : goal.add_seat-requires-clause-hand
add_seat-requires-clause-hand c = record { names = c.loop-index.invariant.names; first = c.requires.hand.first; few = c.requires.hand.few }

pub loop-index-preserved : goal.loop-index-preserved
loop-index-preserved c =
    let play = c.args.play.now in
    let index = c.loop-index.index in
    let number = c.args.number in
    let hand = hand_of play in
    let rows = c.args.ledger.now.rows.items in
    let before = map (seated_in play) (seats_of index) in
    let seat = seated_in play (index + 1) in
    let so_far = with_names hand rows (names_among before) in
    record {
      names = c.in_ok-add_seat.ensures.names;
      rows =
          c.in_ok-add_seat.ensures.rows
          ∙ ap (λ (seats : List ℕ). after_seat hand (map (seated_in play) seats) c.loop-index.ledger.rows.items seat.name) (seats_before index)
          ∙ ap (λ (some : List PlayerSession). after_seat hand before some seat.name) c.loop-index.invariant.rows
          ∙ rows_more hand rows before seat
          ∙ ap (λ (seats : List Seated). with_names hand rows (names_among seats)) (sym (seats_more play index));
      steps =
          c.in_ok-add_seat.ensures.steps
          ∙ ap (λ (seats : List ℕ). c.loop-index.ledger.steps.items ++ steps_of_seat number hand (map (seated_in play) seats) c.loop-index.ledger.rows.items seat.name) (seats_before index)
          ∙ ap (λ (some : List PlayerSession). c.loop-index.ledger.steps.items ++ steps_of_seat number hand before some seat.name) c.loop-index.invariant.rows
          ∙ ap (λ (steps : List Step). steps ++ steps_of_seat number hand before so_far seat.name) c.loop-index.invariant.steps
          ∙ append_assoc c.args.ledger.now.steps.items (steps_of_names number hand rows (names_among before)) (steps_of_seat number hand before so_far seat.name)
          ∙ ap (λ (steps : List Step). c.args.ledger.now.steps.items ++ steps) (steps_more number hand rows before seat)
          ∙ ap (λ (seats : List Seated). c.args.ledger.now.steps.items ++ steps_of_names number hand rows (names_among seats)) (sym (seats_more play index));
    }

pub returns : goal.returns
returns c =
    let play = c.args.play.now in
    let rows = c.args.ledger.now.rows.items in
    let all : c.loop-index.index ≡ play.trace.setup.stacks.seats = omega (arith, c.loop-index-test.false) in
    record {
      names = c.loop-index.invariant.names;
      rows =
          c.loop-index.invariant.rows
          ∙ ap (λ (n : ℕ). with_names (hand_of play) rows (names_among (map (seated_in play) (seats_of n)))) all;
      steps =
          c.loop-index.invariant.steps
          ∙ ap (λ (n : ℕ). c.args.ledger.now.steps.items ++ steps_of_names c.args.number (hand_of play) rows (names_among (map (seated_in play) (seats_of n)))) all;
    }
