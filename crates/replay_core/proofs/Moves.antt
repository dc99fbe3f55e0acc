-- What a move does to the cards, and what it adds to the moves of the trace.
use Rattle.std.proofs.Common.{◌≡◌, true, false, [], ◌∷◌, ◌++◌, Some, None, refl, sym, ap, subst, ◌∙◌}
use Rattle.std.proofs.lemmas.Bool.{true≢false}
use Rattle.std.proofs.lemmas.List.{append-nil}
use Rattle.play_event.specs.declared.setup.Setup.{Setup}
use Rattle.play_event.specs.Past.{Past, Move, Moved, Folded, Called, Raised, BroughtIn, is_folding, moves_of}
use Rattle.play_event.specs.Chips.{street_chips}
use Rattle.play_event.specs.Due.{turn}
use Rattle.play_event.specs.PlayerToAct.{player_to_act}
use Rattle.play_event.specs.MoveReasons.{actor_of}
use Rattle.play_event.specs.Amounts.{call_target, raise_target, bring_in_target}
use Rattle.play_event.specs.Said as said
use Rattle.play_event.specs.Said.{Said}
use Rattle.play_event.specs.Scripts.{with_event, resolved_on}
use Rattle.play_event.specs.Table.{up_cards}
use Rattle.play_event.specs.Trace.{TracedMove, traced_move, traced_moves}
use Rattle.play_event.specs.declared.played.Move as rows
use Rattle.play_event.specs.Played.{act_said, move_said}
use Rattle.betting_numbers.specs.declared.betting_state.BettingState.{BettingState}
use Rattle.card_places.specs.declared.card_state.CardState.{CardState}
use Rattle.deal_core.specs.Standing.{StandsFor}
use Rattle.deal_core.proofs.StandsMove.{move_kept}
use Rattle.play_laws.specs.CardEvents.{is_card_said}
use Rattle.play_laws.proofs.CardTurns.{moves_kept}
use Rattle.play_laws.proofs.LegalCards.{card_resolved}
use Rattle.replay_core.specs.AddedMoves.{AddsMove}

-- an event that is not an event of cards takes place as a move
pub record IsMove (setup : Setup) (past : Past) (event : Said) : Type 0 where
  pub move : Move
  pub made : with_event setup event past ≡ Moved move ∷ past

pub made_move : (setup : Setup) (past : Past) (event : Said) → is_card_said event ≡ false → IsMove setup past event
unfolding with_event
made_move setup past (said.Fold named) is = record {
  move = record { street = (turn setup past).0; seat = actor_of named (player_to_act setup (up_cards setup.code past) (moves_of past) (turn setup past).0); act = Folded; from = street_chips setup (moves_of past) (turn setup past).0 (actor_of named (player_to_act setup (up_cards setup.code past) (moves_of past) (turn setup past).0)); to = street_chips setup (moves_of past) (turn setup past).0 (actor_of named (player_to_act setup (up_cards setup.code past) (moves_of past) (turn setup past).0)) };
  made = refl;
}
made_move setup past (said.Call named stated) is = record {
  move = record { street = (turn setup past).0; seat = actor_of named (player_to_act setup (up_cards setup.code past) (moves_of past) (turn setup past).0); act = Called; from = street_chips setup (moves_of past) (turn setup past).0 (actor_of named (player_to_act setup (up_cards setup.code past) (moves_of past) (turn setup past).0)); to = call_target setup (moves_of past) (turn setup past).0 (actor_of named (player_to_act setup (up_cards setup.code past) (moves_of past) (turn setup past).0)) };
  made = refl;
}
made_move setup past (said.Raise named amount) is = record {
  move = record { street = (turn setup past).0; seat = actor_of named (player_to_act setup (up_cards setup.code past) (moves_of past) (turn setup past).0); act = Raised; from = street_chips setup (moves_of past) (turn setup past).0 (actor_of named (player_to_act setup (up_cards setup.code past) (moves_of past) (turn setup past).0)); to = raise_target setup (moves_of past) (turn setup past).0 (actor_of named (player_to_act setup (up_cards setup.code past) (moves_of past) (turn setup past).0)) amount };
  made = refl;
}
made_move setup past (said.BringIn named) is = record {
  move = record { street = (turn setup past).0; seat = actor_of named (player_to_act setup (up_cards setup.code past) (moves_of past) (turn setup past).0); act = BroughtIn; from = street_chips setup (moves_of past) (turn setup past).0 (actor_of named (player_to_act setup (up_cards setup.code past) (moves_of past) (turn setup past).0)); to = bring_in_target setup (moves_of past) (turn setup past).0 (actor_of named (player_to_act setup (up_cards setup.code past) (moves_of past) (turn setup past).0)) };
  made = refl;
}
made_move setup past (said.Hole seat cards) is = absurd (true≢false is)
made_move setup past (said.Board cards) is = absurd (true≢false is)
made_move setup past (said.Discard seat cards) is = absurd (true≢false is)
made_move setup past (said.Show seat cards) is = absurd (true≢false is)
made_move setup past (said.Muck seat) is = absurd (true≢false is)

-- what a step of the betting says about its move
abbrev pub IsStepped : Setup → Past → Said → rows.Move → Type 0
IsStepped setup past event moved = (move : Move) → with_event setup event past ≡ Moved move ∷ past → move_said moved ≡ traced_move setup move (moves_of past)

-- the cards after a move that is a fold
pub folded_stands : (t next : CardState) (setup : Setup) (past : Past) (event : Said) (moved : rows.Move) → is_card_said event ≡ false → IsStepped setup past event moved
    → ((move : Move) → is_folding move.act ≡ true → move.seat ≡ moved.seat.number → StandsFor next (Moved move ∷ past))
    → is_folding (act_said moved.act) ≡ true → StandsFor next (with_event setup event past)
folded_stands t next setup past event moved bet stepped folded is =
    let made = made_move setup past event bet in
    let same = stepped made.move made.made in
    subst (StandsFor next) (sym made.made)
    (folded made.move (ap (λ (m : TracedMove). is_folding m.act) (sym same) ∙ is) (ap (λ (m : TracedMove). m.seat) (sym same)))

-- and after another move
pub moved_stands : (t : CardState) (setup : Setup) (past : Past) (event : Said) (moved : rows.Move) → is_card_said event ≡ false → IsStepped setup past event moved
    → StandsFor t past → is_folding (act_said moved.act) ≡ false → StandsFor t (with_event setup event past)
moved_stands t setup past event moved bet stepped stands is =
    let made = made_move setup past event bet in
    let same = stepped made.move made.made in
    subst (StandsFor t) (sym made.made)
    (move_kept t past made.move stands (ap (λ (m : TracedMove). is_folding m.act) (sym same) ∙ is))

-- the moves of the trace after a move
pub move_told : (b : BettingState) (past : Past) (event : Said) (moved : rows.Move) → is_card_said event ≡ false → IsStepped b.setup past event moved → AddsMove b event past (Some moved)
move_told b past event moved bet stepped =
    let made = made_move b.setup past event bet in
    ap (λ (p : Past). traced_moves b.setup (moves_of p)) made.made
    ∙ ap (λ (m : TracedMove). traced_moves b.setup (moves_of past) ++ m ∷ []) (sym (stepped made.move made.made))

-- and after an event of cards
pub none_told : (b : BettingState) (past : Past) (event : Said) → is_card_said event ≡ true → AddsMove b event past None
unfolding with_event
none_told b past event card =
    ap (traced_moves b.setup) (moves_kept (resolved_on b.setup past (turn b.setup past).0 event) past (card_resolved b.setup past (turn b.setup past).0 event card))
    ∙ sym (append-nil (traced_moves b.setup (moves_of past)))
