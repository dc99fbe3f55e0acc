-- The moves of a legal past fit. Each of them, as the canonical script says it, is legal after
-- every past with the same older moves, if the cards of its street are dealt and drawn and the
-- up-cards of seats that can act are the same.
use Rattle.std.proofs.Common.{◌≡◌, ℕ, false, Some, None, List, ◌∷◌, sym, ◌∙◌, ap, subst, if◌then◌else◌}
use Rattle.play_event.specs.declared.reason.Due.{Due}
use Rattle.play_event.specs.declared.reason.Due.TheVariants as dues
use Rattle.play_event.specs.declared.setup.Setup.{Setup}
use Rattle.play_event.specs.declared.setup.Rules.{Rules}
use Rattle.play_event.specs.Said.{Said}
use Rattle.play_event.specs.Past.{Past, Resolved, Move, Dealt, Boarded, Moved, Discarded, Shown, Mucked, moves_of}
use Rattle.play_event.specs.Dealing.{is_deal_due, is_draw_due}
use Rattle.play_event.specs.Due.{turn, due_on, is_bring_in_due, is_move_due}
use Rattle.play_event.specs.Openers.{TheSeat, UpCards}
use Rattle.play_event.specs.PlayerToAct.{player_to_act}
use Rattle.play_event.specs.Places.{Place}
use Rattle.play_event.specs.Table.{up_cards}
use Rattle.play_event.specs.Reasons.{why, first_reason}
use Rattle.play_event.specs.Scripts.{with_event, resolved_on, resolved_by}
use Rattle.play_event.specs.CanonScript.{move_named}
use Rattle.play_laws.proofs.PlayerToActUps.{SameUps, player_to_act_same}
use Rattle.play_event.proofs.ReasonLaws.{none_found}
use Rattle.play_laws.proofs.MoveKinds.{IsMoveSaid, fold_said, call_said, raise_said, bring_said}
use Rattle.play_laws.proofs.NamedMoves.{move_reasons, why_move, named_move, named_none, named_place}
use Rattle.play_laws.proofs.MovesLaw.{ups_by, IsPlayerToAct, free, shown, IsBetDue, bring_first, move_now, FitsMove}
use Rattle.canon_laws.proofs.CardEvents.{HasCome, due_there}

-- whose turn it is by the places at the script's end is whose turn it is by up-cards that are the
-- same
pub told_player_to_act : (setup : Setup) (placed : List Place) (older : List Move) (street seat : ℕ) (ups : UpCards) → IsPlayerToAct setup placed older street seat → SameUps setup older ups (ups_by setup.code placed street) → player_to_act setup ups older street ≡ TheSeat seat
told_player_to_act setup placed older street seat ups (free by) same = by ups
told_player_to_act setup placed older street seat ups (shown known by) same = player_to_act_same setup older street ups (ups_by setup.code placed street) same ∙ by

-- what is due there
pub bet_due : (setup : Setup) (before : Past) (street : ℕ) (due : Due) → is_deal_due setup before street ≡ false → is_draw_due setup before street ≡ false → IsBetDue setup (moves_of before) street due → due_on setup before street ≡ Some due
bet_due setup before street _ no_deal no_draw (bring_first so) =
    ap (λ b. if b then Some (dues.Deal street) else if is_draw_due setup before street then Some (dues.Draw street) else if is_bring_in_due setup (moves_of before) street then Some dues.BringIn else if is_move_due setup (moves_of before) street then Some dues.Move else None) no_deal
    ∙ ap (λ b. if b then Some (dues.Draw street) else if is_bring_in_due setup (moves_of before) street then Some dues.BringIn else if is_move_due setup (moves_of before) street then Some dues.Move else None) no_draw
    ∙ ap (λ b. if b then Some dues.BringIn else if is_move_due setup (moves_of before) street then Some dues.Move else None) so
bet_due setup before street _ no_deal no_draw (move_now no_bring so) =
    ap (λ b. if b then Some (dues.Deal street) else if is_draw_due setup before street then Some (dues.Draw street) else if is_bring_in_due setup (moves_of before) street then Some dues.BringIn else if is_move_due setup (moves_of before) street then Some dues.Move else None) no_deal
    ∙ ap (λ b. if b then Some (dues.Draw street) else if is_bring_in_due setup (moves_of before) street then Some dues.BringIn else if is_move_due setup (moves_of before) street then Some dues.Move else None) no_draw
    ∙ ap (λ b. if b then Some dues.BringIn else if is_move_due setup (moves_of before) street then Some dues.Move else None) no_bring
    ∙ ap (λ b. if b then Some dues.Move else None) so

-- the canonical event of a move that took place is its named event
made : Resolved → Move → Move
made (Moved move) other = move
made (Dealt street seat cards) other = other
made (Boarded street cards) other = other
made (Discarded street seat cards) other = other
made (Shown street seat cards) other = other
made (Mucked street seat) other = other

word_of : (setup : Setup) (older : List Move) (move : Move) (event : Said) → IsMoveSaid event → resolved_by setup older move.street (TheSeat move.seat) (named_move setup older move.street move.seat event) ≡ Moved move → move_named move ≡ named_move setup older move.street move.seat event
unfolding made
word_of setup older move _ (fold_said named) is = ap move_named (sym (ap (λ r. made r move) is))
word_of setup older move _ (call_said named stated) is = ap move_named (sym (ap (λ r. made r move) is))
word_of setup older move _ (raise_said named amount) is = ap move_named (sym (ap (λ r. made r move) is))
word_of setup older move _ (bring_said named) is = ap move_named (sym (ap (λ r. made r move) is))

named_is_move : (setup : Setup) (older : List Move) (street seat : ℕ) (event : Said) → IsMoveSaid event → IsMoveSaid (named_move setup older street seat event)
named_is_move setup older street seat _ (fold_said named) = fold_said (Some seat)
named_is_move setup older street seat _ (call_said named stated) = call_said (Some seat) None
named_is_move setup older street seat _ (raise_said named amount) = raise_said (Some seat) _
named_is_move setup older street seat _ (bring_said named) = bring_said (Some seat)

-- what the canonical script's past is before a move
pub record IsReady (setup : Setup) (placed : List Place) (before : Past) (older : List Move) (street : ℕ) : Type 0 where
  pub come : HasCome setup before street
  pub moves : moves_of before ≡ older
  pub no_deal : is_deal_due setup before street ≡ false
  pub no_draw : is_draw_due setup before street ≡ false
  pub ups : SameUps setup older (up_cards setup.code before) (ups_by setup.code placed street)

-- a move is legal as the canonical script says it, and takes place in the same way
pub record IsPlayedAgain (setup : Setup) (rules : Rules) (before : Past) (move : Move) : Type 0 where
  pub legal : why setup rules before (move_named move) ≡ None
  pub after : with_event setup (move_named move) before ≡ Moved move ∷ before

-- a move that fits is played again wherever the moves and up-cards are the same
pub move_again : (setup : Setup) (rules : Rules) (placed : List Place) (before : Past) (older : List Move) (move : Move) → FitsMove setup rules placed older move → IsReady setup placed before older move.street → IsPlayedAgain setup rules before move
unfolding with_event
move_again setup rules placed before older move fits ready =
    let street : ℕ = move.street in
    let seat : ℕ = move.seat in
    let word : Said = named_move setup older street seat fits.event in
    let M : List Move → Type 0 = λ l. IsBetDue setup l street fits.due in
    let turned : turn setup before ≡ (street, fits.due) = due_there setup before street fits.due ready.come (bet_due setup before street fits.due ready.no_deal ready.no_draw (subst M (sym ready.moves) fits.is_due)) in
    let who : player_to_act setup (up_cards setup.code before) older street ≡ TheSeat seat = told_player_to_act setup placed older street seat (up_cards setup.code before) fits.in_turn ready.ups in
    let in_turn : player_to_act setup (up_cards setup.code before) (moves_of before) (turn setup before).0 ≡ TheSeat seat =
    ap (λ l. player_to_act setup (up_cards setup.code before) l (turn setup before).0) ready.moves ∙ (ap (λ (t : ℕ × Due). player_to_act setup (up_cards setup.code before) older t.0) turned ∙ who) in
    let none = named_none setup rules older (street, fits.due) seat fits.event fits.is_move fits.none in
    let same_seat = named_place setup older street seat fits.event fits.is_move fits.none.1.1.0 in
    let spelled_so : move_named move ≡ word = word_of setup older move fits.event fits.is_move (same_seat ∙ fits.place) in
    let W : Said → Type 0 = λ w. why setup rules before w ≡ None in
    record {
      legal = subst W (sym spelled_so)
          (why_move setup rules before word (named_is_move setup older street seat fits.event fits.is_move)
          ∙ ap (λ t. first_reason (move_reasons setup rules (moves_of before) (turn setup before) t word)) in_turn
          ∙ ap (λ l. first_reason (move_reasons setup rules l (turn setup before) (TheSeat seat) word)) ready.moves
          ∙ ap (λ t. first_reason (move_reasons setup rules older t (TheSeat seat) word)) turned
          ∙ none_found (move_reasons setup rules older (street, fits.due) (TheSeat seat) word) none);
      after =
          ap (λ w. resolved_on setup before (turn setup before).0 w ∷ before) spelled_so
          ∙ ap (λ t. resolved_by setup (moves_of before) (turn setup before).0 t word ∷ before) in_turn
          ∙ ap (λ l. resolved_by setup l (turn setup before).0 (TheSeat seat) word ∷ before) ready.moves
          ∙ ap (λ (t : ℕ × Due). resolved_by setup older t.0 (TheSeat seat) word ∷ before) turned
          ∙ ap (λ r. r ∷ before) (same_seat ∙ fits.place);
    }
