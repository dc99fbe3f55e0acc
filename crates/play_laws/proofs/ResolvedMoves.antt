-- What a resolved event did, and that without up-cards it is no bring-in.
use Rattle.std.proofs.Common.{◌≡◌, ℕ, false, ◌&&◌, ◌==◌, not, nat_le, List, sym, ap, ◌∙◌, true≢false}
use Rattle.std.specs.List.{list_any}
use Rattle.play_event.specs.Due.{has_opened_betting}
use Rattle.play_event.specs.Laws.{NoneHold}
use Rattle.play_event.specs.Openers.{TheSeat}
use Rattle.play_event.specs.Past.{Act, Folded, Move, Moved, Resolved, is_bringing_in, moves_on}
use Rattle.play_event.specs.Said.{Said}
use Rattle.play_event.specs.Scripts.{resolved_by}
use Rattle.play_event.specs.Seats.{able_count}
use Rattle.play_event.specs.Streets.{is_stud_game}
use Rattle.play_event.specs.declared.reason.Due.{Due}
use Rattle.play_event.specs.declared.setup.Rules.{Rules}
use Rattle.play_event.specs.declared.setup.Setup.{Setup}
use Rattle.play_laws.proofs.MoveKinds.{IsMoveSaid, bring_said, call_said, fold_said, raise_said}
use Rattle.play_laws.proofs.MovesLaw.{IsBetDue, bring_first, move_now}
use Rattle.play_laws.proofs.NamedMoves.{move_reasons}

-- the target of a move
unfoldable pub target_of : Resolved → ℕ
target_of (Moved move) = move.to
target_of _ = 0

-- what a move did
unfoldable pub act_of : Resolved → Act
act_of (Moved move) = move.act
act_of _ = Folded

-- without up-cards no move is a bring-in
pub no_bring : (setup : Setup) (rules : Rules) (older : List Move) (move : Move) (event : Said) (due : Due) → is_stud_game setup.code ≡ false → IsMoveSaid event → IsBetDue setup older move.street due
    → NoneHold (move_reasons setup rules older (move.street, due) (TheSeat move.seat) event) → resolved_by setup older move.street (TheSeat move.seat) event ≡ Moved move → is_bringing_in move.act ≡ false
unfolding act_of
no_bring setup rules older move _ due blinds (fold_said named) is_due none place = sym (ap (λ r. is_bringing_in (act_of r)) place)
no_bring setup rules older move _ due blinds (call_said named stated) is_due none place = sym (ap (λ r. is_bringing_in (act_of r)) place)
no_bring setup rules older move _ due blinds (raise_said named amount) is_due none place = sym (ap (λ r. is_bringing_in (act_of r)) place)
no_bring setup rules older move _ _ blinds (bring_said named) (move_now unopened now) none place = absurd (true≢false none.1.0)
no_bring setup rules older move _ _ blinds (bring_said named) (bring_first is) none place =
    absurd (true≢false (sym is ∙ ap (λ b. b && (move.street == 1) && nat_le 2 (able_count setup older) && not (list_any (λ (m : Move). has_opened_betting m.act) (moves_on move.street older))) blinds))
