-- What is due at a move of the script.
use Rattle.std.proofs.Common.{◌≡◌, ℕ, true}
use Rattle.play_event.specs.declared.reason.Due.{Due}
use Rattle.play_event.specs.declared.setup.Setup.{Setup}
use Rattle.play_event.specs.Past.{Past, moves_of}
use Rattle.card_set.proofs.Tests.{false_true}
use Rattle.play_laws.proofs.DueAtEvents.{IsDue, deal, draw, bring, move}
use Rattle.play_laws.proofs.MovesLaw.{IsBetDue, bring_first, move_now}
use Rattle.play_event.specs.TurnTargets.{is_bet_due}

-- whether a bring-in or a move is due depends on the moves alone
pub bet_of : (setup : Setup) (before : Past) (street : ℕ) (due : Due) → IsDue setup before street due → is_bet_due due ≡ true → IsBetDue setup (moves_of before) street due
bet_of setup before street _ (deal so) is = false_true is
bet_of setup before street _ (draw no_deal so) is = false_true is
bet_of setup before street _ (bring no_deal no_draw so) is = bring_first so
bet_of setup before street _ (move no_deal no_draw no_bring so) is = move_now no_bring so
