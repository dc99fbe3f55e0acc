-- Each play breaks one condition.
use Rattle.std.specs.Prelude.{◌≡◌, ◌≤◌, ℕ, codes, None, Some, replicate}
use Rattle.std.proofs.Common.{ap, arith, lit≤, refl, subst, sym, ◌++◌}
use Rattle.std.proofs.lemmas.Fmt.{decimal_digit}
use Rattle.card_set.proofs.Tests.{false_true}
use Rattle.card_set.specs.Spelling.{slot_spelled, rank_lettered, suit_lettered}
use Rattle.chip_ledger.specs.Pots.{after_return, levels, layers, pots_at, pots_of}
use Rattle.play_event.specs.Due.{turn}
use Rattle.play_event.specs.Reasons.{why}
use Rattle.play_event.specs.Scripts.{with_event}
use Rattle.play_event.specs.HistoryRules.{history_rules}
use Rattle.play_event.specs.ValidSetup.{IsValid}
use Rattle.play_event.specs.PlayedScript.{IsWithinLimits}
use Rattle.worked_hands.specs.Setups.{greater_second_blind, no_limit}
use Rattle.worked_hands.specs.Words.{muck}
use Rattle.worked_hands.specs.Plays.{cut_short, early_raise}
use Rattle.worked_hands.specs.Traces.{steal, steal_trace}
use Rattle.worked_hands.specs.WrittenNotes.{named, no_notes}
use Rattle.worked_hands.specs.WrongTraces.{chip_from_p2}
use Rattle.worked_hands.proofs.SaidPlays.{legal_said, notes_said, trace_said}
use Rattle.worked_hands.proofs.sound.unsound_plays.Goals as goal

pub returns-clause-another_trace : goal.returns-clause-another_trace
unfolding turn why with_event slot_spelled rank_lettered suit_lettered after_return levels layers pots_at pots_of
returns-clause-another_trace c = λ hand says sound.
    let same : ◌≡◌ {A = ℕ} 97 98 = (trace_said no_limit history_rules steal no_notes hand chip_from_p2 says sound).shares.finishes 2 (lit≤ tt) (lit≤ tt) in
    omega (arith, same)

pub returns-clause-a_default_note : goal.returns-clause-a_default_note
returns-clause-a_default_note c = λ hand says sound.
    ((notes_said no_limit history_rules steal (named None (Some (codes "p2")) None) hand steal_trace says sound).names 2 (lit≤ tt) (lit≤ tt)).said (ap (λ digit. codes "p" ++ digit) (sym (decimal_digit 2 (omega arith))))

pub returns-clause-a_script_cut_short : goal.returns-clause-a_script_cut_short
unfolding turn why with_event slot_spelled rank_lettered suit_lettered after_return levels layers pots_at pots_of
returns-clause-a_script_cut_short c = λ hand says sound.
    false_true (sym (legal_said no_limit history_rules cut_short no_notes hand steal_trace says sound).played.complete)

pub returns-clause-an_event_out_of_turn : goal.returns-clause-an_event_out_of_turn
unfolding turn why with_event slot_spelled rank_lettered suit_lettered after_return levels layers pots_at pots_of
returns-clause-an_event_out_of_turn c = λ hand says sound.
    let legal = (legal_said no_limit history_rules early_raise no_notes hand steal_trace says sound).played.legal in
    absurd (cc (legal.1.1.1.0))

pub returns-clause-a_setup_that_is_not_valid : goal.returns-clause-a_setup_that_is_not_valid
returns-clause-a_setup_that_is_not_valid c = λ hand is sound.
    let valid : IsValid greater_second_blind = subst IsValid is sound.valid in
    let less : 2 ≤ 1 = valid.heads_up refl in
    omega (arith, less)

pub returns-clause-too_many_events : goal.returns-clause-too_many_events
returns-clause-too_many_events c = λ hand is sound.
    let within : IsWithinLimits (replicate 257 (muck 1)) = subst IsWithinLimits is sound.within in
    let few : 257 ≤ 256 = within.others in
    omega (arith, few)
