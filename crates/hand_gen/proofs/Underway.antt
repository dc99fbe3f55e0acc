-- A hand that is being made is within the limits, no event that comes is refused, and when none
-- comes the hand is legal.
use Rattle.std.proofs.Common.{◌≡◌, ◌<◌, List, [], length, map, Some, None, IfSome, refl, sym, ap, subst, ◌∙◌, arith}
use Rattle.std.proofs.lemmas.List.{length-map}
use Rattle.betting_numbers.specs.LegalMoves.{reason_after}
use Rattle.betting_numbers.specs.declared.betting_state.BettingState.{BettingState}
use Rattle.play_event.specs.PlayedScript.{IsWithinLimits}
use Rattle.card_places.specs.declared.card_state.CardState.{CardState}
use Rattle.hand_canon.specs.LegalHand.{IsLegalHand}
use Rattle.card_set.proofs.Options.{some_is_none}
use Rattle.play_event.specs.declared.event.Event.{Event}
use Rattle.play_event.specs.declared.reason.Illegal.{Illegal}
use Rattle.play_event.specs.declared.setup.Rules.{Rules}
use Rattle.play_event.specs.declared.setup.Setup.{Setup}
use Rattle.play_event.specs.HistoryRules.{history_rules}
use Rattle.play_event.specs.Past.{Past}
use Rattle.play_event.specs.Reasons.{why}
use Rattle.play_event.specs.Said.{Said, said_of}
use Rattle.play_event.specs.Scripts.{past_of}
use Rattle.replay_core.specs.Together.{StandTogether}
use Rattle.hand_gen.specs.Coming.{Coming, coming}
use Rattle.hand_gen.specs.Made.{HaveCome, backward, next_event, source_behind}
use Rattle.hand_gen.specs.MadeTo.{IsMadeTo, IsUnderway}
use Rattle.hand_gen.specs.Progress.{IsSmall, MakesProgress}
use Rattle.hand_gen.specs.HandSource.{HandSource, full_deck}
use Rattle.hand_gen.proofs.MadeProgress.{progress}

-- before the first event the hand is made up to here
pub first_made : (setup : Setup) (start : HandSource) (b : BettingState) (t : CardState) (script : List Event) → script ≡ [] → StandTogether b t [] → b.setup ≡ setup → b.rules ≡ history_rules → IsMadeTo setup start b t script start
first_made setup start b t script none stands setup_is rules_is =
    subst (λ (s : List Event). IsMadeTo setup start b t s start) (sym none) (record { come = tt; left = refl; stands = stands; numbered = refl; setup_is = setup_is; rules_is = rules_is })

-- a hand that is made up to here from a whole deck is being made
pub underway : (setup : Setup) (start : HandSource) (b : BettingState) (t : CardState) (script : List Event) (stock : HandSource) → IsSmall setup → start.deck ≡ full_deck setup.code → IsMadeTo setup start b t script stock → IsUnderway b t script stock
underway setup start b t script stock small deck made =
    let same : setup ≡ b.setup = sym made.setup_is in
    record {
      small = subst IsSmall same small;
      start = start;
      deck = deck ∙ ap (λ (s : Setup). full_deck s.code) same;
      made = subst (λ (s : Setup). IsMadeTo s start b t script stock) same made;
    }

-- it makes progress
progress_of : (b : BettingState) (t : CardState) (script : List Event) (stock : HandSource) (going : IsUnderway b t script stock) → MakesProgress b.setup going.start (map said_of script)
progress_of b t script stock going = progress b.setup going.small going.start going.deck (map said_of script) going.made.come

pub few_so_far : (b : BettingState) (t : CardState) (script : List Event) (stock : HandSource) → IsUnderway b t script stock → length script < 4352
few_so_far b t script stock going = omega (arith, (progress_of b t script stock going).few, length-map script said_of)

-- no event that comes is refused
pub not_refused : (b : BettingState) (t : CardState) (script : List Event) (stock : HandSource) (event : Said) (reason : Illegal) → IsUnderway b t script stock
    → Some event ≡ (coming b.setup b.rules (past_of b.setup (backward script)) stock).event
    → reason_after b (past_of b.setup (backward script)) event ≡ Some reason → ⊥
not_refused b t script stock event reason going comes refused =
    let past : Past = past_of b.setup (backward script) in
    let made = going.made in
    let same : coming b.setup b.rules past stock ≡ coming b.setup history_rules past (source_behind b.setup history_rules going.start (backward script)) =
    ap (λ (r : Rules). coming b.setup r past stock) made.rules_is ∙ ap (coming b.setup history_rules past) made.left in
    let next : next_event b.setup history_rules going.start (backward script) ≡ Some event = sym (comes ∙ ap (λ (x : Coming). x.event) same) in
    let legal : why b.setup history_rules past event ≡ None = subst (λ n. IfSome n (λ e. why b.setup history_rules past e ≡ None)) next (progress_of b t script stock going).next_legal in
    some_is_none (sym refused ∙ ap (λ (r : Rules). why b.setup r past event) made.rules_is ∙ legal)

-- a script that is made is within the limits, and if nothing comes after it, it is legal
pub made_within : (setup : Setup) (start : HandSource) (script : List Event) → IsSmall setup → start.deck ≡ full_deck setup.code → HaveCome setup history_rules start (backward script) → IsWithinLimits (map said_of script)
made_within setup start script small deck come = (progress setup small start deck (map said_of script) come).within

pub made_legal : (setup : Setup) (start : HandSource) (script : List Event) → IsSmall setup → start.deck ≡ full_deck setup.code → HaveCome setup history_rules start (backward script) → next_event setup history_rules start (backward script) ≡ None → IsLegalHand setup history_rules (map said_of script)
made_legal setup start script small deck come none = (progress setup small start deck (map said_of script) come).whole none
