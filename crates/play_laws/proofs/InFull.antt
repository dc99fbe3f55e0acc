-- Events in full are legal if the events are, and leave the same past.
use Rattle.std.proofs.Common.{◌≡◌, ◌↔◌, List, [], ◌∷◌, refl, sym, ◌∙◌, ap}
use Rattle.play_event.specs.Laws.{AreLegal}
use Rattle.play_event.specs.Openers.{InTurn, NoSeat, TheSeat, Undecided}
use Rattle.play_event.specs.Past.{Past}
use Rattle.play_event.specs.Reasons.{why}
use Rattle.play_event.specs.Said as said
use Rattle.play_event.specs.Said.{Said}
use Rattle.play_event.specs.Scripts.{past_of, with_event}
use Rattle.play_event.specs.declared.event.Spelled.TheVariants as spelled
use Rattle.play_event.specs.declared.setup.Rules.{Rules}
use Rattle.play_event.specs.declared.setup.Setup.{Setup}
use Rattle.play_laws.specs.Spellings.{all_in_full, in_full, in_turn_after, target_after, with_target, with_turn}
use Rattle.play_laws.proofs.OneSpelling.{equal_past, equal_reason, same_past, same_reason}

turn_reason : (setup : Setup) (rules : Rules) (past : Past) (event : Said) (t : InTurn) → in_turn_after setup past ≡ t → why setup rules past (with_turn t event) ≡ why setup rules past event
turn_reason setup rules past event (TheSeat seat) is = same_reason setup rules past seat event is
turn_reason setup rules past event NoSeat is = refl
turn_reason setup rules past event Undecided is = refl

turn_past : (setup : Setup) (past : Past) (event : Said) (t : InTurn) → in_turn_after setup past ≡ t → with_event setup (with_turn t event) past ≡ with_event setup event past
turn_past setup past event (TheSeat seat) is = same_past setup past seat event is
turn_past setup past event NoSeat is = refl
turn_past setup past event Undecided is = refl

target_reason : (setup : Setup) (rules : Rules) (past : Past) (event : Said) → why setup rules past (with_target setup past event) ≡ why setup rules past event
target_reason setup rules past (said.Raise named amount) = equal_reason setup rules past named (spelled.To (target_after setup past named amount)) amount refl
target_reason setup rules past (said.Fold named) = refl
target_reason setup rules past (said.Call named stated) = refl
target_reason setup rules past (said.BringIn named) = refl
target_reason setup rules past (said.Hole seat cards) = refl
target_reason setup rules past (said.Board cards) = refl
target_reason setup rules past (said.Discard seat cards) = refl
target_reason setup rules past (said.Show seat cards) = refl
target_reason setup rules past (said.Muck seat) = refl

target_past : (setup : Setup) (past : Past) (event : Said) → with_event setup (with_target setup past event) past ≡ with_event setup event past
target_past setup past (said.Raise named amount) = equal_past setup past named (spelled.To (target_after setup past named amount)) amount refl
target_past setup past (said.Fold named) = refl
target_past setup past (said.Call named stated) = refl
target_past setup past (said.BringIn named) = refl
target_past setup past (said.Hole seat cards) = refl
target_past setup past (said.Board cards) = refl
target_past setup past (said.Discard seat cards) = refl
target_past setup past (said.Show seat cards) = refl
target_past setup past (said.Muck seat) = refl

-- an event in full is illegal for the reason of the event
full_reason : (setup : Setup) (rules : Rules) (past : Past) (event : Said) → why setup rules past (in_full setup past event) ≡ why setup rules past event
full_reason setup rules past event =
    target_reason setup rules past (with_turn (in_turn_after setup past) event) ∙ turn_reason setup rules past event (in_turn_after setup past) refl

-- and takes place as the event does
full_past : (setup : Setup) (past : Past) (event : Said) → with_event setup (in_full setup past event) past ≡ with_event setup event past
full_past setup past event =
    target_past setup past (with_turn (in_turn_after setup past) event) ∙ turn_past setup past event (in_turn_after setup past) refl

-- so events in full leave the same past
pub all_past : (setup : Setup) (events : List Said) → past_of setup (all_in_full setup events) ≡ past_of setup events
all_past setup [] = refl
all_past setup (event ∷ before) =
    ap (with_event setup (in_full setup (past_of setup before) event)) (all_past setup before) ∙ full_past setup (past_of setup before) event

-- and are legal if and only if the events are
pub all_legal : (setup : Setup) (rules : Rules) (events : List Said) → AreLegal setup rules events ↔ AreLegal setup rules (all_in_full setup events)
all_legal setup rules [] = ((λ legal. legal), (λ legal. legal))
all_legal setup rules (event ∷ before) =
    let full = in_full setup (past_of setup before) event in
    let here : why setup rules (past_of setup (all_in_full setup before)) full ≡ why setup rules (past_of setup before) event =
    ap (λ past. why setup rules past full) (all_past setup before) ∙ full_reason setup rules (past_of setup before) event in
    let rest = all_legal setup rules before in (
      (λ legal. (here ∙ legal.0, rest.0 legal.1)),
      (λ legal. (sym here ∙ legal.0, rest.1 legal.1)),
    )

-- scripts that are the same in full leave the same past
pub one_past : (setup : Setup) (events others : List Said) → all_in_full setup events ≡ all_in_full setup others → past_of setup events ≡ past_of setup others
one_past setup events others same = sym (all_past setup events) ∙ (ap (past_of setup) same ∙ all_past setup others)
