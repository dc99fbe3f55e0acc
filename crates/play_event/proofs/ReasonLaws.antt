-- If an event is legal, no reason holds.
use Rattle.std.proofs.Common.{◌≡◌, Bool, true, false, Some, None, List, [], ◌∷◌, refl, ◌∙◌, ap, if◌then◌else◌}
use Rattle.card_set.proofs.Options.{some_is_none}
use Rattle.play_event.specs.declared.reason.Illegal.{Illegal}
use Rattle.play_event.specs.declared.setup.Setup.{Setup}
use Rattle.play_event.specs.declared.setup.Rules.{Rules}
use Rattle.play_event.specs.Said.{Said}
use Rattle.play_event.specs.Past.{Past, moves_of}
use Rattle.play_event.specs.Due.{turn}
use Rattle.play_event.specs.PlayerToAct.{player_to_act}
use Rattle.play_event.specs.Table.{up_cards}
use Rattle.play_event.specs.MoveReasons.{is_raise_too_big}
use Rattle.play_event.specs.Reasons.{why, first_reason, all_reasons}
use Rattle.play_event.specs.Laws.{NoneHold}

first_at : (reason : Illegal) (b : Bool) (rest : List (Bool × Illegal)) → (first_reason rest ≡ None → NoneHold rest) → (if b then Some reason else first_reason rest) ≡ None → (b ≡ false) × NoneHold rest
first_at reason true rest later is = absurd (some_is_none is)
first_at reason false rest later is = (refl, later is)

pub none_hold : (reasons : List (Bool × Illegal)) → first_reason reasons ≡ None → NoneHold reasons
none_hold [] is = tt
none_hold (reason ∷ rest) is = first_at reason.1 reason.0 rest (none_hold rest) is

pub no_reason_holds : (setup : Setup) (rules : Rules) (past : Past) (event : Said) → why setup rules past event ≡ None → NoneHold (all_reasons setup rules past (turn setup past) event)
unfolding why
no_reason_holds setup rules past event is = none_hold (all_reasons setup rules past (turn setup past) event) is

-- a legal raise goes at most to the highest legal target
pub not_too_big : (setup : Setup) (rules : Rules) (past : Past) (event : Said) → why setup rules past event ≡ None → is_raise_too_big setup (moves_of past) (turn setup past).0 (player_to_act setup (up_cards setup.code past) (moves_of past) (turn setup past).0) event ≡ false
not_too_big setup rules past event is = (no_reason_holds setup rules past event is).1.1.1.1.1.1.1.1.1.1.0

-- and if none holds, an event is legal
none_first : (reason : Bool × Illegal) (rest : List (Bool × Illegal)) → reason.0 ≡ false → first_reason rest ≡ None → first_reason (reason ∷ rest) ≡ None
none_first reason rest not_this later = ap (λ b. if b then Some reason.1 else first_reason rest) not_this ∙ later

pub none_found : (reasons : List (Bool × Illegal)) → NoneHold reasons → first_reason reasons ≡ None
none_found [] none = refl
none_found (reason ∷ rest) none = none_first reason rest none.0 (none_found rest none.1)

pub legal_without_reason : (setup : Setup) (rules : Rules) (past : Past) (event : Said) → NoneHold (all_reasons setup rules past (turn setup past) event) → why setup rules past event ≡ None
unfolding why
legal_without_reason setup rules past event none = none_found (all_reasons setup rules past (turn setup past) event) none
