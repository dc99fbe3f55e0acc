-- The moves of a legal script suit the rules under which it is legal: if only full raises reopen
-- the betting, no raise is made where it would be closed; if a fold needs a bet to fold to, each
-- fold has one; and the raises of each street are within its cap.
use Rattle.std.proofs.Common.{◌≡◌, ℕ, ◌+◌, ◌-◌, ◌≤◌, Bool, true, false, ◌&&◌, ◌||◌, ◌==◌, not, nat_le, nat_lt, cond, Option, Some, None, List, [], ◌∷◌, reverse, slice_index, inl, inr, refl, sym, ap, subst, ◌∙◌, arith}
use Rattle.std.specs.List.{list_any}
use Rattle.std.proofs.lemmas.Bool.{and_parts, eq-eqb, eqb-true, false_from_ne_true, leb-true, ltb-true, not-false, or_cases}
use Rattle.card_set.proofs.Finding.{list_any-push}
use Rattle.card_set.proofs.Tests.{false_true, holds_by_both}
use Rattle.play_event.specs.Amounts.{raise_target}
use Rattle.play_event.specs.Chips.{all_in, street_chips}
use Rattle.play_event.specs.Laws.{NoneHold}
use Rattle.play_event.specs.MoveReasons.{actor_of}
use Rattle.play_event.specs.Openers.{TheSeat}
use Rattle.play_event.specs.Past.{Folded, Move, Moved, Resolved, is_raising, moves_of}
use Rattle.play_event.specs.Places.{Place}
use Rattle.play_event.specs.CurrentBet.{current_bet}
use Rattle.play_event.specs.Raising.{has_able_opponent, is_closed, is_reopened, is_within_cap, raises_on}
use Rattle.play_event.specs.Said.{Said}
use Rattle.play_event.specs.Scripts.{past_at_end, past_of, resolved_by}
use Rattle.play_event.specs.Table.{places_of}
use Rattle.play_event.specs.Targets.{greatest_target, is_legal_target}
use Rattle.play_event.specs.Trace.{TracedMove, traced_move, traced_moves}
use Rattle.play_event.specs.declared.reason.Due.{Due}
use Rattle.play_event.specs.declared.setup.Reopen.TheVariants as reopens
use Rattle.play_event.specs.declared.setup.Rules.{Rules}
use Rattle.play_event.specs.declared.setup.Setup.{Setup}
use Rattle.play_event.specs.PlayedScript.{IsPlayed}
use Rattle.play_event.specs.TraceCore.{core_after}
use Rattle.play_laws.proofs.FittingPasts.{legal_moves}
use Rattle.play_laws.proofs.MoveKinds.{IsMoveSaid, bring_said, call_said, fold_said, raise_said}
use Rattle.play_laws.proofs.MovesLaw.{MovesLaw}
use Rattle.play_laws.proofs.NamedMoves.{move_reasons}
use Rattle.play_laws.proofs.OtherRules.{AreSuited, IsSuited}
use Rattle.canon_laws.specs.OtherRules.{SuitsRules, is_free_fold}
use Rattle.canon_laws.proofs.SameCore.{plain_again}
use Rattle.canon_laws.proofs.SuitedMoves.{AreWithin, one_more}
use Rattle.play_event.proofs.FloorLaws.{fits_target}

-- if a fold needs a bet to fold to, each fold has one
pays : (free : Bool) (the_current_bet from : ℕ) → (not free && (the_current_bet - from == 0)) ≡ false → free ≡ false → nat_le the_current_bet from ≡ false
pays true the_current_bet from none is = false_true (sym is)
pays false the_current_bet from none is =
    false_from_ne_true (nat_le the_current_bet from) (λ less. false_true (sym none ∙ eq-eqb (the_current_bet - from) 0 (omega (arith, leb-true the_current_bet from less))))

-- a seat that may raise is within the cap, and the betting is open to it
may_parts : (opponent above cap free : Bool) → not (opponent && above && cap && free) ≡ false → (cap ≡ true) × (free ≡ true)
may_parts opponent above cap free may =
    let all = and_parts (opponent && above && cap) free (not-false (opponent && above && cap && free) may) in
    ((and_parts (opponent && above) cap all.0).1, all.1)

-- a raise to a legal target is not closed if the betting is open
open_both : (reopened legal : Bool) → reopened ≡ true → legal ≡ true → (not reopened || not legal) ≡ false
open_both true true is also = refl
open_both true false is also = false_true also
open_both false legal is also = false_true is

-- the move of an event
nobody : Move
nobody = record { street = 0; seat = 0; act = Folded; from = 0; to = 0 }

moved_of : Resolved → Move
moved_of (Moved move) = move
moved_of _ = nobody

module _ (setup : Setup) (rules : Rules) (older : List Move) (street seat : ℕ) where
  -- the move of a legal event suits the rules
  suits_by : (event : Said) (move : Move) (due : Due) → IsMoveSaid event → NoneHold (move_reasons setup rules older (street, due) (TheSeat seat) event) → resolved_by setup older street (TheSeat seat) event ≡ Moved move → IsSuited rules setup older move
  unfolding moved_of
  suits_by _ move due (fold_said named) none is =
      subst (IsSuited rules setup older) (ap moved_of is)
      (record {
        folds = λ fold free. pays rules.free_fold (current_bet setup older street) (street_chips setup older street (actor_of named (TheSeat seat))) none.1.1.1.1.1.1.1.0 free;
        caps = λ raise. false_true raise;
        reopens = λ raise full. false_true raise;
      })
  suits_by _ move due (call_said named stated) none is =
      subst (IsSuited rules setup older) (ap moved_of is)
      (record { folds = λ fold free. false_true fold; caps = λ raise. false_true raise; reopens = λ raise full. false_true raise })
  suits_by _ move due (bring_said named) none is =
      subst (IsSuited rules setup older) (ap moved_of is)
      (record { folds = λ fold free. false_true fold; caps = λ raise. false_true raise; reopens = λ raise full. false_true raise })
  suits_by _ move due (raise_said named amount) none is =
      let actor = actor_of named (TheSeat seat) in
      let target = raise_target setup older street actor amount in
      let late = none.1.1.1.1.1.1.1.1 in
      let may = may_parts (has_able_opponent setup older actor) (nat_lt (current_bet setup older street) (all_in setup older street actor)) (is_within_cap rules.caps older street) (is_reopened rules.reopen setup older street actor) late.0 in
      let legal = holds_by_both (is_legal_target rules.reopen setup older street actor target) (nat_lt target (greatest_target setup older street actor)) (nat_lt (greatest_target setup older street actor) target) late.1.0 (fits_target rules.reopen setup older street actor target) late.1.1.0 in
      let reopened : rules.reopen ≡ reopens.Full → is_closed setup older street actor target ≡ false =
      λ full.
      open_both (is_reopened reopens.Full setup older street actor) (is_legal_target reopens.Full setup older street actor target)
      (sym (ap (λ r. is_reopened r setup older street actor) full) ∙ may.1)
      (sym (ap (λ r. is_legal_target r setup older street actor target) full) ∙ legal) in
      subst (IsSuited rules setup older) (ap moved_of is)
      (record { folds = λ fold free. false_true fold; caps = λ raise. may.0; reopens = λ raise full. reopened full })

each_suits : (setup : Setup) (rules : Rules) (placed : List Place) (moves : List Move) → MovesLaw setup rules placed moves → AreSuited rules setup moves
each_suits setup rules placed [] law = tt
each_suits setup rules placed (move ∷ older) law =
    (suits_by setup rules older move.street move.seat law.0.event move law.0.due law.0.is_move law.0.none law.0.place, each_suits setup rules placed older law.1)

-- a raise within the cap leaves one below it
room : (caps : List ℕ) (older : List Move) (street : ℕ) → street ≤ 4 → is_within_cap (Some caps) older street ≡ true → raises_on older street + 1 ≤ slice_index caps (street - 1)
room caps older street first within = elim (or_cases (nat_lt 4 street) (nat_lt (raises_on older street) (slice_index caps (street - 1))) within) [
  | inl late ↦ absurd (omega (arith, first, ltb-true 4 street late))
  | inr few ↦ omega (arith, ltb-true (raises_on older street) (slice_index caps (street - 1)) few)
]

within_more : (caps : List ℕ) (move : Move) (older : List Move) (street : ℕ) → (is_raising move.act ≡ true → is_within_cap (Some caps) older move.street ≡ true) → raises_on older street ≤ slice_index caps (street - 1) → street ≤ 4
    → (here raises : Bool) → (move.street == street) ≡ here → is_raising move.act ≡ raises → raises_on (move ∷ older) street ≤ slice_index caps (street - 1)
within_more caps move older street cap before first false raises here is = omega (arith, before, one_more move older street false here)
within_more caps move older street cap before first true false here is =
    let none : ◌≡◌ {A = ℕ} (cond (is_raising move.act) 1 0) 0 = ap {B = ℕ} (λ b. cond b 1 0) is in
    omega (arith, before, one_more move older street true here, none)
within_more caps move older street cap before first true true here is =
    let one : ◌≡◌ {A = ℕ} (cond (is_raising move.act) 1 0) 1 = ap {B = ℕ} (λ b. cond b 1 0) is in
    let same : move.street ≡ street = eqb-true move.street street here in
    let within : is_within_cap (Some caps) older street ≡ true = sym (ap (is_within_cap (Some caps) older) same) ∙ cap is in
    omega (arith, one_more move older street true here, one, room caps older street first within)

within : (rules : Rules) (setup : Setup) (caps : Option (List ℕ)) → rules.caps ≡ caps → (moves : List Move) → AreSuited rules setup moves → AreWithin caps moves
within rules setup None is moves suits = tt
within rules setup (Some caps) is [] suits = λ street first. omega arith
within rules setup (Some caps) is (move ∷ older) suits = λ street first.
    within_more caps move older street (λ raise. sym (ap (λ c. is_within_cap c older move.street) is) ∙ suits.0.caps raise) (within rules setup (Some caps) is older suits.1 street first) first (move.street == street) (is_raising move.act) refl refl

-- what no move is
none_more : (p : TracedMove → Bool) (setup : Setup) (move : Move) (older : List Move) → list_any p (traced_moves setup older) ≡ false → p (traced_move setup move older) ≡ false → list_any p (traced_moves setup (move ∷ older)) ≡ false
none_more p setup move older before newest =
    list_any-push p (traced_moves setup older) (traced_move setup move older) ∙ ap (λ b. b || p (traced_move setup move older)) before ∙ newest

both_not : (first second : Bool) → (first ≡ true → second ≡ false) → (first && second) ≡ false
both_not true second not_then = not_then refl
both_not false second not_then = refl

none_closed : (rules : Rules) (setup : Setup) → rules.reopen ≡ reopens.Full → (moves : List Move) → AreSuited rules setup moves → list_any (λ move. move.closed) (traced_moves setup moves) ≡ false
none_closed rules setup full [] suits = refl
none_closed rules setup full (move ∷ older) suits =
    none_more (λ m. m.closed) setup move older (none_closed rules setup full older suits.1)
    (both_not (is_raising move.act) (is_closed setup older move.street move.seat move.to) (λ raise. suits.0.reopens raise full))

none_free : (rules : Rules) (setup : Setup) → rules.free_fold ≡ false → (moves : List Move) → AreSuited rules setup moves → list_any is_free_fold (traced_moves setup moves) ≡ false
none_free rules setup paid [] suits = refl
none_free rules setup paid (move ∷ older) suits =
    none_more is_free_fold setup move older (none_free rules setup paid older suits.1)
    (both_not (Rattle.play_event.specs.Past.is_folding move.act) (nat_le (current_bet setup older move.street) move.from) (λ fold. suits.0.folds fold paid))

-- a play that is legal under rules suits them
pub suits_own : (setup : Setup) (rules : Rules) (script : List Said) → IsPlayed setup rules script → SuitsRules rules (core_after setup script)
suits_own setup rules script played =
    let moves = moves_of (past_at_end setup script) in
    let suits = each_suits setup rules (places_of setup.code (past_of setup (reverse script))) moves (legal_moves setup rules (reverse script) played.legal) in
    let P : List Move → Type 0 = λ list. AreWithin rules.caps list in
    record {
      no_closed_raise = λ full. none_closed rules setup full moves suits;
      no_free_fold = λ paid. none_free rules setup paid moves suits;
      within_caps = subst P (sym (plain_again setup moves)) (within rules setup rules.caps refl moves suits);
    }
