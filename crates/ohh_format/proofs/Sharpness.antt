-- If the format cannot write a fact of a play, other than a note, no legal hand that is read from
-- bytes has it.
use Rattle.std.proofs.Common.{◌≡◌, Bool, true, false, not, if◌then◌else◌, List, [], ◌∷◌, map, Option, Some, None, ℕ, Ok, refl, sym, ap, subst, ◌∙◌, true≢false}
use Rattle.std.specs.List.{AllByRecursion, list_any}
use Rattle.std.proofs.lemmas.Result.{IfOk-at_ok}
use Rattle.card_set.proofs.Any.{list_any-map}
use Rattle.play_event.specs.HistoryRules.{history_rules}
use Rattle.play_event.specs.Played.{move_said}
use Rattle.play_event.specs.declared.setup.Setup.{Setup}
use Rattle.play_event.specs.TraceCore.{TraceCore}
use Rattle.canon_laws.proofs.SuitedRules.{suits_own}
use Rattle.hand_canon.specs.LegalPlay.{IsTraceOfLegal}
use Rattle.hand_canon.specs.SoundRecord.{script_said}
use Rattle.hand_canon.specs.declared.record.Record.{Record}
use Rattle.hand_canon.specs.declared.trace.Play.{Play}
use Rattle.hand_canon.specs.declared.trace.Trace.{Trace}
use Rattle.hand_canon.specs.declared.writing.Keep.{Keep}
use Rattle.hand_canon.specs.declared.writing.Keep.TheVariants as keeps
use Rattle.hand_canon.specs.declared.writing.Unspelled.{Unspelled}
use Rattle.hand_canon.specs.declared.writing.Unspelled.TheVariants as facts
use Rattle.ohh_members.specs.declared.dialect.Dialect.{Dialect}
use Rattle.ohh_writing.specs.Games.{is_spelled_game}
use Rattle.ohh_writing.specs.Spelled.{Tried, first_unspelled, has_closed, has_spelled_antes, has_spelled_blinds, has_spelled_sizes, kept_facts, note_facts, trace_facts, unspelled}
use Rattle.ohh_reading.specs.Reading.{reading}
use Rattle.ohh_format.specs.Sharp.{is_sharp}
use Rattle.ohh_format.proofs.ToldHands.{IsToldHand, reading_told}
use Rattle.ohh_format.proofs.ToldSetups.{antes_spelled, blinds_spelled, sizes_spelled}
use Rattle.hand_canon.specs.Sharp.{IsOther}
use Rattle.hand_canon.specs.WriteRefusals.{or_behind}
use Rattle.hand_canon.specs.PlainHands.{plain}

-- no raise of a legal hand is closed under the rules of hand histories
none_closed : (trace : Trace) (hand : Record) → hand.rules ≡ history_rules → IsTraceOfLegal hand trace → has_closed trace ≡ false
none_closed trace hand ruled traced =
    let suits = suits_own hand.setup hand.rules (script_said hand) traced.legal.played in
    sym (list_any-map (λ move. move.closed) move_said trace.moves)
    ∙ ap (λ (core : TraceCore). list_any (λ move. move.closed) core.moves) traced.whole.core
    ∙ suits.no_closed_raise (ap (λ rules. rules.reopen) ruled)

-- a fact that can be written is skipped
spelled_over : (spelled : Bool) (fact : Unspelled) (rest : Option Unspelled) → spelled ≡ true → (if spelled then rest else Some fact) ≡ rest
spelled_over true fact rest is = refl
spelled_over false fact rest is = absurd (true≢false (sym is))

-- so each fact of the trace of a legal hand that is read can be written
none_unspelled : (trace : Trace) (hand : Record) → IsToldHand (plain hand) → IsTraceOfLegal hand trace → first_unspelled (trace_facts trace) ≡ None
none_unspelled trace hand is traced =
    let there : hand.setup ≡ trace.setup = sym traced.whole.same_setup in
    spelled_over (is_spelled_game trace.setup.code) facts.Variant _ (subst (λ (s : Setup). is_spelled_game s.code ≡ true) there is.setup.game)
    ∙ spelled_over (has_spelled_sizes trace.setup) facts.BetSizes _ (subst (λ (s : Setup). has_spelled_sizes s ≡ true) there (sizes_spelled hand.setup is.setup))
    ∙ spelled_over (has_spelled_antes trace.setup) facts.Antes _ (subst (λ (s : Setup). has_spelled_antes s ≡ true) there (antes_spelled hand.setup is.setup))
    ∙ spelled_over (has_spelled_blinds trace.setup) facts.Blinds _ (subst (λ (s : Setup). has_spelled_blinds s ≡ true) there (blinds_spelled hand.setup is.setup))
    ∙ spelled_over (not (has_closed trace)) facts.ReopenedShort _ (ap not (none_closed trace hand is.rules traced))

-- ---- notes

-- facts that are not sharp
abbrev AreBlunt : Tried → Type 0
AreBlunt tried = AllByRecursion (λ (fact : Bool × Unspelled). is_sharp fact.1 ≡ false) tried

found_blunt : (tried : Tried) (fact : Unspelled) → AreBlunt tried → first_unspelled tried ≡ Some fact → is_sharp fact ≡ false
found_blunt [] fact blunt found = absurd (cc (found))
found_blunt ((spelled, named) ∷ rest) fact blunt found = by_spelled spelled found (found_blunt rest fact blunt.1)
  where
    by_spelled : (b : Bool) → (if b then first_unspelled rest else Some named) ≡ Some fact → (first_unspelled rest ≡ Some fact → is_sharp fact ≡ false) → is_sharp fact ≡ false
    by_spelled true same later = later same
    by_spelled false same later = let is : named ≡ fact = cc in sym (ap is_sharp is) ∙ blunt.0

note_blunt : (keep : Keep) (play : Play) (fact : Unspelled) → first_unspelled (kept_facts keep play) ≡ Some fact → is_sharp fact ≡ false
note_blunt keeps.All play fact found = found_blunt (note_facts play.trace.setup.stacks.seats play.hand.notes) fact (refl, (refl, (refl, (refl, (refl, (refl, tt)))))) found
note_blunt keeps.Spelled play fact found = absurd (cc (found))

-- ---- the hands

-- in the play of a legal hand that is read, no sharp fact is found
hand_blunt : (keep : Keep) (play : Play) (fact : Unspelled) (hand : Record) → IsToldHand (plain hand) → IsTraceOfLegal hand play.trace → unspelled keep play ≡ Some fact → is_sharp fact ≡ false
unfolding unspelled
hand_blunt keep play fact hand is traced found =
    let none = none_unspelled play.trace hand is traced in
    note_blunt keep play fact (sym (ap (λ (first : Option Unspelled). or_behind first (first_unspelled (kept_facts keep play))) none) ∙ found)

each_other : (keep : Keep) (play : Play) (fact : Unspelled) → unspelled keep play ≡ Some fact → is_sharp fact ≡ true → (hands : List Record) → AllByRecursion IsToldHand (map plain hands) → AllByRecursion (IsOther play) hands
each_other keep play fact found sharp [] each = tt
each_other keep play fact found sharp (hand ∷ hands) each =
    (λ traced. true≢false (sym sharp ∙ hand_blunt keep play fact hand each.0 traced found), each_other keep play fact found sharp hands each.1)

-- no legal hand that is read from bytes has the trace of a play with a sharp fact
pub sharpness : (dialect : Dialect) (keep : Keep) (play : Play) (fact : Unspelled) → unspelled keep play ≡ Some fact → is_sharp fact ≡ true → (bytes : List ℕ) (hands : List Record) → reading dialect bytes ≡ Ok (map plain hands)
    → AllByRecursion (IsOther play) hands
sharpness dialect keep play fact found sharp bytes hands reads =
    each_other keep play fact found sharp hands (IfOk-at_ok (AllByRecursion IsToldHand) reads (reading_told dialect bytes))
