-- The hands that are read back from sound plays are legal under the rules of hand histories, and
-- have the traces of the plays.
use Rattle.std.proofs.Common.{◌≡◌, ℕ, ◌+◌, ◌≤◌, Bool, true, false, not, List, [], ◌∷◌, length, map, sum_by, None, Ok, if◌then◌else◌, refl, sym, ap, subst, ◌∙◌}
use Rattle.std.specs.List.{AllByRecursion, list_any}
use Rattle.std.proofs.lemmas.Bool.{not-true}
use Rattle.card_set.proofs.Any.{list_any-map}
use Rattle.play_event.specs.HistoryRules.{history_rules}
use Rattle.play_event.specs.Played.{move_said}
use Rattle.play_event.specs.Said.{Numbered, Said}
use Rattle.play_event.specs.Scripts.{past_at_end}
use Rattle.play_event.specs.declared.setup.Rules.{Rules}
use Rattle.play_event.specs.declared.setup.Setup.{Setup}
use Rattle.play_event.specs.PlayedScript.{IsPlayed}
use Rattle.play_event.specs.TraceCore.{TraceCore, core_after}
use Rattle.canon_laws.specs.Confluence.{HasTraceOf}
use Rattle.canon_laws.specs.OtherRules.{SuitsRules}
use Rattle.canon_laws.proofs.SuitedMoves.{played_by}
use Rattle.first_fault.specs.declared.limits.TheConstants.{MOST_FILE_MOVES, MOST_HANDS}
use Rattle.hand_canon.specs.SoundRecord.{script_said}
use Rattle.hand_canon.specs.TraceRows.{core_said}
use Rattle.hand_canon.specs.declared.record.Record.{Record}
use Rattle.hand_canon.specs.declared.trace.Play.{Play}
use Rattle.hand_canon.specs.declared.writing.Keep.{Keep}
use Rattle.hand_canon.specs.LegalHand.{IsLegalHand, IsShareable}
use Rattle.hand_canon.specs.Sound.{IsSound}
use Rattle.hand_canon.specs.WholeTrace.{IsTraceOf}
use Rattle.ohh_members.specs.declared.dialect.Dialect.{Dialect}
use Rattle.ohh_writing.specs.Games.{is_spelled_game}
use Rattle.ohh_writing.specs.Lines.{Spells}
use Rattle.ohh_writing.specs.Spelled.{first_unspelled, has_closed, has_spelled_antes, has_spelled_blinds, has_spelled_sizes, kept_facts, trace_facts, unspelled}
use Rattle.ohh_reading.specs.Reading.{reading}
use Rattle.ohh_format.specs.Again.{hand_again, hands_again, has_action, notes_again, numbered_from, script_again}
use Rattle.hand_canon.specs.ReadAgain.{AreAgain, IsAgain}
use Rattle.ohh_format.specs.KeptNotes.{kept_in_ohh}
use Rattle.ohh_format.proofs.KeptAgain.{keeps_said}
use Rattle.ohh_format.proofs.FlopGames.{flop_game}
use Rattle.ohh_format.proofs.FrontAgain.{no_stud}
use Rattle.hand_canon.proofs.SamePlay.{setup_same}
use Rattle.ohh_format.proofs.SoundPlays.{fact_holds, sound_again, spelled_setup}
use Rattle.ohh_format.proofs.StatedAgrees.{stated_agrees}
use Rattle.ohh_format.proofs.WordPlays.{words_of, words_played}
use Rattle.first_fault.specs.Numbers.{saturated}
use Rattle.hand_canon.specs.Moves.{moves_played}
use Rattle.hand_canon.proofs.Refusals.{both_none, none_refused}
use Rattle.play_event.proofs.ScriptLaws.{said_numbered}
use Rattle.hand_canon.specs.WriteRefusals.{refusal_from, first_refusal}
use Rattle.hand_canon.proofs.SameTraces.{whole_same}
use Rattle.hand_canon.specs.PlainHands.{PlainHand, plain}
use Rattle.hand_canon.specs.SaidNotes.{KeepsNotes, plain_notes}

-- a play that the format can write has no closed raise
spelled_open : (keep : Keep) (play : Play) → unspelled keep play ≡ None → list_any (λ move. move.closed) (core_said play.trace).moves ≡ false
unfolding unspelled
spelled_open keep play none =
    let setup = play.trace.setup in
    let all = (both_none (first_unspelled (trace_facts play.trace)) (first_unspelled (kept_facts keep play)) none).0 in
    let game = fact_holds (is_spelled_game setup.code) _ _ all in
    let sizes = fact_holds (has_spelled_sizes setup) _ _ game.1 in
    let antes = fact_holds (has_spelled_antes setup) _ _ sizes.1 in
    let blinds = fact_holds (has_spelled_blinds setup) _ _ antes.1 in
    let unclosed = fact_holds (not (has_closed play.trace)) _ _ blinds.1 in
    list_any-map (λ move. move.closed) move_said play.trace.moves ∙ not-true (has_closed play.trace) unclosed.0

-- ---- the play

-- a play that can be written, under the rules of hand histories, in words
pub play_again : (dialect : Dialect) (keep : Keep) (play : Play) → IsSound play → unspelled keep play ≡ None → HasTraceOf play.hand.setup history_rules (script_said play.hand) (script_again dialect play.trace)
play_again dialect keep play sound none =
    let setup = play.hand.setup in
    let script = script_said play.hand in
    let trace = play.trace in
    let one : trace.setup ≡ setup = sound.trace.same_setup in
    let core : core_said trace ≡ core_after setup script = sound.trace.core in
    let code : is_spelled_game setup.code ≡ true = subst (λ (s : Setup). is_spelled_game s.code ≡ true) one (spelled_setup keep play none).game in
    let suits : SuitsRules history_rules (core_after setup script) =
    record {
      no_closed_raise = λ full. subst (λ (c : TraceCore). list_any (λ move. move.closed) c.moves ≡ false) core (spelled_open keep play none);
      no_free_fold = λ free. absurd (cc);
      within_caps = tt;
    } in
    let played : IsPlayed setup history_rules script = played_by setup play.hand.rules history_rules script sound.valid sound.legal.played suits in
    let words : words_of dialect setup (core_after setup script) ≡ script_again dialect trace = sym (ap (λ (s : Setup). words_of dialect s (core_said trace)) one ∙ ap (words_of dialect setup) core) in
    subst (HasTraceOf setup history_rules script) words
    (words_played dialect setup history_rules script sound.valid played (flop_game setup.code code) (no_stud setup.code code))

-- ---- the hand

-- numbered events, without the numbers
pub events_said : (n : ℕ) (script : List Said) → map (λ (event : Numbered). event.1) (numbered_from n script) ≡ script
events_said n [] = refl
events_said n (event ∷ rest) = by_action (has_action event) (events_said (n + 1) rest) (events_said n rest)
  where
    by_action : (told : Bool) → map (λ (e : Numbered). e.1) (numbered_from (n + 1) rest) ≡ rest → map (λ (e : Numbered). e.1) (numbered_from n rest) ≡ rest
        → map (λ (e : Numbered). e.1) (if told then (saturated n, event) ∷ numbered_from (n + 1) rest else (0, event) ∷ numbered_from n rest) ≡ event ∷ rest
    by_action true more same = ap (λ (l : List Said). event ∷ l) more
    by_action false more same = ap (λ (l : List Said). event ∷ l) same

-- the script of a record that is read back
script_is : (dialect : Dialect) (place : ℕ) (play : Play) (hand : Record) → plain hand ≡ hand_again dialect place play → script_said hand ≡ script_again dialect play.trace
script_is dialect place play hand same =
    sym (said_numbered hand.script)
    ∙ ap (λ (read : PlainHand). map (λ (event : Numbered). event.1) read.script) same
    ∙ events_said _ (script_again dialect play.trace)

-- a hand that is read from a play is that play again
is_again : (dialect : Dialect) (keep : Keep) (place : ℕ) (play : Play) (hand : Record) → IsSound play → unspelled keep play ≡ None → plain hand ≡ hand_again dialect place play
    → IsAgain (KeepsNotes kept_in_ohh place play.trace.setup.stacks.seats) play hand
is_again dialect keep place play hand sound none same =
    let base = play.hand.setup in
    let words = script_again dialect play.trace in
    let setup : hand.setup ≡ play.trace.setup = setup_same hand.setup play.trace.setup (ap (λ (read : PlainHand). read.setup) same) (ap (λ (read : PlainHand). read.rakes) same) in
    let there : base ≡ hand.setup = sym (setup ∙ sound.trace.same_setup) in
    let script : words ≡ script_said hand = sym (script_is dialect place play hand same) in
    let rules : history_rules ≡ hand.rules = sym (ap (λ (read : PlainHand). read.rules) same) in
    let it = play_again dialect keep play sound none in
    let legal : IsLegalHand base history_rules words = record { played = it.played; shareable = subst (IsShareable base) (sym it.same) sound.legal.shareable } in
    let whole : IsTraceOf base (past_at_end base words) play.trace = whole_same base (past_at_end base (script_said play.hand)) (past_at_end base words) play.trace it.same sound.trace in
    record {
      judged = record {
        traced = record {
          legal = subst (λ (w : List Said). IsLegalHand hand.setup hand.rules w) script
              (subst (λ (r : Rules). IsLegalHand hand.setup r words) rules (subst (λ (s : Setup). IsLegalHand s history_rules words) there legal));
          whole = subst (λ (w : List Said). IsTraceOf hand.setup (past_at_end hand.setup w) play.trace) script
              (subst (λ (s : Setup). IsTraceOf s (past_at_end s words) play.trace) there whole);
        };
        agrees = stated_agrees play.trace hand.stated (record {
          finish = ap (λ (read : PlainHand). read.stated.finish) same;
          wins = ap (λ (read : PlainHand). read.stated.wins) same;
          total = ap (λ (read : PlainHand). read.stated.pot_total) same;
          values = ap (λ (read : PlainHand). read.stated.values) same;
        });
      };
      same_setup = setup;
      notes =
          keeps_said place play.trace.setup.stacks.seats play.hand.notes hand.notes
          (subst (λ (s : Setup). plain_notes s.stacks.seats hand.notes ≡ notes_again place play.trace.setup.stacks.seats play.hand.notes) setup
          (ap (λ (read : PlainHand). read.notes) same));
    }

-- ---- the hands

are_again : (dialect : Dialect) (keep : Keep) (number place : ℕ) (plays : List Play) (hands : List Record) → AllByRecursion IsSound plays → refusal_from (unspelled keep) number plays ≡ None
    → map plain hands ≡ hands_again dialect place plays → AreAgain (KeepsNotes kept_in_ohh) place plays hands
unfolding AreAgain
are_again dialect keep number place [] [] each none same = tt
are_again dialect keep number place [] (hand ∷ hands) each none same = absurd (cc)
are_again dialect keep number place (play ∷ plays) [] each none same = absurd (cc)
are_again dialect keep number place (play ∷ plays) (hand ∷ hands) each none same =
    let parts = none_refused number (unspelled keep play) (refusal_from (unspelled keep) (number + 1) plays) none in
    let here : plain hand ≡ hand_again dialect place play = cc in
    let there : map plain hands ≡ hands_again dialect (place + 1) plays = cc in
    (is_again dialect keep place play hand each.0 parts.0 here, are_again dialect keep (number + 1) (place + 1) plays hands each.1 parts.1 there)

-- the hands that are read from bytes that spell sound plays
pub read_back : (dialect : Dialect) (keep : Keep) (plays : List Play) (bytes : List ℕ) → length plays ≤ MOST_HANDS → AllByRecursion IsSound plays → first_refusal (unspelled keep) plays ≡ None → sum_by moves_played plays ≤ MOST_FILE_MOVES → Spells dialect plays bytes
    → (hands : List Record) → reading dialect bytes ≡ Ok (map plain hands) → AreAgain (KeepsNotes kept_in_ohh) 0 plays hands
read_back dialect keep plays bytes few each none moves spells hands reads =
    let again : Ok (map plain hands) ≡ Ok (hands_again dialect 0 plays) = sym reads ∙ sound_again dialect keep plays bytes few each none moves spells in
    are_again dialect keep 1 0 plays hands each none (cc)
