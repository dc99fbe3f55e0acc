-- The canonical script of a play in the words of the format is played to its end, and leads to the
-- trace of the play.
use Rattle.std.proofs.Common.{◌≡◌, false, List, [], ◌∷◌, ◌++◌, map, reverse, refl, sym, ap, subst, ◌∙◌}
use Rattle.std.specs.List.{AllByRecursion, flat_map, range_with_len}
use Rattle.std.proofs.lemmas.List.{map-append, reverse-append, reverse-reverse}
use Rattle.canon_laws.proofs.StreetMoves.{AreFalling, legal_falling}
use Rattle.canon_laws.proofs.AllStreets.{legal_since, none_first}
use Rattle.canon_laws.proofs.Confluent.{confluent}
use Rattle.canon_laws.proofs.SameCore.{plain_again, moves_kept}
use Rattle.canon_laws.specs.Confluence.{HasTraceOf}
use Rattle.play_event.specs.CanonScript.{canon_of, canonical_script, plain_move, plain_moves, script_of, showdown_said, street_said}
use Rattle.play_event.specs.PlayedScript.{IsPlayed}
use Rattle.play_event.specs.TraceCore.{TraceCore, core_after, core_of}
use Rattle.play_event.specs.Due.{is_unfinished, turn}
use Rattle.play_event.specs.Laws.{AreLegal}
use Rattle.play_event.specs.Past.{Move, Past, moves_before, moves_of}
use Rattle.play_event.specs.Places.{Place}
use Rattle.play_event.specs.Said.{Said}
use Rattle.play_event.specs.Scripts.{past_at_end, past_of}
use Rattle.play_event.specs.Streets.{is_stud_game}
use Rattle.play_event.specs.Table.{places_of}
use Rattle.play_event.specs.Trace.{TracedMove}
use Rattle.play_event.specs.ValidSetup.{IsValid}
use Rattle.play_event.specs.declared.setup.Rules.{Rules}
use Rattle.play_event.specs.declared.setup.Setup.{Setup}
use Rattle.play_laws.proofs.FittingPasts.{legal_moves}
use Rattle.play_laws.proofs.MovesLaw.{MovesLaw}
use Rattle.ohh_members.specs.declared.dialect.Dialect.{Dialect}
use Rattle.ohh_format.specs.Again.{street_again}
use Rattle.ohh_format.proofs.FlopGames.{IsFlopGame}
use Rattle.ohh_format.proofs.WordEvents.{HasWord, InWords, words_same}
use Rattle.ohh_format.proofs.WordScript.{script_words}
use Rattle.play_event.proofs.ScriptLaws.{at_end}
use Rattle.play_laws.proofs.ResolvedMoves.{no_bring}
use Rattle.canon_laws.proofs.LastPast.{before_fifth}

-- ---- no bring-ins

-- so each move has a word
have_words : (setup : Setup) (rules : Rules) (placed : List Place) (moves : List Move) → is_stud_game setup.code ≡ false → MovesLaw setup rules placed moves → AllByRecursion HasWord moves
have_words setup rules placed [] stud law = tt
have_words setup rules placed (move ∷ older) stud law =
    (no_bring setup rules older move law.0.event law.0.due stud law.0.is_move law.0.is_due law.0.none law.0.place, have_words setup rules placed older stud law.1)

-- ---- the script

newest_plain : (moves : List TracedMove) → map plain_move (reverse moves) ≡ plain_moves moves
newest_plain [] = refl
newest_plain (move ∷ moves) =
    ap (map plain_move) (reverse-append (move ∷ []) moves)
    ∙ map-append plain_move (reverse moves) (move ∷ [])
    ∙ ap (λ (l : List Move). l ++ plain_move move ∷ []) (newest_plain moves)
    ∙ sym (reverse-append (plain_move move ∷ []) (map plain_move moves))

-- the script of a core in words
abbrev pub words_of : Dialect → Setup → TraceCore → List Said
words_of dialect setup core =
    flat_map (street_again dialect setup core.places core.moves) (range_with_len 1 4) ++ showdown_said setup core.places (plain_moves core.moves) core.shown

-- words that lead to the past of other events
in_words : (setup : Setup) (rules : Rules) (script events words : List Said) → HasTraceOf setup rules script events
    → past_of setup (reverse words) ≡ past_of setup (reverse events) → AreLegal setup rules (reverse words) → HasTraceOf setup rules script words
in_words setup rules script events words has same legal =
    record {
      played = record {
        legal = legal;
        complete = ap (λ (p : Past). is_unfinished (turn setup p).1) (at_end setup words ∙ same ∙ sym (at_end setup events)) ∙ has.played.complete;
      };
      same = ap (core_of setup) same ∙ has.same;
    }

module _ (dialect : Dialect) (setup : Setup) (rules : Rules) (script : List Said) (valid : IsValid setup) (played : IsPlayed setup rules script) (is : IsFlopGame setup.code) (stud : is_stud_game setup.code ≡ false) where
  abbrev past : Past
  past = past_at_end setup script

  abbrev core : TraceCore
  core = core_after setup script

  abbrev list : List TracedMove
  list = reverse core.moves

  abbrev plain : List Move
  plain = map plain_move list

  plain_is : plain ≡ moves_of past
  plain_is = newest_plain core.moves ∙ plain_again setup (moves_of past)

  abbrev events : List Said
  events = flat_map (street_said setup core.places plain) (range_with_len 1 4) ++ showdown_said setup core.places plain core.shown

  abbrev words : List Said
  words = flat_map (street_again dialect setup core.places (reverse list)) (range_with_len 1 4) ++ showdown_said setup core.places plain core.shown

  canon_is : canon_of setup script ≡ events
  unfolding canonical_script
  canon_is =
      ap (λ (l : List Move). script_of setup core.places l core.shown) (sym (newest_plain core.moves))
      ∙ ap (λ n. flat_map (street_said setup core.places plain) (range_with_len 1 n) ++ showdown_said setup core.places plain core.shown) is.streets

  words_are : words ≡ words_of dialect setup core
  words_are =
      ap (λ (moves : List TracedMove). flat_map (street_again dialect setup core.places moves) (range_with_len 1 4) ++ showdown_said setup core.places plain core.shown) (reverse-reverse core.moves)
      ∙ ap (λ (l : List Move). flat_map (street_again dialect setup core.places core.moves) (range_with_len 1 4) ++ showdown_said setup core.places l core.shown) (newest_plain core.moves)

  canonical : HasTraceOf setup rules script events
  canonical = subst (HasTraceOf setup rules script) canon_is (confluent setup rules script played)

  words_said : InWords dialect (reverse events) plain (reverse words)
  words_said =
      script_words dialect setup core.places list core.shown is.no_draw (subst AreFalling (sym plain_is) (legal_falling setup rules (reverse script) played.legal))
      (ap (moves_before 1) plain_is ∙ none_first (moves_of past) (legal_since setup rules (reverse script) played.legal))
      (ap (moves_before 5) plain_is ∙ before_fifth setup rules (reverse script) played.legal is.streets ∙ sym plain_is)

  -- the script in words is played to its end, and leads to the trace
  pub words_played : HasTraceOf setup rules script (words_of dialect setup core)
  words_played =
      let moves : moves_of (past_of setup (reverse events)) ≡ plain = moves_kept setup past (past_of setup (reverse events)) canonical.same ∙ sym plain_is in
      let have : AllByRecursion HasWord plain =
      subst (AllByRecursion HasWord) (sym plain_is) (have_words setup rules (places_of setup.code past) (moves_of past) stud (legal_moves setup rules (reverse script) played.legal)) in
      let it = words_same dialect setup rules (reverse events) plain (reverse words) valid words_said canonical.played.legal moves have in
      subst (HasTraceOf setup rules script) words_are (in_words setup rules script events words canonical it.past it.legal)
