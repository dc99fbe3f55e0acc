-- The hand that is read again of a play is the hand of the play.
use Rattle.std.proofs.Common.{◌≡◌, ℕ, ◌+◌, Bool, true, false, if◌then◌else◌, List, [], ◌∷◌, map, reverse, take, None, refl, sym, ap, subst, ◌∙◌, true≢false}
use Rattle.std.specs.List.{flat_map, list_any, range_with_len}
use Rattle.canon_laws.proofs.StreetMoves.{legal_falling}
use Rattle.canon_laws.proofs.AllStreets.{AreSince, legal_since, none_first}
use Rattle.canon_laws.proofs.SameCore.{plain_again, moves_kept}
use Rattle.canon_laws.proofs.SuitedMoves.{played_by}
use Rattle.canon_laws.specs.Confluence.{HasTraceOf}
use Rattle.canon_laws.specs.OtherRules.{SuitsRules}
use Rattle.play_event.specs.CanonScript.{plain_moves, street_said}
use Rattle.play_event.specs.PlayedScript.{IsPlayed, is_move_event}
use Rattle.play_event.specs.TraceCore.{TraceCore, core_after, core_of}
use Rattle.play_event.specs.Due.{is_unfinished, turn}
use Rattle.play_event.specs.Laws.{AreLegal}
use Rattle.play_event.specs.Past.{Move, Past, moves_of}
use Rattle.play_event.specs.Said.{Numbered, Said}
use Rattle.play_event.specs.Scripts.{past_at_end, past_of}
use Rattle.play_event.specs.Streets.{is_stud_game, limit_of}
use Rattle.play_event.specs.Trace.{TracedPlace, streets_of}
use Rattle.play_event.specs.ValidSetup.{IsValid}
use Rattle.play_event.specs.declared.code.Code.{Code}
use Rattle.play_event.specs.declared.limit.Limit.TheVariants as limits
use Rattle.play_event.specs.declared.setup.Rules.{Rules}
use Rattle.play_event.specs.declared.setup.Setup.{Setup}
use Rattle.hand_canon.specs.LegalHand.{IsLegalHand, IsShareable}
use Rattle.hand_canon.specs.Sound.{IsSound}
use Rattle.hand_canon.specs.WholeTrace.{IsTraceOf}
use Rattle.chip_ledger.specs.LiveRow.{flagged}
use Rattle.chip_ledger.specs.Seat.{seats_of}
use Rattle.hand_canon.specs.SoundRecord.{script_said}
use Rattle.hand_canon.specs.TraceRows.{core_said}
use Rattle.hand_canon.specs.declared.record.Record.{Record}
use Rattle.hand_canon.specs.declared.trace.Play.{Play}
use Rattle.hand_canon.specs.declared.trace.Trace.{Trace}
use Rattle.hand_canon.specs.declared.writing.Keep.{Keep}
use Rattle.acpc_game.specs.declared.game.Game.{Game}
use Rattle.acpc_format.specs.PlayFacts.{is_open_muck}
use Rattle.acpc_format.specs.SetupFacts.{is_code_of}
use Rattle.acpc_format.specs.Spelled.{unspelled}
use Rattle.acpc_reading.specs.Logs.{HandSaid}
use Rattle.acpc_reading.specs.RecordView.{IsOfGame, code_of, record_said, rules_of}
use Rattle.acpc_format.specs.Again.{hand_again, numbered_from, script_again, street_again}
use Rattle.hand_canon.specs.ReadAgain.{IsAgain}
use Rattle.acpc_format.specs.KeptNotes.{kept_in_acpc}
use Rattle.acpc_format.proofs.KeptAgain.{keeps_said}
use Rattle.hand_canon.specs.SaidNotes.{KeepsNotes}
use Rattle.acpc_format.proofs.HiddenMucks.{mucks_hide}
use Rattle.acpc_format.proofs.Holdem.{IsHoldem, holdem}
use Rattle.acpc_format.proofs.LetterEvents.{letters_same}
use Rattle.acpc_format.proofs.LetterScript.{script_letters}
use Rattle.acpc_format.proofs.OneSetup.{code_is, spelled_setup}
use Rattle.acpc_format.proofs.SetupsSame.{setups_same}
use Rattle.acpc_format.proofs.SpelledFacts.{HasPlayOf, spelled}
use Rattle.acpc_format.proofs.SuitsGame.{play_letters, suits_game}
use Rattle.acpc_format.proofs.ValuesAgree.{values_agree}
use Rattle.acpc_format.proofs.WithoutShows.{MucksHide, streets_alone, without_shows}
use Rattle.first_fault.specs.Numbers.{saturated}
use Rattle.play_event.proofs.ScriptLaws.{said_numbered, at_end}
use Rattle.canon_laws.proofs.LastPast.{before_fifth}
use Rattle.hand_canon.proofs.SameTraces.{whole_same}

-- ---- the script

-- hold'em has no bring-in, and in a limit game a fixed limit
pub record HasNoUpCards (no_limit : Bool) (code : Code) : Type 0 where
  pub stud : is_stud_game code ≡ false
  pub fixed : no_limit ≡ false → limit_of code ≡ limits.Fixed

pub no_up_cards : (no_limit : Bool) → HasNoUpCards no_limit (code_of no_limit)
no_up_cards true = record { stud = refl; fixed = λ is. absurd (true≢false is) }
no_up_cards false = record { stud = refl; fixed = λ is. refl }

-- a script in letters
in_letters : (no_limit : Bool) (setup : Setup) (rules : Rules) (script words again : List Said) → HasTraceOf setup rules script words
    → past_of setup (reverse again) ≡ past_of setup (reverse words) → AreLegal setup rules (reverse again) → HasTraceOf setup rules script again
in_letters no_limit setup rules script words again has same legal =
    record {
      played = record {
        legal = legal;
        complete = ap (λ (p : Past). is_unfinished (turn setup p).1) (at_end setup again ∙ same ∙ sym (at_end setup words)) ∙ has.played.complete;
      };
      same = ap (core_of setup) same ∙ has.same;
    }

-- the letters of a played script, under rules that it suits
letters_played : (game : Game) (setup : Setup) (rules : Rules) (script : List Said) (trace : Trace) → IsValid setup → IsPlayed setup rules script → IsHoldem setup.code → HasNoUpCards game.no_limit setup.code
    → HasPlayOf game trace → core_said trace ≡ core_after setup script → MucksHide setup (past_at_end setup script)
    → HasTraceOf setup rules script (flat_map (street_again game.no_limit setup (core_after setup script).places (moves_of (past_at_end setup script))) (range_with_len 1 4))
letters_played game setup rules script trace valid played is kind has same hide =
    let past = past_at_end setup script in
    let list = moves_of past in
    let placed = (core_after setup script).places in
    let words = flat_map (street_said setup placed list) (range_with_len 1 4) in
    let again = flat_map (street_again game.no_limit setup placed list) (range_with_len 1 4) in
    let alone : streets_alone setup (core_after setup script) ≡ words =
    ap (λ (l : List Move). flat_map (street_said setup placed l) (streets_of setup)) (plain_again setup list)
    ∙ ap (λ n. flat_map (street_said setup placed list) (range_with_len 1 n)) is.streets in
    let trace_of : HasTraceOf setup rules script words = subst (HasTraceOf setup rules script) alone (without_shows setup rules script played hide) in
    let moves : moves_of (past_of setup (reverse words)) ≡ list = moves_kept setup past (past_of setup (reverse words)) trace_of.same in
    let have = play_letters game trace setup rules (reverse script) has (ap (λ (core : TraceCore). core.moves) same) played.legal kind.stud kind.fixed in
    let letters = script_letters game.no_limit setup placed list is.no_draw (legal_falling setup rules (reverse script) played.legal) (none_first list (legal_since setup rules (reverse script) played.legal)) (before_fifth setup rules (reverse script) played.legal is.streets) in
    let it = letters_same game.no_limit setup rules (reverse words) list (reverse again) valid letters trace_of.played.legal moves have in
    in_letters game.no_limit setup rules script words again trace_of it.past it.legal

-- ---- the hand

-- a play that the logs can write, under the rules of the game, in letters
pub play_again : (game : Game) (keep : Keep) (play : Play) → IsSound play → unspelled game keep play ≡ None
    → HasTraceOf play.hand.setup (rules_of game) (script_said play.hand) (script_again game.no_limit play.trace)
play_again game keep play sound none =
    let setup = play.hand.setup in
    let script = script_said play.hand in
    let past = past_at_end setup script in
    let trace = play.trace in
    let it = spelled game keep play none in
    let one : trace.setup ≡ setup = sound.trace.same_setup in
    let core : core_said trace ≡ core_after setup script = sound.trace.core in
    let code : is_code_of game.no_limit setup.code ≡ true = sym (ap (λ (s : Setup). is_code_of game.no_limit s.code) one) ∙ it.setup.code in
    let is : IsHoldem setup.code = holdem game.no_limit setup.code code in
    let kind : HasNoUpCards game.no_limit setup.code = subst (λ (c : Code). HasNoUpCards game.no_limit c) (sym (code_is game.no_limit setup.code code)) (no_up_cards game.no_limit) in
    let legal = sound.legal.played.legal in
    let since : AreSince (plain_moves (core_said trace).moves) = subst AreSince (sym (ap (λ (c : TraceCore). plain_moves c.moves) core ∙ plain_again setup (moves_of past))) (legal_since setup play.hand.rules (reverse script) legal) in
    let played : IsPlayed setup (rules_of game) script = played_by setup play.hand.rules (rules_of game) script sound.valid sound.legal.played
    (subst (SuitsRules (rules_of game)) core (suits_game game trace it.played since)) in
    let mucked : flagged trace.mucked ≡ (core_after setup script).mucked = ap (λ (c : TraceCore). c.mucked) core in
    let places : (core_said trace).places ≡ (core_after setup script).places = ap (λ (c : TraceCore). c.places) core in
    let shut = sym (ap (λ (p : List TracedPlace). list_any (is_open_muck p trace.mucked) (seats_of trace.setup.stacks.seats)) places
    ∙ ap (λ (s : Setup). list_any (is_open_muck (core_after setup script).places trace.mucked) (seats_of s.stacks.seats)) one) ∙ it.played.mucks in
    let hide : MucksHide setup past = mucks_hide setup play.hand.rules (reverse script) trace.mucked legal is.no_draw mucked shut in
    let words : flat_map (street_again game.no_limit setup (core_after setup script).places (moves_of past)) (range_with_len 1 4) ≡ script_again game.no_limit trace =
    sym (ap (λ (s : Setup). flat_map (street_again game.no_limit s (core_said trace).places (plain_moves (core_said trace).moves)) (range_with_len 1 4)) one
    ∙ ap (λ (c : TraceCore). flat_map (street_again game.no_limit setup c.places (plain_moves c.moves)) (range_with_len 1 4)) core
    ∙ ap (λ (l : List Move). flat_map (street_again game.no_limit setup (core_after setup script).places l) (range_with_len 1 4)) (plain_again setup (moves_of past))) in
    subst (HasTraceOf setup (rules_of game) script) words (letters_played game setup (rules_of game) script trace sound.valid played is kind it.played core hide)

-- what the numbered events say
pub events_said : (n : ℕ) (script : List Said) → map (λ (event : Numbered). event.1) (numbered_from n script) ≡ script
events_said n [] = refl
events_said n (event ∷ rest) = by_move (is_move_event event) (events_said (n + 1) rest) (events_said n rest)
  where
    by_move : (b : Bool) → map (λ (e : Numbered). e.1) (numbered_from (n + 1) rest) ≡ rest → map (λ (e : Numbered). e.1) (numbered_from n rest) ≡ rest
        → map (λ (e : Numbered). e.1) (if b then ((saturated n, event) ∷ numbered_from (n + 1) rest) else ((0, event) ∷ numbered_from n rest)) ≡ event ∷ rest
    by_move true more same = ap (λ (l : List Said). event ∷ l) more
    by_move false more same = ap (λ (l : List Said). event ∷ l) same

-- the script of a record that is read again
script_is : (no_limit : Bool) (place : ℕ) (play : Play) (hand : Record) → record_said hand ≡ hand_again no_limit place play → script_said hand ≡ script_again no_limit play.trace
script_is no_limit place play hand same =
    sym (said_numbered hand.script)
    ∙ ap (λ (said : HandSaid). map (λ (event : Numbered). event.1) said.events) same
    ∙ events_said 1 (script_again no_limit play.trace)

-- the record that is read again of a play
pub hand_is : (game : Game) (keep : Keep) (place : ℕ) (play : Play) (hand : Record) → IsSound play → unspelled game keep play ≡ None → IsOfGame game hand → record_said hand ≡ hand_again game.no_limit place play
    → IsAgain (KeepsNotes kept_in_acpc place play.trace.setup.stacks.seats) play hand
hand_is game keep place play hand sound none is same =
    let base = play.hand.setup in
    let words = script_again game.no_limit play.trace in
    let one : play.trace.setup ≡ base = sound.trace.same_setup in
    let setup : hand.setup ≡ play.trace.setup = setups_same game hand.setup play.trace.setup is.setup (spelled_setup game keep play (subst IsValid (sym one) sound.valid) none) in
    let there : base ≡ hand.setup = sym (setup ∙ one) in
    let script : words ≡ script_said hand = sym (script_is game.no_limit place play hand same) in
    let it = play_again game keep play sound none in
    let legal : IsLegalHand base (rules_of game) words = record { played = it.played; shareable = subst (IsShareable base) (sym it.same) sound.legal.shareable } in
    let whole : IsTraceOf base (past_at_end base words) play.trace = whole_same base (past_at_end base (script_said play.hand)) (past_at_end base words) play.trace it.same sound.trace in
    record {
      judged = record {
        traced = record {
          legal = subst (λ (w : List Said). IsLegalHand hand.setup hand.rules w) script
              (subst (λ (r : Rules). IsLegalHand hand.setup r words) (sym is.rules) (subst (λ (s : Setup). IsLegalHand s (rules_of game) words) there legal));
          whole = subst (λ (w : List Said). IsTraceOf hand.setup (past_at_end hand.setup w) play.trace) script
              (subst (λ (s : Setup). IsTraceOf s (past_at_end s words) play.trace) there whole);
        };
        agrees = values_agree play.trace hand.stated is.stated (ap (λ (said : HandSaid). said.values) same);
      };
      same_setup = setup;
      notes = keeps_said place play.trace.setup.stacks.seats play.hand.notes hand.notes (record {
        names = sym (ap (λ (s : Setup). take s.stacks.seats hand.notes.names) setup) ∙ ap (λ (said : HandSaid). said.names) same;
        hand = ap (λ (said : HandSaid). said.hand) same;
        others = is.notes;
      });
    }
