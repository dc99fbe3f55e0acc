-- The hands that are read back from sound plays are legal under the rules of hand histories, and
-- have the traces of the plays.
use Rattle.std.proofs.Common.{◌≡◌, ℕ, ◌+◌, true, false, Bool, pos, List, [], ◌∷◌, ◌++◌, length, map, find, sum_by, Some, None, Ok, refl, sym, ap, ap₂, subst, ◌∙◌, ◌≤◌}
use Rattle.std.specs.List.{AllByRecursion, list_any}
use Rattle.std.proofs.lemmas.Bool.Decides.{Decides-int_eq}
use Rattle.card_set.proofs.Any.{list_any-map}
use Rattle.chip_ledger.specs.PotRow.{plain_shares}
use Rattle.chip_ledger.specs.SeatRow.{amount_of}
use Rattle.play_event.specs.HistoryRules.{history_rules}
use Rattle.play_event.specs.Played.{move_said}
use Rattle.play_event.specs.Said.{Numbered, Said, numbered}
use Rattle.play_event.specs.Scripts.{past_at_end}
use Rattle.play_event.specs.Seats.{all_seats}
use Rattle.play_event.specs.declared.setup.Rules.{Rules}
use Rattle.play_event.specs.declared.setup.Setup.{Setup}
use Rattle.play_event.specs.CanonScript.{canon_of}
use Rattle.play_event.specs.PlayedScript.{IsPlayed}
use Rattle.play_event.specs.TraceCore.{TraceCore, core_after}
use Rattle.canon_laws.specs.OtherRules.{SuitsRules}
use Rattle.canon_laws.proofs.SuitedMoves.{played_by}
use Rattle.first_fault.specs.declared.limits.TheConstants.{MOST_FILE_MOVES, MOST_HANDS}
use Rattle.hand_canon.specs.SoundRecord.{script_said}
use Rattle.hand_canon.specs.TraceRows.{core_said}
use Rattle.hand_canon.specs.declared.record.Record.{Record}
use Rattle.hand_canon.specs.declared.record.Stated.{Stated}
use Rattle.hand_canon.specs.declared.trace.Play.{Play}
use Rattle.hand_canon.specs.declared.trace.Trace.{Trace}
use Rattle.hand_canon.specs.Agreement.{finish_compared, first_difference, is_different}
use Rattle.hand_canon.specs.LegalPlay.{IsTraceOfLegal}
use Rattle.hand_canon.specs.LegalHand.{IsLegalHand}
use Rattle.hand_canon.specs.Sound.{IsSound}
use Rattle.hand_canon.specs.WholeTrace.{HasShares, IsTraceOf}
use Rattle.trace_laws.proofs.SameShares.{legal_hand, same_trace}
use Rattle.phh_reading.specs.Reading.{reading}
use Rattle.hand_canon.proofs.SamePlay.{same_setup, same_stated}
use Rattle.phh_format.specs.Document.{Spells}
use Rattle.phh_format.specs.HandFields.{script_of}
use Rattle.phh_format.specs.Spelled.{unspelled}
use Rattle.phh_format.specs.Again.{hand_again, hands_again, numbered_from}
use Rattle.hand_canon.specs.ReadAgain.{AreAgain, IsAgain}
use Rattle.phh_format.specs.KeptNotes.{kept_in_phh}
use Rattle.phh_format.proofs.KeptAgain.{keeps_said}
use Rattle.phh_format.proofs.RowsAgain.{amount_count}
use Rattle.phh_format.proofs.SoundPlays.{same_script, sound_again}
use Rattle.hand_canon.specs.Moves.{moves_played}
use Rattle.hand_canon.proofs.Refusals.{none_refused}
use Rattle.play_event.proofs.ScriptLaws.{said_numbered}
use Rattle.hand_canon.specs.WriteRefusals.{refusal_from, first_refusal}
use Rattle.hand_canon.specs.PlainHands.{PlainHand, PlainSetup, PlainStated, plain}
use Rattle.hand_canon.specs.SaidNotes.{KeepsNotes, SaidNotes, notes_of, plain_notes}

-- a play that the format can write has no closed raise
spelled_open : (play : Play) → unspelled play ≡ None → list_any (λ move. move.closed) (core_said play.trace).moves ≡ false
unfolding unspelled
spelled_open play spelled = go (list_any (λ move. move.closed) play.trace.moves) refl
  where
    go : (closed : Bool) → list_any (λ move. move.closed) play.trace.moves ≡ closed → list_any (λ move. move.closed) (core_said play.trace).moves ≡ false
    go true is = absurd (cc)
    go false is = list_any-map (λ move. move.closed) move_said play.trace.moves ∙ is

module _ (play : Play) (sound : IsSound play) (spelled : unspelled play ≡ None) where
  abbrev setup : Setup
  setup = play.hand.setup

  abbrev script : List Said
  script = script_said play.hand

  -- so the play fits the rules of hand histories, under which only full raises reopen the betting
  suits : SuitsRules history_rules (core_after setup script)
  suits =
      record {
        no_closed_raise = λ full. subst (λ (core : TraceCore). list_any (λ move. move.closed) core.moves ≡ false) sound.trace.core (spelled_open play spelled);
        no_free_fold = λ free. absurd (cc);
        within_caps = tt;
      }

  -- and is legal under them
  played : IsPlayed setup history_rules script
  played = played_by setup play.hand.rules history_rules script sound.valid sound.legal.played suits

  legal : IsLegalHand setup history_rules (canon_of setup script)
  legal = legal_hand setup history_rules script (record { played = played; shareable = sound.legal.shareable })

  -- its canonical script leads to the same trace
  whole : IsTraceOf setup (past_at_end setup (canon_of setup script)) play.trace
  whole =
      let same : core_after setup script ≡ core_after setup (canon_of setup script) = sym (same_trace setup history_rules script played) in
      let P : TraceCore → Type 0 = λ core. HasShares setup core (plain_shares play.trace.shares) (amount_of play.trace.finish) in
      record {
        same_setup = sound.trace.same_setup;
        seats = sound.trace.seats;
        core = sound.trace.core ∙ same;
        shares = subst P same sound.trace.shares;
      }

  -- so does a hand with the setup of the play and its canonical script
  pub traced_again : (hand : Record) → hand.setup ≡ play.trace.setup → hand.rules ≡ history_rules → script_said hand ≡ script_of play.trace → IsTraceOfLegal hand play.trace
  traced_again hand setups rules scripts =
      let here : setup ≡ hand.setup = sym sound.trace.same_setup ∙ sym setups in
      let said : canon_of setup script ≡ script_said hand = same_script play sound ∙ sym scripts in
      let trace : IsTraceOf setup (past_at_end setup (script_said hand)) play.trace =
      subst (λ (events : List Said). IsTraceOf setup (past_at_end setup events) play.trace) said whole in
      record {
        legal =
            subst (λ (s : Setup). IsLegalHand s hand.rules (script_said hand)) here
            (subst (λ (r : Rules). IsLegalHand setup r (script_said hand)) (sym rules)
            (subst (IsLegalHand setup history_rules) said legal));
        whole = subst (λ (s : Setup). IsTraceOf s (past_at_end s (script_said hand)) play.trace) here trace;
      }

-- the finishing stacks of a trace are all that is stated
pub finish_alone : Trace → Stated
finish_alone trace = record { finish = Some trace.finish; wins = None; pot_total = None; values = None }

-- they agree with it
agree_from : (trace : Trace) (seats : List ℕ) → find is_different (map (finish_compared trace trace.finish) seats ++ []) ≡ None
agree_from trace [] = refl
agree_from trace (seat ∷ rest) =
    rw ((Decides-int_eq (pos (amount_of trace.finish seat)) (pos (amount_of trace.finish seat))).1 refl) (agree_from trace rest)

agrees : (trace : Trace) → first_difference trace (finish_alone trace) ≡ None
unfolding finish_alone
agrees trace = agree_from trace (all_seats trace.setup)

-- the events of a script with numbers
pub said_from : (n : ℕ) (events : List Said) → map (λ (event : Numbered). event.1) (numbered_from n events) ≡ events
said_from n [] = refl
said_from n (event ∷ rest) = ap (λ (events : List Said). event ∷ events) (said_from (n + 1) rest)

module _ (place : ℕ) (play : Play) (hand : Record) (same : plain hand ≡ hand_again place play) where
  -- the hand with the setup of the play, and what is stated of it
  abbrev beside : Record
  beside = record hand { setup = play.trace.setup; stated = finish_alone play.trace }

  seats : hand.setup.stacks.seats ≡ play.trace.setup.stacks.seats
  seats =
      sym (amount_count hand.setup.stacks)
      ∙ ap (λ (read : PlainHand). length read.setup.stacks) same
      ∙ amount_count play.trace.setup.stacks

  plain_by : PlainSetup → List ℕ → PlainStated → SaidNotes → PlainHand
  plain_by setup rakes stated notes =
      record { setup = setup; rakes = rakes; rules = hand.rules; script = map numbered hand.script; stated = stated; notes = notes }

  alike : plain hand ≡ plain beside
  unfolding finish_alone plain_by
  alike =
      let read = plain hand in
      let other = plain beside in
      ap₂ (λ setup rakes. plain_by setup rakes read.stated read.notes) (ap (λ (found : PlainHand). found.setup) same) (ap (λ (found : PlainHand). found.rakes) same)
      ∙ ap₂ (λ stated notes. plain_by other.setup other.rakes stated notes) (ap (λ (found : PlainHand). found.stated) same)
      (ap (λ (count : ℕ). plain_notes count hand.notes) seats)

  pub setup_back : hand.setup ≡ play.trace.setup
  setup_back = same_setup hand beside alike

  pub stated_back : hand.stated ≡ finish_alone play.trace
  stated_back = same_stated hand beside alike

  pub script_back : script_said hand ≡ script_of play.trace
  script_back =
      sym (said_numbered hand.script)
      ∙ ap (λ (read : PlainHand). map (λ (event : Numbered). event.1) read.script) same
      ∙ said_from 1 (script_of play.trace)

  pub rules_back : hand.rules ≡ history_rules
  rules_back = ap (λ (read : PlainHand). read.rules) same

-- a hand that is read from a play is that play again
is_again : (place : ℕ) (play : Play) (hand : Record) → IsSound play → unspelled play ≡ None → plain hand ≡ hand_again place play → IsAgain (KeepsNotes kept_in_phh place play.trace.setup.stacks.seats) play hand
is_again place play hand sound spelled same =
    let setups = setup_back place play hand same in
    record {
      judged =
          record {
            traced = traced_again play sound spelled hand setups (rules_back place play hand same) (script_back place play hand same);
            agrees = ap (first_difference play.trace) (stated_back place play hand same) ∙ agrees play.trace;
          };
      same_setup = setups;
      notes =
          keeps_said place play.trace.setup.stacks.seats play.hand.notes hand.notes
          (subst (λ (s : Setup). plain_notes s.stacks.seats hand.notes ≡ notes_of place play) setups
          (ap (λ (read : PlainHand). read.notes) same));
    }

are_again : (number place : ℕ) (plays : List Play) (hands : List Record) → AllByRecursion IsSound plays → refusal_from unspelled number plays ≡ None → map plain hands ≡ hands_again place plays → AreAgain (KeepsNotes kept_in_phh) place plays hands
unfolding AreAgain
are_again number place [] [] each spelled same = tt
are_again number place [] (hand ∷ hands) each spelled same = absurd (cc)
are_again number place (play ∷ plays) [] each spelled same = absurd (cc)
are_again number place (play ∷ plays) (hand ∷ hands) each spelled same =
    let told = none_refused number (unspelled play) (refusal_from unspelled (number + 1) plays) spelled in
    (is_again place play hand each.0 told.0 (cc), are_again (number + 1) (place + 1) plays hands each.1 told.1 (cc))

-- the hands that are read from bytes that spell sound plays
pub read_back : (plays : List Play) (bytes : List ℕ) → length plays ≤ MOST_HANDS → AllByRecursion IsSound plays → sum_by moves_played plays ≤ MOST_FILE_MOVES → first_refusal unspelled plays ≡ None → Spells plays bytes
    → (hands : List Record) → reading bytes ≡ Ok (map plain hands) → AreAgain (KeepsNotes kept_in_phh) 0 plays hands
read_back plays bytes few each moves spelled spells hands reads =
    let again : Ok (map plain hands) ≡ Ok (hands_again 0 plays) = sym reads ∙ sound_again plays bytes few each moves spells in
    are_again 1 0 plays hands each spelled (cc)
