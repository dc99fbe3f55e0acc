-- Hands that are the same are written as one table, and what is written as one table are the same
-- hands.
use Rattle.std.proofs.Common.{◌≡◌, ℕ, sum_by, ◌+◌, ◌≤◌, ◌↔◌, Bool, true, false, cond, if◌then◌else◌, bytes_eq, List, [], ◌∷◌, ◌++◌, length, map, take, Option, Some, None, is_some, option_map, unwrap_or, decimal, Ok, refl, sym, ap, ap₂, subst, ◌∙◌, arith}
use Rattle.std.specs.List.{AllByRecursion, list_any, range_with_len}
use Rattle.std.specs.Str.{IsUtf8}
use Rattle.std.proofs.lemmas.Str.{is_utf8-from_IsUtf8}
use Rattle.toml.specs.Data.{Data, Members, table}
use Rattle.canon_laws.proofs.Confluent.{confluent}
use Rattle.canon_laws.specs.Confluence.{HasTraceOf}
use Rattle.chip_ledger.specs.Seat.{seats_of}
use Rattle.chip_ledger.specs.SeatsSaid.{default_name}
use Rattle.first_fault.specs.declared.limits.TheConstants.{MOST_FILE_MOVES, MOST_HANDS}
use Rattle.hand_canon.proofs.SamePlay.{setup_same}
use Rattle.hand_canon.specs.Sound.{IsSound}
use Rattle.hand_canon.specs.SoundRecord.{script_said}
use Rattle.hand_canon.specs.AllowedNotes.{name_written}
use Rattle.hand_canon.specs.declared.notes.Notes.{Notes}
use Rattle.hand_canon.specs.declared.trace.Play.{Play}
use Rattle.hand_canon.specs.declared.trace.Trace.{Trace}
use Rattle.hand_canon.specs.declared.writing.Unspelled.TheVariants as unspellables
use Rattle.card_set.proofs.NumbersOfRange.{map_agree}
use Rattle.phh_format.proofs.SoundPlays.{same_script, sound_again}
use Rattle.phh_format.specs.Again.{hand_again, hands_again}
use Rattle.phh_reading.specs.Reading.{reading}
use Rattle.phh_format.specs.Document.{document, hand_table, numbered_hands, Spells}
use Rattle.phh_format.specs.HandFields.{hand_field, label, names_field, note_fields, numbers, script_of, setup_fields, trace_fields}
use Rattle.phh_format.specs.Members.{Field, table_of}
use Rattle.phh_format.specs.Spelled as facts
use Rattle.play_event.specs.Said.{Numbered}
use Rattle.hand_canon.proofs.NoteLaws.{AreUnusual, at_seat, taken_alike, tests_alike, unusual_said}
use Rattle.trace_laws.proofs.SameWords.{one_trace}
use Rattle.phh_format.specs.KeptNotes.{kept_in_phh}
use Rattle.hand_canon.specs.SameHands.{AllPaired, AreSameHand, AreSameHands}
use Rattle.phh_format.specs.SameTables.{AreSameTable}
use Rattle.hand_canon.proofs.UnusualNumbers.{unusual}
use Rattle.hand_canon.specs.Moves.{moves_played}
use Rattle.phh_format.proofs.ReadBack.{said_from}
use Rattle.hand_canon.specs.PlainHands.{PlainHand}
use Rattle.hand_canon.specs.SaidNotes.{SaidNotes, hand_name_noted, name_said, notes_of, said_notes}

-- ---- what is written of notes

-- a label that is written is one that is noted
label_field : (place : ℕ) (said : Option (List ℕ)) → hand_field place said ≡ option_map label (hand_name_noted place said)
label_field place None = refl
label_field place (Some text) = by_test (bytes_eq text (decimal place))
  where
    by_test : (same : Bool) → ◌≡◌ {A = Option Data} (cond same None (Some (label text))) (option_map label (cond same None (Some text)))
    by_test true = refl
    by_test false = refl

seats_field : (count : ℕ) (said : Option (List ℕ)) → option_map (λ all. numbers (take count all)) said ≡ option_map numbers (option_map (take count) said)
seats_field count None = refl
seats_field count (Some all) = refl

names_fields : (count : ℕ) (a b : Notes) → map (name_said a.names) (seats_of count) ≡ map (name_said b.names) (seats_of count) → names_field count a ≡ names_field count b
names_fields count a b same =
    let some : list_any is_some (take count a.names) ≡ list_any is_some (take count b.names) =
    tests_alike is_some refl (take count a.names) (take count b.names) (taken_alike count a.names b.names same) in
    let written : map (name_written a) (range_with_len 1 count) ≡ map (name_written b) (range_with_len 1 count) =
    map_agree (name_written a) (name_written b) 1 count (λ seat first last.
    ap (λ (name : Option (List ℕ)). unwrap_or name (default_name seat)) (at_seat (name_said a.names) (name_said b.names) None count seat same first (omega (arith, last)))) in
    cc (some, written)

-- the fields of notes that say the same
fields_same : (place count : ℕ) (a b : Notes) → AreUnusual count a.seats → AreUnusual count b.seats → said_notes place count a ≡ said_notes place count b → note_fields place count a ≡ note_fields place count b
fields_same place count a b unusual no_usual same =
    let names = names_fields count a b (ap (λ (n : SaidNotes). n.names) same) in
    let taken : option_map (take count) a.seats ≡ option_map (take count) b.seats =
    sym (unusual_said count a.seats unusual) ∙ ap (λ (n : SaidNotes). n.seats) same ∙ unusual_said count b.seats no_usual in
    let seats : option_map (λ said. numbers (take count said)) a.seats ≡ option_map (λ said. numbers (take count said)) b.seats =
    seats_field count a.seats ∙ ap (option_map numbers) taken ∙ sym (seats_field count b.seats) in
    let hand : hand_field place a.hand ≡ hand_field place b.hand =
    label_field place a.hand ∙ ap (λ (n : SaidNotes). option_map label n.hand) same ∙ sym (label_field place b.hand) in
    let seat_count : a.seat_count ≡ b.seat_count = ap (λ (n : SaidNotes). n.seat_count) same in
    let table_is : a.table ≡ b.table = ap (λ (n : SaidNotes). n.texts.table) same in
    let venue : a.venue ≡ b.venue = ap (λ (n : SaidNotes). n.texts.venue) same in
    let currency : a.currency ≡ b.currency = ap (λ (n : SaidNotes). n.texts.currency) same in
    let year : a.year ≡ b.year = ap (λ (n : SaidNotes). n.year) same in
    let month : a.month ≡ b.month = ap (λ (n : SaidNotes). n.month) same in
    let day : a.day ≡ b.day = ap (λ (n : SaidNotes). n.day) same in
    let time : a.time ≡ b.time = ap (λ (n : SaidNotes). n.time) same in
    let zone : a.zone ≡ b.zone = ap (λ (n : SaidNotes). n.zone) same in
    cc

-- ---- the document

-- the table of the same hand
table_same : (place : ℕ) (play other : Play) → IsSound play → IsSound other → AreSameHand kept_in_phh place play other → hand_table place play ≡ hand_table place other
unfolding hand_table
table_same place play other sound too same =
    let count = play.trace.setup.stacks.seats in
    let there : said_notes place other.trace.setup.stacks.seats other.hand.notes ≡ said_notes place count other.hand.notes =
    ap (λ (trace : Trace). said_notes place trace.setup.stacks.seats other.hand.notes) (sym same.trace) in
    let unusual_there : AreUnusual count other.hand.notes.seats =
    subst (λ (trace : Trace). AreUnusual trace.setup.stacks.seats other.hand.notes.seats) (sym same.trace) (unusual other too) in
    ap table_of
    (ap (λ (fields : List Field). setup_fields play.trace.setup ++ (trace_fields play.trace ++ fields)) (fields_same place count play.hand.notes other.hand.notes (unusual play sound) unusual_there (same.notes ∙ there))
    ∙ ap (λ (trace : Trace). setup_fields trace.setup ++ (trace_fields trace ++ note_fields place trace.setup.stacks.seats other.hand.notes)) same.trace)

numbered_same : (place : ℕ) (plays others : List Play) → AllByRecursion IsSound plays → AllByRecursion IsSound others → AllPaired (AreSameHand kept_in_phh) place plays others → numbered_hands place plays ≡ numbered_hands place others
unfolding AllPaired
numbered_same place [] [] sound too all = refl
numbered_same place [] (other ∷ others) sound too all = absurd all
numbered_same place (play ∷ plays) [] sound too all = absurd all
numbered_same place (play ∷ plays) (other ∷ others) sound too all =
    ap₂ (λ (hand : Members) (rest : List Field). (decimal (place + 1), Some (table hand)) ∷ rest) (table_same place play other sound.0 too.0 all.0) (numbered_same (place + 1) plays others sound.1 too.1 all.1)

document_same : (plays others : List Play) → AllByRecursion IsSound plays → AllByRecursion IsSound others → AllPaired (AreSameHand kept_in_phh) 0 plays others → document plays ≡ document others
unfolding AllPaired
document_same [] [] sound too all = refl
document_same [] (other ∷ others) sound too all = absurd all
document_same (play ∷ plays) [] sound too all = absurd all
document_same (play ∷ []) (other ∷ []) sound too all = table_same 0 play other sound.0 too.0 all.0
document_same (play ∷ []) (other ∷ more ∷ others) sound too all = absurd all.1
document_same (play ∷ next ∷ plays) (other ∷ []) sound too all = absurd all.1
document_same (play ∷ next ∷ plays) (other ∷ more ∷ others) sound too all =
    ap table_of (numbered_same 0 (play ∷ next ∷ plays) (other ∷ more ∷ others) sound too all)

-- hands that are the same are written as one table
pub one_table : (plays others : List Play) (bytes too : List ℕ) → AllByRecursion IsSound plays → AllByRecursion IsSound others → Spells plays bytes → Spells others too
    → AreSameHands kept_in_phh plays others → AreSameTable bytes too
one_table plays others bytes too sound other_sound spell spell_too all =
    record {
      document = document plays;
      first = spell.table;
      second = spell_too.table ∙ ap (λ (members : Members). Some members) (sym (document_same plays others sound other_sound all));
    }

-- ---- hands of one table

-- the canonical script of a sound play leads to its trace
own_words : (play : Play) → IsSound play → HasTraceOf play.hand.setup play.hand.rules (script_said play.hand) (script_of play.trace)
own_words play sound =
    subst (HasTraceOf play.hand.setup play.hand.rules (script_said play.hand)) (same_script play sound)
    (confluent play.hand.setup play.hand.rules (script_said play.hand) sound.legal.played)

-- plays that read as one hand are the same
hand_same : (place : ℕ) (play other : Play) → IsSound play → IsSound other → hand_again place play ≡ hand_again place other → AreSameHand kept_in_phh place play other
hand_same place play other sound too same =
    let setups_are : play.trace.setup ≡ other.trace.setup =
    setup_same play.trace.setup other.trace.setup (ap (λ (hand : PlainHand). hand.setup) same) (ap (λ (hand : PlainHand). hand.rakes) same) in
    let words : script_of play.trace ≡ script_of other.trace =
    sym (said_from 1 (script_of play.trace)) ∙ ap (λ (hand : PlainHand). map (λ (event : Numbered). event.1) hand.script) same ∙ said_from 1 (script_of other.trace) in
    record {
      trace = one_trace play other play.hand.rules other.hand.rules (script_of play.trace) (script_of other.trace) sound too (own_words play sound) (own_words other too) setups_are words;
      notes = ap (λ (hand : PlainHand). hand.notes) same;
    }

hands_same : (place : ℕ) (plays others : List Play) → AllByRecursion IsSound plays → AllByRecursion IsSound others → hands_again place plays ≡ hands_again place others → AllPaired (AreSameHand kept_in_phh) place plays others
unfolding AllPaired
hands_same place [] [] sound too same = tt
hands_same place [] (other ∷ others) sound too same = absurd (cc (same))
hands_same place (play ∷ plays) [] sound too same = absurd (cc (same))
hands_same place (play ∷ plays) (other ∷ others) sound too same =
    let here : hand_again place play ≡ hand_again place other = cc in
    let there : hands_again (place + 1) plays ≡ hands_again (place + 1) others = cc in
    (hand_same place play other sound.0 too.0 here, hands_same (place + 1) plays others sound.1 too.1 there)

-- texts of one table read as one file
reading_same : (bytes too : List ℕ) → IsUtf8 bytes → IsUtf8 too → AreSameTable bytes too → reading bytes ≡ reading too
unfolding reading
reading_same bytes too text text_too same =
    rw (is_utf8-from_IsUtf8 bytes text, is_utf8-from_IsUtf8 too text_too, same.first, same.second) refl

-- what is written as one table are the same hands
pub same_hands : (plays others : List Play) (bytes too : List ℕ) → length plays ≤ MOST_HANDS → length others ≤ MOST_HANDS
    → sum_by moves_played plays ≤ MOST_FILE_MOVES → sum_by moves_played others ≤ MOST_FILE_MOVES
    → AllByRecursion IsSound plays → AllByRecursion IsSound others → Spells plays bytes → Spells others too
    → AreSameTable bytes too → AreSameHands kept_in_phh plays others
same_hands plays others bytes too few few_too moves moves_too sound other_sound spell spell_too same =
    let one = sound_again plays bytes few sound moves spell in
    let two = sound_again others too few_too other_sound moves_too spell_too in
    let again : Ok (hands_again 0 plays) ≡ Ok (hands_again 0 others) = sym one ∙ reading_same bytes too spell.text spell_too.text same ∙ two in
    hands_same 0 plays others sound other_sound (cc)

-- ---- facts

-- which fact of a play cannot be written is determined by its trace
pub trace_fact : (play other : Play) → play.trace ≡ other.trace → facts.unspelled play ≡ facts.unspelled other
unfolding facts.unspelled
trace_fact play other same =
    ap (λ (trace : Trace). if list_any (λ move. move.closed) trace.moves then Some unspellables.ReopenedShort else None) same

-- all notes can be written
pub all_spelled : (place : ℕ) (play : Play) → (facts.unspelled play ≡ None) ↔ ((facts.unspelled play ≡ None) × (kept_in_phh (notes_of place play) ≡ notes_of place play))
all_spelled place play = ((λ none. (none, refl)), (λ both. both.0))

-- keeping notes twice is the same as once
pub kept_again : (notes : SaidNotes) → kept_in_phh (kept_in_phh notes) ≡ kept_in_phh notes
kept_again notes = refl
