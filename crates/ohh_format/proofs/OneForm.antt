-- Hands that are the same are written as the same bytes, and what is written as the same bytes are
-- the same hands.
use Rattle.std.proofs.Common.{◌≡◌, ℕ, sum_by, ◌+◌, ◌-◌, ◌≤◌, Bool, true, false, cond, codes, decimal, List, [], ◌∷◌, ◌++◌, length, map, take, Option, Some, None, option_and_then, option_map, unwrap_or, Ok, refl, sym, ap, ap₂, subst, ◌∙◌, arith}
use Rattle.std.specs.List.{AllByRecursion}
use Rattle.std.proofs.lemmas.List.{get_or-take}
use Rattle.serde_json.specs.Data.{Members, member, no_members, object}
use Rattle.serde_json.specs.Written.{compact_text}
use Rattle.chip_ledger.specs.Seat.{seats_of}
use Rattle.chip_ledger.specs.SeatsSaid.{default_name}
use Rattle.hand_canon.specs.SaidNotes.{SaidNotes, name_said, notes_of, numbers_said, said_notes}
use Rattle.hand_canon.specs.Sound.{IsSound}
use Rattle.hand_canon.proofs.Refusals.{none_refused}
use Rattle.hand_canon.specs.AllowedNotes.{name_written}
use Rattle.hand_canon.specs.WriteRefusals.{first_refusal, refusal_from}
use Rattle.hand_canon.specs.declared.notes.Notes.{Notes}
use Rattle.hand_canon.specs.declared.trace.Play.{Play}
use Rattle.hand_canon.specs.declared.trace.Trace.{Trace}
use Rattle.hand_canon.specs.declared.writing.Keep.{Keep}
use Rattle.card_set.proofs.NumbersOfRange.{map_agree}
use Rattle.ohh_format.proofs.ReadBack.{events_said, play_again}
use Rattle.hand_canon.proofs.SamePlay.{setup_same}
use Rattle.ohh_format.proofs.SoundPlays.{sound_again}
use Rattle.ohh_format.specs.Again.{hand_again, hands_again, script_again}
use Rattle.ohh_format.specs.KeptNotes.{kept_in_ohh, moment_in_notes, numbers_round}
use Rattle.ohh_writing.specs.Actions.{posts}
use Rattle.ohh_writing.specs.Lines.{Spells, empty_line_before, hand_text, lines_from}
use Rattle.ohh_writing.specs.Moment.{moment_of, moment_said}
use Rattle.ohh_writing.specs.Seating.{is_circular, number_among, numbers_spelled}
use Rattle.ohh_writing.specs.Spelled.{unspelled}
use Rattle.ohh_writing.specs.Tree.{hand_members, hand_tree, player_tree}
use Rattle.hand_canon.specs.declared.notes.Moment.{Moment}
use Rattle.ohh_members.specs.declared.dialect.Dialect.{Dialect}
use Rattle.ohh_reading.specs.Reading.{reading}
use Rattle.play_event.specs.HistoryRules.{history_rules}
use Rattle.play_event.specs.Said.{Numbered}
use Rattle.hand_canon.proofs.NoteLaws.{AreUnusual, at_seat, label_or_place, notes_same, unusual_said}
use Rattle.trace_laws.proofs.SameWords.{one_trace}
use Rattle.hand_canon.specs.SameHands.{AllPaired, AreSameHand, AreSameHands}
use Rattle.hand_canon.proofs.UnusualNumbers.{unusual}
use Rattle.first_fault.specs.declared.limits.TheConstants.{MOST_FILE_MOVES, MOST_HANDS}
use Rattle.hand_canon.specs.Moves.{moves_played}
use Rattle.ohh_format.proofs.KeptAgain.{read_kept}
use Rattle.hand_canon.specs.PlainHands.{PlainHand}

-- ---- numbers and moments that are kept

round_twice : (said : Option (List ℕ)) → option_and_then numbers_round (option_and_then numbers_round said) ≡ option_and_then numbers_round said
round_twice None = refl
round_twice (Some numbers) = by_test (is_circular numbers) refl
  where
    by_test : (round : Bool) → is_circular numbers ≡ round → option_and_then numbers_round (cond round (Some numbers) None) ≡ cond round (Some numbers) None
    by_test true goes = ap (λ (b : Bool). cond b (Some numbers) None) goes
    by_test false goes = refl

-- a moment is determined by its parts
pub moment_again : (moment : Option Moment)
    → moment_said (option_map (λ m. m.day.year) moment) (option_map (λ m. m.day.month) moment) (option_map (λ m. m.day.day) moment) (option_map (λ m. m.time) moment) (option_map (λ m. codes "UTC") moment) ≡ moment
moment_again None = refl
moment_again (Some moment) = refl

-- the moment of notes is that of the kept notes
pub moment_kept : (notes : SaidNotes) → moment_in_notes (kept_in_ohh notes) ≡ moment_in_notes notes
moment_kept notes = moment_again (moment_in_notes notes)

-- keeping notes twice is the same as once
pub kept_again : (notes : SaidNotes) → kept_in_ohh (kept_in_ohh notes) ≡ kept_in_ohh notes
kept_again notes =
    let moment = moment_kept notes in
    notes_same (kept_in_ohh (kept_in_ohh notes)) (kept_in_ohh notes) (record {
      names = refl;
      seats = round_twice notes.seats;
      seat_count = refl;
      hand = refl;
      texts = refl;
      year = ap (option_map (λ m. m.day.year)) moment;
      month = ap (option_map (λ m. m.day.month)) moment;
      day = ap (option_map (λ m. m.day.day)) moment;
      time = ap (option_map (λ m. m.time)) moment;
      zone = ap (option_map (λ m. codes "UTC")) moment;
    })

-- ---- lines

-- the number of a seat is one of those that are kept
number_kept : (count seat : ℕ) (said : Option (List ℕ)) → 1 ≤ seat → seat ≤ count → AreUnusual count said
    → number_among (numbers_spelled count said) seat ≡ number_among (option_and_then numbers_round (numbers_said count said)) seat
number_kept count seat None first last are = refl
number_kept count seat (Some numbers) first last are =
    by_test (is_circular (take count numbers)) refl
    ∙ ap (λ (x : Option (List ℕ)). number_among (option_and_then numbers_round x) seat) (sym (unusual_said count (Some numbers) are))
  where
    by_test : (round : Bool) → is_circular (take count numbers) ≡ round → number_among (cond round (Some numbers) None) seat ≡ number_among (option_and_then numbers_round (Some (take count numbers))) seat
    by_test true goes =
        sym (get_or-take count numbers (seat - 1) 0 (omega (arith, first, last)))
        ∙ sym (ap (λ (b : Bool). number_among (cond b (Some (take count numbers)) None) seat) goes)
    by_test false goes = sym (ap (λ (b : Bool). number_among (cond b (Some (take count numbers)) None) seat) goes)

module _ (dialect : Dialect) (place : ℕ) (trace : Trace) (a b : Notes) (are : AreUnusual trace.setup.stacks.seats a.seats) (too : AreUnusual trace.setup.stacks.seats b.seats)
    (same : kept_in_ohh (said_notes place trace.setup.stacks.seats a) ≡ kept_in_ohh (said_notes place trace.setup.stacks.seats b)) where
  abbrev count : ℕ
  count = trace.setup.stacks.seats

  numbers_same : (seat : ℕ) → 1 ≤ seat → seat ≤ count → number_among (numbers_spelled count a.seats) seat ≡ number_among (numbers_spelled count b.seats) seat
  numbers_same seat first last =
      number_kept count seat a.seats first last are
      ∙ ap (λ (n : SaidNotes). number_among n.seats seat) same
      ∙ sym (number_kept count seat b.seats first last too)

  names_same : (seat : ℕ) → 1 ≤ seat → seat ≤ count → name_written a seat ≡ name_written b seat
  names_same seat first last =
      ap (λ (name : Option (List ℕ)). unwrap_or name (default_name seat)) (at_seat (name_said a.names) (name_said b.names) None count seat (ap (λ (n : SaidNotes). n.names) same) first last)

  players_same : map (player_tree trace.setup.stacks a (numbers_spelled count a.seats)) (seats_of count) ≡ map (player_tree trace.setup.stacks b (numbers_spelled count b.seats)) (seats_of count)
  players_same =
      map_agree (player_tree trace.setup.stacks a (numbers_spelled count a.seats)) (player_tree trace.setup.stacks b (numbers_spelled count b.seats)) 1 count (λ seat first last.
      let name = names_same seat first (omega (arith, last)) in
      let number = numbers_same seat first (omega (arith, last)) in
      cc)

  moment_same : moment_of a ≡ moment_of b
  moment_same =
      sym (moment_kept (said_notes place count a)) ∙ ap moment_in_notes same ∙ moment_kept (said_notes place count b)

  -- the members of a hand
  members_same : hand_members dialect place trace a ≡ hand_members dialect place trace b
  members_same =
      let players = players_same in
      let moment = moment_same in
      let dealer = numbers_same count (omega (arith, trace.setup.stacks.least)) (omega arith) in
      let hand : unwrap_or a.hand (decimal place) ≡ unwrap_or b.hand (decimal place) =
      label_or_place place a.hand ∙ ap (λ (n : SaidNotes). unwrap_or n.hand (decimal place)) same ∙ sym (label_or_place place b.hand) in
      let currency : a.currency ≡ b.currency = ap (λ (n : SaidNotes). n.texts.currency) same in
      let venue : a.venue ≡ b.venue = ap (λ (n : SaidNotes). n.texts.venue) same in
      let table : a.table ≡ b.table = ap (λ (n : SaidNotes). n.texts.table) same in
      let seat_count : a.seat_count ≡ b.seat_count = ap (λ (n : SaidNotes). n.seat_count) same in
      cc

-- the text of the same hand
text_same : (dialect : Dialect) (place : ℕ) (play other : Play) → IsSound play → IsSound other → AreSameHand kept_in_ohh place play other → hand_text dialect place play ≡ hand_text dialect place other
unfolding hand_tree
text_same dialect place play other sound too same =
    let count = play.trace.setup.stacks.seats in
    let there : kept_in_ohh (notes_of place play) ≡ kept_in_ohh (said_notes place count other.hand.notes) =
    same.notes ∙ ap (λ (trace : Trace). kept_in_ohh (said_notes place trace.setup.stacks.seats other.hand.notes)) (sym same.trace) in
    let unusual_there : AreUnusual count other.hand.notes.seats =
    subst (λ (trace : Trace). AreUnusual trace.setup.stacks.seats other.hand.notes.seats) (sym same.trace) (unusual other too) in
    ap (λ (members : Members). compact_text (object (member (codes "ohh") (object members) no_members)))
    (members_same dialect place play.trace play.hand.notes other.hand.notes (unusual play sound) unusual_there there
    ∙ ap (λ (trace : Trace). hand_members dialect place trace other.hand.notes) same.trace)

lines_same : (dialect : Dialect) (place : ℕ) (plays others : List Play) → AllByRecursion IsSound plays → AllByRecursion IsSound others → AllPaired (AreSameHand kept_in_ohh) place plays others
    → lines_from dialect place plays ≡ lines_from dialect place others
unfolding AllPaired
lines_same dialect place [] [] sound too all = refl
lines_same dialect place [] (other ∷ others) sound too all = absurd all
lines_same dialect place (play ∷ plays) [] sound too all = absurd all
lines_same dialect place (play ∷ plays) (other ∷ others) sound too all =
    ap₂ (λ (text rest : List ℕ). text ++ (10 ∷ rest)) (text_same dialect place play other sound.0 too.0 all.0)
    (ap₂ (λ (line rest : List ℕ). line ++ rest) (empty_same plays others all.1) (lines_same dialect (place + 1) plays others sound.1 too.1 all.1))
  where
    empty_same : (plays others : List Play) → AllPaired (AreSameHand kept_in_ohh) (place + 1) plays others → empty_line_before plays ≡ empty_line_before others
    empty_same [] [] all = refl
    empty_same [] (other ∷ others) all = absurd all
    empty_same (play ∷ plays) [] all = absurd all
    empty_same (play ∷ plays) (other ∷ others) all = refl

-- hands that are the same are written as the same bytes
pub one_spelling : (dialect : Dialect) (plays others : List Play) (bytes too : List ℕ) → AllByRecursion IsSound plays → AllByRecursion IsSound others → Spells dialect plays bytes → Spells dialect others too
    → AreSameHands kept_in_ohh plays others → bytes ≡ too
one_spelling dialect plays others bytes too sound other_sound spell spell_too all = spell.lines ∙ lines_same dialect 0 plays others sound other_sound all ∙ sym spell_too.lines

-- ---- hands of one file

-- plays that read as one hand are the same
hand_same : (dialect : Dialect) (keep : Keep) (place : ℕ) (play other : Play) → IsSound play → IsSound other → unspelled keep play ≡ None → unspelled keep other ≡ None
    → hand_again dialect place play ≡ hand_again dialect place other → AreSameHand kept_in_ohh place play other
hand_same dialect keep place play other sound too none none_too same =
    let setups : play.trace.setup ≡ other.trace.setup = setup_same play.trace.setup other.trace.setup (ap (λ (hand : PlainHand). hand.setup) same) (ap (λ (hand : PlainHand). hand.rakes) same) in
    let words : script_again dialect play.trace ≡ script_again dialect other.trace =
    sym (events_said (length (posts play.trace.setup) + 1) (script_again dialect play.trace))
    ∙ ap (λ (hand : PlainHand). map (λ (event : Numbered). event.1) hand.script) same
    ∙ events_said (length (posts other.trace.setup) + 1) (script_again dialect other.trace) in
    record {
      trace = one_trace play other history_rules history_rules (script_again dialect play.trace) (script_again dialect other.trace) sound too
          (play_again dialect keep play sound none) (play_again dialect keep other too none_too) setups words;
      notes =
          sym (read_kept place play.trace.setup.stacks.seats play.hand.notes)
          ∙ ap (λ (hand : PlainHand). hand.notes) same
          ∙ read_kept place other.trace.setup.stacks.seats other.hand.notes;
    }

hands_same : (dialect : Dialect) (keep : Keep) (number place : ℕ) (plays others : List Play) → AllByRecursion IsSound plays → AllByRecursion IsSound others
    → refusal_from (unspelled keep) number plays ≡ None → refusal_from (unspelled keep) number others ≡ None
    → hands_again dialect place plays ≡ hands_again dialect place others → AllPaired (AreSameHand kept_in_ohh) place plays others
unfolding AllPaired
hands_same dialect keep number place [] [] sound too none none_too same = tt
hands_same dialect keep number place [] (other ∷ others) sound too none none_too same = absurd (cc (same))
hands_same dialect keep number place (play ∷ plays) [] sound too none none_too same = absurd (cc (same))
hands_same dialect keep number place (play ∷ plays) (other ∷ others) sound too none none_too same =
    let parts = none_refused number (unspelled keep play) (refusal_from (unspelled keep) (number + 1) plays) none in
    let parts_too = none_refused number (unspelled keep other) (refusal_from (unspelled keep) (number + 1) others) none_too in
    let here : hand_again dialect place play ≡ hand_again dialect place other = cc in
    let there : hands_again dialect (place + 1) plays ≡ hands_again dialect (place + 1) others = cc in
    (hand_same dialect keep place play other sound.0 too.0 parts.0 parts_too.0 here, hands_same dialect keep (number + 1) (place + 1) plays others sound.1 too.1 parts.1 parts_too.1 there)

-- what is written as the same bytes are the same hands
pub same_hands : (dialect : Dialect) (keep : Keep) (plays others : List Play) (bytes too : List ℕ) → length plays ≤ MOST_HANDS → length others ≤ MOST_HANDS
    → sum_by moves_played plays ≤ MOST_FILE_MOVES → sum_by moves_played others ≤ MOST_FILE_MOVES → AllByRecursion IsSound plays → AllByRecursion IsSound others
    → first_refusal (unspelled keep) plays ≡ None → first_refusal (unspelled keep) others ≡ None → Spells dialect plays bytes → Spells dialect others too
    → bytes ≡ too → AreSameHands kept_in_ohh plays others
same_hands dialect keep plays others bytes too few few_too moves moves_too sound other_sound none none_too spell spell_too same =
    let one = sound_again dialect keep plays bytes few sound none moves spell in
    let two = sound_again dialect keep others too few_too other_sound none_too moves_too spell_too in
    let again : Ok (hands_again dialect 0 plays) ≡ Ok (hands_again dialect 0 others) = sym one ∙ ap (reading dialect) same ∙ two in
    hands_same dialect keep 1 0 plays others sound other_sound none none_too (cc)
