-- Hands that are the same are written as the same lines, and hands that are written as the same
-- lines are the same.
use Rattle.std.proofs.Common.{◌≡◌, ℕ, sum_by, zero, suc, ◌+◌, ◌≤◌, ◌<◌, ◌^◌, ◌&&◌, ◌||◌, ◌==◌, nat_le, not, Bool, true, false, cond, bytes_eq, codes, decimal, List, [], ◌∷◌, ◌++◌, length, map, slice_index, Option, Some, None, is_some, option_and_then, unwrap_or, Ok, refl, sym, ap, ap₂, subst, ◌∙◌, arith}
use Rattle.std.specs.List.{AllByRecursion}
use Rattle.std.proofs.lemmas.Bool.{eqb-true, eq-eqb, le-leb}
use Rattle.std.proofs.lemmas.Fmt.{decimal_digit, first_decimal, length-decimal-le}
use Rattle.std.proofs.lemmas.Slice.Eq.{bytes_eq-Decides}
use Rattle.acpc_format.proofs.HandAgain.{events_said, play_again}
use Rattle.acpc_format.proofs.OneSetup.{spelled_setup}
use Rattle.acpc_format.proofs.SetupsSame.{setups_same}
use Rattle.acpc_format.proofs.SoundReads.{sound_again}
use Rattle.acpc_format.specs.Again.{hand_again, hands_again, kept_hand, kept_name, name_again, script_again}
use Rattle.acpc_game.specs.declared.game.Game.{Game}
use Rattle.acpc_format.specs.Line.{end_text, head_text, line_text, lines_from, log_text, play_text}
use Rattle.acpc_format.specs.NoteFacts.{is_unspelled_hand}
use Rattle.acpc_format.specs.Names.{hand_text, is_spelled_hand, is_spelled_name, name_or_default, name_text, names_text}
use Rattle.acpc_format.specs.Seats.{bar_before}
use Rattle.acpc_format.specs.Spelled.{unspelled}
use Rattle.acpc_format.specs.Values.{values_text}
use Rattle.acpc_reading.specs.Logs.{HandSaid, reading}
use Rattle.acpc_reading.specs.RecordView.{rules_of}
use Rattle.chip_ledger.specs.Seat.{seats_of}
use Rattle.chip_ledger.specs.SeatsSaid.{default_name}
use Rattle.first_fault.proofs.DecimalDigits.{decimal_digits}
use Rattle.first_fault.specs.declared.limits.TheConstants.{MOST_FILE_MOVES, MOST_HANDS}
use Rattle.hand_canon.specs.SaidNotes.{SaidNotes, hand_name_noted, name_said, notes_of, numbers_said, said_notes}
use Rattle.hand_canon.specs.Sound.{IsSound}
use Rattle.hand_canon.specs.WriteRefusals.{first_refusal, refusal_from}
use Rattle.hand_canon.proofs.Refusals.{none_refused}
use Rattle.hand_canon.specs.declared.notes.Notes.{Notes}
use Rattle.hand_canon.specs.declared.trace.Play.{Play}
use Rattle.hand_canon.specs.declared.trace.Trace.{Trace}
use Rattle.hand_canon.specs.declared.writing.Keep.{Keep}
use Rattle.card_set.proofs.NumbersOfRange.{flat_same}
use Rattle.play_event.specs.Said.{Numbered}
use Rattle.play_event.specs.ValidSetup.{IsValid}
use Rattle.play_event.specs.declared.setup.Setup.{Setup}
use Rattle.acpc_format.specs.KeptNotes.{kept_in_acpc, number_spelled}
use Rattle.hand_canon.proofs.NoteLaws.{AreUnusual, at_seat, notes_same, unusual_said}
use Rattle.trace_laws.proofs.SameWords.{one_trace}
use Rattle.hand_canon.specs.SameHands.{AllPaired, AreSameHand, AreSameHands}
use Rattle.hand_canon.specs.Plays.{moves_written}
use Rattle.acpc_format.specs.Texts.{HasTexts}
use Rattle.acpc_format.proofs.KeptAgain.{hand_kept, kept_names}

-- ---- names and numbers that are kept

name_twice : (name : Option (List ℕ)) → kept_name (kept_name name) ≡ kept_name name
name_twice None = refl
name_twice (Some text) = by_test (is_spelled_name text) refl
  where
    by_test : (spelled : Bool) → is_spelled_name text ≡ spelled → kept_name (cond spelled (Some text) None) ≡ cond spelled (Some text) None
    by_test true is = ap (λ (b : Bool). cond b (Some text) None) is
    by_test false is = refl

names_twice : (names : List (Option (List ℕ))) → map kept_name (map kept_name names) ≡ map kept_name names
names_twice [] = refl
names_twice (name ∷ rest) = ap₂ (λ (first : Option (List ℕ)) (others : List (Option (List ℕ))). first ∷ others) (name_twice name) (names_twice rest)

number_twice : (said : Option (List ℕ)) → option_and_then number_spelled (option_and_then number_spelled said) ≡ option_and_then number_spelled said
number_twice None = refl
number_twice (Some text) = by_test (is_spelled_hand text) refl
  where
    by_test : (spelled : Bool) → is_spelled_hand text ≡ spelled → option_and_then number_spelled (cond spelled (Some text) None) ≡ cond spelled (Some text) None
    by_test true is = ap (λ (b : Bool). cond b (Some text) None) is
    by_test false is = refl

-- keeping twice is keeping once
pub kept_again : (notes : SaidNotes) → kept_in_acpc (kept_in_acpc notes) ≡ kept_in_acpc notes
kept_again notes =
    notes_same (kept_in_acpc (kept_in_acpc notes)) (kept_in_acpc notes) (record {
      names = names_twice notes.names;
      seats = refl;
      seat_count = refl;
      hand = number_twice notes.hand;
      texts = refl;
      year = refl;
      month = refl;
      day = refl;
      time = refl;
      zone = refl;
    })

-- ---- lines

-- the name that is written is a kept one
name_written_kept : (seat : ℕ) (said : Option (List ℕ)) → name_or_default seat said ≡ unwrap_or (kept_name said) (default_name seat)
name_written_kept seat None = refl
name_written_kept seat (Some text) = by_test (is_spelled_name text)
  where
    by_test : (spelled : Bool) → cond spelled text (default_name seat) ≡ unwrap_or (cond spelled (Some text) None) (default_name seat)
    by_test true = refl
    by_test false = refl

-- and so is the number
hand_written_kept : (place : ℕ) (said : Option (List ℕ)) → hand_text place said ≡ unwrap_or (kept_hand place said) (decimal place)
unfolding hand_text
hand_written_kept place None = refl
hand_written_kept place (Some text) = by_tests (is_spelled_hand text) (bytes_eq text (decimal place)) refl
  where
    by_tests : (spelled same : Bool) → bytes_eq text (decimal place) ≡ same → cond spelled text (decimal place) ≡ unwrap_or (cond spelled (cond same None (Some text)) None) (decimal place)
    by_tests true true is = (bytes_eq-Decides text (decimal place)).0 is
    by_tests true false is = refl
    by_tests false same is = refl

-- the names of notes of which the same is kept are written alike
names_written : (count : ℕ) (a b : Notes) → map kept_name (map (name_said a.names) (seats_of count)) ≡ map kept_name (map (name_said b.names) (seats_of count)) → names_text a count ≡ names_text b count
unfolding names_text
names_written count a b same =
    let kept : map (name_again a) (seats_of count) ≡ map (name_again b) (seats_of count) = sym (kept_names a (seats_of count)) ∙ same ∙ kept_names b (seats_of count) in
    flat_same (λ seat. bar_before seat ++ name_text a seat) (λ seat. bar_before seat ++ name_text b seat) 1 count (λ seat first last.
    ap (λ (text : List ℕ). bar_before seat ++ text)
    (name_written_kept seat (name_said a.names seat)
    ∙ ap (λ (name : Option (List ℕ)). unwrap_or name (default_name seat)) (at_seat (name_again a) (name_again b) None count seat kept first (omega (arith, last)))
    ∙ sym (name_written_kept seat (name_said b.names seat))))

-- the line of the same hand
line_same : (no_limit : Bool) (place : ℕ) (play other : Play) → AreSameHand kept_in_acpc place play other → line_text no_limit place play ≡ line_text no_limit place other
unfolding line_text head_text end_text
line_same no_limit place play other same =
    let count = play.trace.setup.stacks.seats in
    let there : kept_in_acpc (notes_of place play) ≡ kept_in_acpc (said_notes place count other.hand.notes) =
    same.notes ∙ ap (λ (trace : Trace). kept_in_acpc (said_notes place trace.setup.stacks.seats other.hand.notes)) (sym same.trace) in
    let names : names_text play.hand.notes count ≡ names_text other.hand.notes count = names_written count play.hand.notes other.hand.notes (ap (λ (n : SaidNotes). n.names) there) in
    let hand : hand_text place play.hand.notes.hand ≡ hand_text place other.hand.notes.hand =
    hand_written_kept place play.hand.notes.hand
    ∙ ap (λ (said : Option (List ℕ)). unwrap_or said (decimal place)) (sym (hand_kept place play.hand.notes.hand) ∙ ap (λ (n : SaidNotes). n.hand) there ∙ hand_kept place other.hand.notes.hand)
    ∙ sym (hand_written_kept place other.hand.notes.hand) in
    ap₂ (λ (number names : List ℕ). (codes "STATE:" ++ number) ++ 58 ∷ (play_text no_limit play.trace ++ 58 ∷ ((values_text play.trace.setup.stacks play.trace.finish ++ 58 ∷ names) ++ 10 ∷ []))) hand names
    ∙ ap (λ (trace : Trace). (codes "STATE:" ++ hand_text place other.hand.notes.hand) ++ 58 ∷ (play_text no_limit trace ++ 58 ∷ ((values_text trace.setup.stacks trace.finish ++ 58 ∷ names_text other.hand.notes trace.setup.stacks.seats) ++ 10 ∷ []))) same.trace

lines_same : (no_limit : Bool) (place : ℕ) (plays others : List Play) → AllPaired (AreSameHand kept_in_acpc) place plays others → lines_from no_limit place plays ≡ lines_from no_limit place others
unfolding AllPaired
lines_same no_limit place [] [] all = refl
lines_same no_limit place [] (other ∷ others) all = absurd all
lines_same no_limit place (play ∷ plays) [] all = absurd all
lines_same no_limit place (play ∷ plays) (other ∷ others) all =
    ap₂ (λ (line rest : List ℕ). line ++ rest) (line_same no_limit place play other all.0) (lines_same no_limit (place + 1) plays others all.1)

-- hands that are the same are written as the same text
pub one_text : (no_limit : Bool) (plays others : List Play) → AreSameHands kept_in_acpc plays others → log_text no_limit plays ≡ log_text no_limit others
one_text no_limit plays others all = lines_same no_limit 0 plays others all

-- ---- hands of one log

-- plays that are read as the same hand are the same
hand_same : (game : Game) (keep : Keep) (place : ℕ) (play other : Play) → IsSound play → IsSound other → unspelled game keep play ≡ None → unspelled game keep other ≡ None
    → hand_again game.no_limit place play ≡ hand_again game.no_limit place other → AreSameHand kept_in_acpc place play other
hand_same game keep place play other sound too none none_too same =
    let valid : (p : Play) → IsSound p → IsValid p.trace.setup = λ p is. subst IsValid (sym is.trace.same_setup) is.valid in
    let setups : play.trace.setup ≡ other.trace.setup =
    setups_same game play.trace.setup other.trace.setup (spelled_setup game keep play (valid play sound) none) (spelled_setup game keep other (valid other too) none_too) in
    let count : play.trace.setup.stacks.seats ≡ other.trace.setup.stacks.seats = ap (λ (s : Setup). s.stacks.seats) setups in
    let words : script_again game.no_limit play.trace ≡ script_again game.no_limit other.trace =
    sym (events_said 1 (script_again game.no_limit play.trace))
    ∙ ap (λ (hand : HandSaid). map (λ (event : Numbered). event.1) hand.events) same
    ∙ events_said 1 (script_again game.no_limit other.trace) in
    record {
      trace = one_trace play other (rules_of game) (rules_of game) (script_again game.no_limit play.trace) (script_again game.no_limit other.trace) sound too
          (play_again game keep play sound none) (play_again game keep other too none_too) setups words;
      notes = notes_same (kept_in_acpc (notes_of place play)) (kept_in_acpc (notes_of place other)) (record {
        names = kept_names play.hand.notes (seats_of play.trace.setup.stacks.seats) ∙ ap (λ (hand : HandSaid). hand.names) same ∙ sym (kept_names other.hand.notes (seats_of other.trace.setup.stacks.seats));
        seats = refl;
        seat_count = refl;
        hand = hand_kept place play.hand.notes.hand ∙ ap (λ (hand : HandSaid). hand.hand) same ∙ sym (hand_kept place other.hand.notes.hand);
        texts = refl;
        year = refl;
        month = refl;
        day = refl;
        time = refl;
        zone = refl;
      });
    }

hands_same : (game : Game) (keep : Keep) (number place : ℕ) (plays others : List Play) → AllByRecursion IsSound plays → AllByRecursion IsSound others
    → refusal_from (unspelled game keep) number plays ≡ None → refusal_from (unspelled game keep) number others ≡ None
    → hands_again game.no_limit place plays ≡ hands_again game.no_limit place others → AllPaired (AreSameHand kept_in_acpc) place plays others
unfolding AllPaired
hands_same game keep number place [] [] sound too none none_too same = tt
hands_same game keep number place [] (other ∷ others) sound too none none_too same = absurd (cc (same))
hands_same game keep number place (play ∷ plays) [] sound too none none_too same = absurd (cc (same))
hands_same game keep number place (play ∷ plays) (other ∷ others) sound too none none_too same =
    let parts = none_refused number (unspelled game keep play) (refusal_from (unspelled game keep) (number + 1) plays) none in
    let parts_too = none_refused number (unspelled game keep other) (refusal_from (unspelled game keep) (number + 1) others) none_too in
    let here : hand_again game.no_limit place play ≡ hand_again game.no_limit place other = cc in
    let there : hands_again game.no_limit (place + 1) plays ≡ hands_again game.no_limit (place + 1) others = cc in
    (hand_same game keep place play other sound.0 too.0 parts.0 parts_too.0 here, hands_same game keep (number + 1) (place + 1) plays others sound.1 too.1 parts.1 parts_too.1 there)

-- hands that are written as the same text are the same
pub same_hands : (game : Game) (keep : Keep) (plays others : List Play) → length plays ≤ MOST_HANDS → length others ≤ MOST_HANDS
    → sum_by moves_written plays ≤ MOST_FILE_MOVES → sum_by moves_written others ≤ MOST_FILE_MOVES → AllByRecursion IsSound plays → AllByRecursion IsSound others
    → AllByRecursion HasTexts plays → AllByRecursion HasTexts others → first_refusal (unspelled game keep) plays ≡ None → first_refusal (unspelled game keep) others ≡ None
    → log_text game.no_limit plays ≡ log_text game.no_limit others → AreSameHands kept_in_acpc plays others
same_hands game keep plays others few few_too moves moves_too sound other_sound texts texts_too none none_too same =
    let one = sound_again game keep plays few sound texts none moves in
    let two = sound_again game keep others few_too other_sound texts_too none_too moves_too in
    let again : Ok (hands_again game.no_limit 0 plays) ≡ Ok (hands_again game.no_limit 0 others) = sym one ∙ ap (reading game) same ∙ two in
    hands_same game keep 1 0 plays others sound other_sound none none_too (cc)

-- ---- facts

-- a number in decimal digits begins with 0 only if it is 0
one_zero : (n : ℕ) → n < 2 ^ 64 → slice_index (decimal n) 0 ≡ 48 → length (decimal n) ≡ 1
one_zero zero small first = ap length (decimal_digit zero (omega arith))
one_zero (suc n) small first = absurd (omega (arith, first, first_decimal (suc n) (omega arith) small))

-- so a line can write it
decimal_spelled : (n : ℕ) → n < MOST_HANDS → is_spelled_hand (decimal n) ≡ true
unfolding is_spelled_hand
decimal_spelled n few =
    let small : n < 2 ^ 64 = omega (arith, few) in
    let short : nat_le (length (decimal n)) 18 ≡ true = le-leb (length (decimal n)) 18 (length-decimal-le 18 n (omega arith) (omega (arith, few)) small) in
    rw (decimal_digits n small, short) (by_first (slice_index (decimal n) 0 == 48) refl (one_zero n small))
  where
    by_first : (zero_first : Bool) → (slice_index (decimal n) 0 == 48) ≡ zero_first → (slice_index (decimal n) 0 ≡ 48 → length (decimal n) ≡ 1) → ((not zero_first || length (decimal n) == 1) && true) ≡ true
    by_first true is alone = rw (eq-eqb (length (decimal n)) 1 (alone (eqb-true (slice_index (decimal n) 0) 48 is))) refl
    by_first false is alone = refl

-- a line cannot write a hand number if it cannot write the one that is given
pub hand_fact : (place : ℕ) (said : Option (List ℕ)) → place < MOST_HANDS → is_unspelled_hand said ≡ is_unspelled_hand (hand_name_noted place said)
hand_fact place None few = refl
hand_fact place (Some text) few = by_test (bytes_eq text (decimal place)) refl
  where
    by_test : (same : Bool) → bytes_eq text (decimal place) ≡ same → not (is_spelled_hand text) ≡ is_unspelled_hand (cond same None (Some text))
    by_test true is = ap (λ (t : List ℕ). not (is_spelled_hand t)) ((bytes_eq-Decides text (decimal place)).0 is) ∙ ap not (decimal_spelled place few)
    by_test false is = refl

pub numbers_some : (count : ℕ) (said : Option (List ℕ)) → AreUnusual count said → is_some said ≡ is_some (numbers_said count said)
numbers_some count None are = refl
numbers_some count (Some numbers) are = sym (ap is_some (unusual_said count (Some numbers) are))
