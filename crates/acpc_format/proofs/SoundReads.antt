-- A sound play that the logs of its game can write reads back.
use Rattle.std.proofs.Common.{◌≡◌, ℕ, zero, suc, ◌+◌, ◌-◌, ◌≤◌, Bool, true, false, ◌||◌, cond, sum_by, List, [], ◌∷◌, length, map, filter, reverse, Some, None, Ok, refl, sym, ap, subst, ◌∙◌, arith, true≢false, inl, inr}
use Rattle.std.specs.List.{AllByRecursion}
use Rattle.std.proofs.lemmas.Bool.{cases_lt}
use Rattle.std.proofs.lemmas.List.{length-map, length-reverse}
use Rattle.canon_laws.proofs.MoveCounts.{tidy_within}
use Rattle.canon_laws.proofs.SameCore.{plain_again}
use Rattle.play_event.specs.CanonScript.{dealt_slots, is_dealt_to, plain_move, plain_moves}
use Rattle.play_event.specs.PlayedScript.{IsPlayed}
use Rattle.play_event.specs.Tidy.{IsTidy}
use Rattle.play_event.specs.TraceCore.{TraceCore, core_of}
use Rattle.chip_ledger.proofs.SeatLists.{none_at}
use Rattle.chip_ledger.specs.SeatRow.{amount_of}
use Rattle.chip_ledger.specs.declared.numbers.TheConstants.{MOST_CHIPS}
use Rattle.play_event.proofs.ChipLaws.{puts_within}
use Rattle.play_event.specs.declared.setup.Rules.{Rules}
use Rattle.play_event.specs.declared.setup.Setup.{Setup}
use Rattle.play_event.specs.Due.{is_unfinished, turn}
use Rattle.play_event.specs.Games.{board_cards_on}
use Rattle.play_event.specs.Past.{Past, moves_of, moves_on}
use Rattle.play_event.specs.Said.{Said}
use Rattle.play_event.specs.Scripts.{past_at_end, past_of}
use Rattle.play_event.specs.Trace.{TracedPlace, traced_moves, traced_places}
use Rattle.play_event.specs.ValidSetup.{IsValid}
use Rattle.hand_canon.specs.AllowedNotes.{AreAllowed}
use Rattle.hand_canon.specs.Sound.{IsSound}
use Rattle.hand_canon.specs.SoundRecord.{script_said}
use Rattle.hand_canon.specs.TraceRows.{core_said}
use Rattle.hand_canon.specs.declared.trace.Play.{Play}
use Rattle.first_fault.specs.declared.limits.TheConstants.{MOST_FILE_MOVES, MOST_HANDS}
use Rattle.hand_canon.specs.declared.writing.Keep.{Keep}
use Rattle.acpc_game.specs.declared.game.Game.{Game}
use Rattle.acpc_format.specs.Line.{log_text}
use Rattle.acpc_format.specs.PlayFacts.{is_part_known}
use Rattle.acpc_format.specs.Rounds.{has_board}
use Rattle.acpc_format.specs.Spelled.{unspelled}
use Rattle.acpc_format.specs.Texts.{HasTexts}
use Rattle.acpc_format.proofs.Readable.{HasBoards, HasLetters, IsReadable}
use Rattle.acpc_reading.specs.Logs.{reading}
use Rattle.acpc_format.specs.Again.{hands_again}
use Rattle.acpc_format.proofs.LogAgain.{plays_again}
use Rattle.acpc_format.proofs.EventsAgain.{no_slots}
use Rattle.acpc_format.proofs.Holdem.{IsHoldem, holdem}
use Rattle.acpc_format.proofs.SpelledFacts.{spelled}
use Rattle.canon_laws.proofs.StreetsPlayed.{HasStreet, board_known, came_before, first_holes, four_streets, is_passed, few_on_board}
use Rattle.card_set.proofs.Lists.{none_from_length}
use Rattle.hand_canon.proofs.Refusals.{none_refused}
use Rattle.play_event.proofs.ScriptLaws.{at_end}
use Rattle.hand_canon.specs.WriteRefusals.{refusal_from, first_refusal}
use Rattle.hand_canon.specs.Plays.{moves_written}

-- cards of the board, and whether there are some
board_there : (placed : List TracedPlace) (street : ℕ) → 1 ≤ length (dealt_slots placed None street) → has_board placed street ≡ true
board_there placed street some = by_board (has_board placed street) refl
  where
    by_board : (dealt : Bool) → has_board placed street ≡ dealt → dealt ≡ true
    by_board true is = refl
    by_board false is = absurd (omega (arith, some, ap length (no_slots placed street is)))

board_missing : (street : ℕ) (placed : List TracedPlace) → length (dealt_slots placed None street) ≡ 0 → has_board placed street ≡ false
board_missing street [] none = refl
board_missing street (place ∷ rest) none = by_place (is_dealt_to None street place) none (board_missing street rest)
  where
    by_place : (here : Bool) → length (map (λ (p : TracedPlace). p.slot) (cond here (place ∷ filter (is_dealt_to None street) rest) (filter (is_dealt_to None street) rest))) ≡ 0
        → (length (dealt_slots rest None street) ≡ 0 → has_board rest street ≡ false) → (here || has_board rest street) ≡ false
    by_place true none later = absurd (omega (arith, none))
    by_place false none later = later none

-- what a hand with this core has
record Reads (setup : Setup) (core : TraceCore) : Type 0 where
  two : (seat : ℕ) → 1 ≤ seat → seat ≤ setup.stacks.seats → length (dealt_slots core.places (Some seat) 1) ≡ 2
  no_more : (seat street : ℕ) → 1 ≤ seat → seat ≤ setup.stacks.seats → 2 ≤ street → street ≤ 4 → dealt_slots core.places (Some seat) street ≡ []
  boards : HasBoards core.places
  letters : HasLetters setup core.places (plain_moves core.moves)

chips_few : (setup : Setup) (seat : ℕ) → IsValid setup → amount_of setup.stacks seat ≤ MOST_CHIPS
chips_few setup zero valid = (valid.stacks 1 (omega arith) (omega (arith, setup.stacks.least))).1
chips_few setup (suc seat) valid = elim (cases_lt setup.stacks.seats (suc seat)) [
  | inl beyond ↦ omega (arith, setup.stacks.filler (suc seat - 1) (omega (arith, beyond)))
  | inr within ↦ (valid.stacks (suc seat) (omega arith) within).1
]

-- the hand reached a street whose board was dealt
came : (setup : Setup) (events : List Said) (street : ℕ) → HasStreet setup events street → (passed : Bool) → is_passed setup (moves_of (past_of setup events)) street ≡ passed
    → has_board (traced_places setup (past_of setup events)) street ≡ true → is_passed setup (moves_of (past_of setup events)) street ≡ false
came setup events street has true is dealt = absurd (true≢false (sym dealt ∙ board_missing street (traced_places setup (past_of setup events)) (has.no_board is)))
came setup events street has false is dealt = is

-- and has all its cards
in_full : (setup : Setup) (events : List Said) (street : ℕ) → HasStreet setup events street → has_board (traced_places setup (past_of setup events)) street ≡ true
    → length (dealt_slots (traced_places setup (past_of setup events)) None street) ≡ board_cards_on setup.code street
in_full setup events street has dealt = has.board (came setup events street has (is_passed setup (moves_of (past_of setup events)) street) refl dealt)

board_some : (setup : Setup) → IsHoldem setup.code → (street : ℕ) → 2 ≤ street → street ≤ 4 → 1 ≤ board_cards_on setup.code street
board_some setup is zero low high = absurd (omega (arith, low))
board_some setup is (suc zero) low high = absurd (omega (arith, low))
board_some setup is (suc (suc zero)) low high = omega (arith, is.flop)
board_some setup is (suc (suc (suc zero))) low high = omega (arith, is.turn)
board_some setup is (suc (suc (suc (suc zero)))) low high = omega (arith, is.river)
board_some setup is (suc (suc (suc (suc (suc more))))) low high = absurd (omega (arith, high))

-- without a board a further street has no moves
no_moves_there : (setup : Setup) (events : List Said) (street : ℕ) → IsHoldem setup.code → 2 ≤ street → street ≤ 4 → HasStreet setup events street → (passed : Bool) → is_passed setup (moves_of (past_of setup events)) street ≡ passed
    → has_board (traced_places setup (past_of setup events)) street ≡ false → moves_on street (moves_of (past_of setup events)) ≡ []
no_moves_there setup events street is low high has true over none = has.no_moves over
no_moves_there setup events street is low high has false reached none =
    absurd (true≢false (sym (board_there (traced_places setup (past_of setup events)) street (omega (arith, has.board reached, board_some setup is street low high))) ∙ none))

core_reads : (setup : Setup) (rules : Rules) (script : List Said) → IsValid setup → IsPlayed setup rules script → IsTidy (core_of setup (past_of setup (reverse script))) → IsHoldem setup.code → Reads setup (core_of setup (past_of setup (reverse script)))
core_reads setup rules script valid played tidy is =
    let events = reverse script in
    let past = past_of setup events in
    let placed = traced_places setup past in
    let list = moves_of past in
    let complete : is_unfinished (turn setup past).1 ≡ false = sym (ap (λ (p : Past). is_unfinished (turn setup p).1) (at_end setup script)) ∙ played.complete in
    let streets = four_streets setup rules events played.legal complete is.no_draw is.streets in
    let plain : plain_moves (traced_moves setup list) ≡ list = plain_again setup list in
    let second = streets 2 (omega arith) (omega arith) in
    let third = streets 3 (omega arith) (omega arith) in
    let fourth = streets 4 (omega arith) (omega arith) in
    let letters : HasLetters setup placed list = record {
      few = omega (arith, tidy.moves_few, ap length plain, length-reverse (map plain_move (traced_moves setup list)), length-map (traced_moves setup list) plain_move);
      dealt = λ street low high none. no_moves_there setup events street is low high (streets street (omega (arith, low)) high) (is_passed setup list street) refl none;
      put = λ seat. omega (arith, puts_within setup rules events valid.antes played.legal seat, chips_few setup seat valid);
    } in
    record {
      two = λ seat low high. first_holes setup rules events seat played.legal complete (is.no_draw 1) (omega (arith, is.streets)) low high ∙ is.holes;
      no_more = λ seat street low high from to. none_from_length (dealt_slots placed (Some seat) street) (omega (arith, (streets street (omega (arith, from)) to).holes seat low high, is.later_holes street from));
      boards = record {
        none = none_from_length (dealt_slots placed None 1) (omega (arith, few_on_board setup events 1 (streets 1 (omega arith) (omega arith)) (is_passed setup list 1) refl, is.no_board));
        flop = λ dealt. in_full setup events 2 second dealt ∙ is.flop;
        turn = λ dealt. in_full setup events 3 third dealt ∙ is.turn;
        river = λ dealt. in_full setup events 4 fourth dealt ∙ is.river;
        turn_follows = λ dealt. board_there placed 2 (omega (arith, second.board (came_before setup list 2 3 (omega arith) (came setup events 3 third (is_passed setup list 3) refl dealt)), is.flop));
        river_follows = λ dealt. board_there placed 3 (omega (arith, third.board (came_before setup list 3 4 (omega arith) (came setup events 4 fourth (is_passed setup list 4) refl dealt)), is.turn));
        known = λ street. board_known placed street tidy.cards.board_known;
      };
      letters = subst (HasLetters setup placed) (sym plain) letters;
    }

-- so a sound play that can be written reads back
pub sound_reads : (game : Game) (keep : Keep) (play : Play) → IsSound play → HasTexts play → unspelled game keep play ≡ None → IsReadable game play
sound_reads game keep play sound texts none =
    let setup = play.hand.setup in
    let script = script_said play.hand in
    let it = spelled game keep play none in
    let same : play.trace.setup ≡ setup = sound.trace.same_setup in
    let is : IsHoldem setup.code = subst (λ (s : Setup). IsHoldem s.code) same (holdem game.no_limit play.trace.setup.code it.setup.code) in
    let tidy = tidy_within setup play.hand.rules script sound.legal.played sound.within.moves in
    let past_reads : Reads setup (core_of setup (past_at_end setup script)) = core_reads setup play.hand.rules script sound.valid sound.legal.played tidy is in
    let reads : Reads play.trace.setup (core_said play.trace) = subst (λ (s : Setup). Reads s (core_said play.trace)) (sym same) (subst (Reads setup) (sym sound.trace.core) past_reads) in
    record {
      seats = it.setup.seats;
      holes = record {
        two = reads.two;
        whole = λ seat low high. none_at (is_part_known (core_said play.trace).places) play.trace.setup.stacks.seats seat low high it.played.whole;
        no_more = reads.no_more;
      };
      boards = reads.boards;
      letters = reads.letters;
      notes = subst (λ (s : Setup). AreAllowed s.stacks.seats play.hand.notes) (sym same) sound.notes;
      texts = texts;
    }

all_read : (game : Game) (keep : Keep) (number : ℕ) (plays : List Play) → AllByRecursion IsSound plays → AllByRecursion HasTexts plays → refusal_from (unspelled game keep) number plays ≡ None → AllByRecursion (IsReadable game) plays
all_read game keep number [] sound texts none = tt
all_read game keep number (play ∷ rest) sound texts none =
    let parts = none_refused number (unspelled game keep play) (refusal_from (unspelled game keep) (number + 1) rest) none in
    (sound_reads game keep play sound.0 texts.0 parts.0, all_read game keep (number + 1) rest sound.1 texts.1 parts.1)

-- and such plays, once written, read as their hands
pub sound_again : (game : Game) (keep : Keep) (plays : List Play) → length plays ≤ MOST_HANDS → AllByRecursion IsSound plays → AllByRecursion HasTexts plays → first_refusal (unspelled game keep) plays ≡ None
    → sum_by moves_written plays ≤ MOST_FILE_MOVES → reading game (log_text game.no_limit plays) ≡ Ok (hands_again game.no_limit 0 plays)
sound_again game keep plays few sound texts none moves = plays_again game plays few (all_read game keep 1 plays sound texts none) moves
