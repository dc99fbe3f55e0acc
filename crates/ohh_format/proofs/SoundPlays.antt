-- Sound plays that the format can write read back when they were written.
use Rattle.std.proofs.Common.{◌≡◌, ℕ, zero, suc, ◌+◌, ◌-◌, ◌≤◌, Bool, true, false, ◌&&◌, ◌==◌, nat_lt, if◌then◌else◌, sum_by, List, [], ◌∷◌, ◌++◌, length, reverse, pos, Option, Some, None, Ok, refl, sym, ap, subst, ◌∙◌, arith, true≢false}
use Rattle.std.specs.List.{AllByRecursion, flat_map, list_any, range_with_len}
use Rattle.std.proofs.lemmas.List.Sums.{sum_by-cons}
use Rattle.canon_laws.proofs.MoveCounts.{move_count, tidy_within}
use Rattle.canon_laws.proofs.MoveRanges.{moves_in_range}
use Rattle.card_set.specs.Known.{hides_card}
use Rattle.play_event.specs.CanonScript.{dealt_slots, held_slots}
use Rattle.play_event.specs.PlayedScript.{IsPlayed, is_move_event}
use Rattle.play_event.specs.Tidy.{IsTidy}
use Rattle.play_event.specs.TraceCore.{TraceCore, core_of}
use Rattle.play_event.specs.declared.hand_limits.TheConstants.{MOST_MOVES}
use Rattle.chip_ledger.specs.LiveRow.{flag_of}
use Rattle.chip_ledger.specs.SeatRow.{amount_of}
use Rattle.chip_ledger.specs.declared.numbers.TheConstants.{MOST_CHIPS}
use Rattle.first_fault.specs.declared.limits.TheConstants.{MOST_FILE_MOVES, MOST_HANDS}
use Rattle.hand_canon.specs.Sound.{IsSound}
use Rattle.hand_canon.proofs.Refusals.{both_none, none_refused}
use Rattle.hand_canon.specs.AllowedNotes.{AreAllowed}
use Rattle.hand_canon.specs.SoundRecord.{script_said}
use Rattle.hand_canon.specs.TraceRows.{core_said}
use Rattle.hand_canon.specs.declared.trace.Play.{Play}
use Rattle.hand_canon.specs.declared.trace.Trace.{Trace}
use Rattle.hand_canon.specs.declared.writing.Keep.{Keep}
use Rattle.hand_canon.specs.declared.writing.Unspelled.{Unspelled}
use Rattle.card_set.proofs.Reversed.{count_reversed}
use Rattle.play_event.proofs.ChipLaws.{puts_within}
use Rattle.play_event.specs.Chips.{blind_posted}
use Rattle.play_event.specs.Due.{is_unfinished, turn}
use Rattle.play_event.specs.Games.{board_cards_on, game_of}
use Rattle.play_event.specs.Past.{Past, moves_of}
use Rattle.play_event.specs.Said.{Said}
use Rattle.play_event.specs.Scripts.{past_at_end, past_of}
use Rattle.play_event.specs.Seats.{all_seats}
use Rattle.play_event.specs.Table.{places_of}
use Rattle.play_event.specs.Trace.{traced_places}
use Rattle.play_event.specs.ValidSetup.{IsValid}
use Rattle.play_event.specs.declared.setup.Rules.{Rules}
use Rattle.play_event.specs.declared.setup.Setup.{Setup}
use Rattle.play_laws.proofs.FittingPasts.{legal_moves}
use Rattle.showdown_split.proofs.Flagged.{is_flagged-flag}
use Rattle.ohh_members.specs.Values.{seat_of}
use Rattle.ohh_members.specs.declared.dialect.Dialect.{Dialect}
use Rattle.ohh_writing.specs.Actions.{seat_of_big_blind, seat_of_small_blind}
use Rattle.ohh_writing.specs.Games.{is_spelled_game}
use Rattle.ohh_writing.specs.Lines.{Spells}
use Rattle.ohh_writing.specs.Spelled.{first_unspelled, has_spelled_antes, has_spelled_blinds, has_spelled_sizes, kept_facts, trace_facts, unspelled}
use Rattle.ohh_rounds.proofs.Stacks.{seats_in}
use Rattle.ohh_rounds.specs.declared.post.PostKind.TheVariants as kinds
use Rattle.ohh_reading.specs.Reading.{reading}
use Rattle.ohh_rounds.specs.HandContext.{PlainHandContext}
use Rattle.ohh_format.specs.Again.{hands_again}
use Rattle.ohh_format.proofs.Effects.{ActionEffect, Posts, ante_effect, blind_effect, post_effects, straddle_effect}
use Rattle.ohh_format.proofs.FileAgain.{plays_again}
use Rattle.ohh_format.proofs.FlopGames.{IsFlopGame, flop_game}
use Rattle.ohh_format.proofs.FrontAgain as front
use Rattle.ohh_format.proofs.FrontAgain.{IsSpelledSetup}
use Rattle.ohh_format.proofs.HandAgain.{IsReadable, hand_setting}
use Rattle.ohh_format.proofs.MovesAgain.{CanBeWritten, HasNotFolded, IsElsewhere}
use Rattle.ohh_format.proofs.PlayAgain.{CanBePlayed}
use Rattle.ohh_format.proofs.SoundMoves.{live_folds, no_moves_on, written_moves}
use Rattle.ohh_format.proofs.SoundPots.{has_pots}
use Rattle.ohh_format.proofs.SoundShows.{mucked_live, showdown_is}
use Rattle.canon_laws.proofs.StreetsPlayed.{HasStreet, board_known, came_before, first_holes, four_streets, is_passed, few_on_board}
use Rattle.ohh_format.proofs.ToldEffects.{IsGoodPost}
use Rattle.ohh_format.proofs.WinsAgain.{seat_again}
use Rattle.card_set.proofs.Lists.{none_from_length}
use Rattle.card_set.proofs.Options.{from_some_none}
use Rattle.hand_canon.specs.Moves.{moves_played}
use Rattle.hand_canon.specs.WriteRefusals.{refusal_from, first_refusal}
use Rattle.play_event.proofs.ScriptLaws.{at_end}
use Rattle.hand_canon.specs.Plays.{moves_written}
use Rattle.play_event.proofs.TracedMoves.{as_many}

-- ---- the facts that can be written

pub fact_holds : (holds : Bool) (fact : Unspelled) (rest : Option Unspelled) → (if holds then rest else Some fact) ≡ None → (holds ≡ true) × (rest ≡ None)
fact_holds true fact rest none = (refl, none)
fact_holds false fact rest none = from_some_none none

pub spelled_setup : (keep : Keep) (play : Play) → unspelled keep play ≡ None → IsSpelledSetup play.trace.setup
unfolding unspelled
spelled_setup keep play none =
    let setup = play.trace.setup in
    let all = (both_none (first_unspelled (trace_facts play.trace)) (first_unspelled (kept_facts keep play)) none).0 in
    let game = fact_holds (is_spelled_game setup.code) _ _ all in
    let sizes = fact_holds (has_spelled_sizes setup) _ _ game.1 in
    let antes = fact_holds (has_spelled_antes setup) _ _ sizes.1 in
    let blinds = fact_holds (has_spelled_blinds setup) _ _ antes.1 in
    record { game = game.0; sizes = sizes.0; antes = antes.0; blinds = blinds.0 }

-- ---- posts

module _ (setting : PlainHandContext) (setup : Setup) (valid : IsValid setup) (few : (seat : ℕ) → amount_of setup.stacks seat ≤ MOST_CHIPS)
    (players : (seat : ℕ) → 1 ≤ seat → seat ≤ setup.stacks.seats → seat_of setting.ids (pos seat) ≡ Some seat) where
  all_both : (some more : List ActionEffect) → AllByRecursion (IsGoodPost setting 0) some → AllByRecursion (IsGoodPost setting 0) more → AllByRecursion (IsGoodPost setting 0) (some ++ more)
  all_both [] more one other = other
  all_both (effect ∷ some) more one other = (one.0, all_both some more one.1 other)

  blind_few : (seat : ℕ) → blind_posted setup seat ≤ MOST_CHIPS
  blind_few seat = omega (arith, few seat)

  antes_good : (first many : ℕ) → 1 ≤ first → first + many ≤ setup.stacks.seats + 1 → AllByRecursion (IsGoodPost setting 0) (flat_map (ante_effect setup) (range_with_len first many))
  antes_good first zero low high = tt
  antes_good first (suc many) low high = by_ante (nat_lt 0 (amount_of setup.antes first)) (antes_good (first + 1) many (omega (arith, low)) (omega (arith, high)))
    where
      by_ante : (some : Bool) → AllByRecursion (IsGoodPost setting 0) (flat_map (ante_effect setup) (range_with_len (first + 1) many))
          → AllByRecursion (IsGoodPost setting 0) ((if some then Posts kinds.Ante first (amount_of setup.antes first) (amount_of setup.stacks first - amount_of setup.antes first) ∷ [] else []) ++ flat_map (ante_effect setup) (range_with_len (first + 1) many))
      by_ante true rest = ((players first low (omega (arith, high)), omega (arith, valid.antes first, few first)), rest)
      by_ante false rest = rest

  straddles_good : (first many : ℕ) → 1 ≤ first → first + many ≤ setup.stacks.seats + 1 → AllByRecursion (IsGoodPost setting 0) (flat_map (straddle_effect setup) (range_with_len first many))
  straddles_good first zero low high = tt
  straddles_good first (suc many) low high = by_blind (nat_lt 2 first && nat_lt 0 (amount_of setup.blinds first)) (straddles_good (first + 1) many (omega (arith, low)) (omega (arith, high)))
    where
      by_blind : (some : Bool) → AllByRecursion (IsGoodPost setting 0) (flat_map (straddle_effect setup) (range_with_len (first + 1) many))
          → AllByRecursion (IsGoodPost setting 0) ((if some then blind_effect setup kinds.Straddle first ∷ [] else []) ++ flat_map (straddle_effect setup) (range_with_len (first + 1) many))
      by_blind true rest = ((players first low (omega (arith, high)), blind_few first), rest)
      by_blind false rest = rest

  small_in : (two : Bool) → (1 ≤ (if two then 2 else 1)) × ((if two then 2 else 1) ≤ setup.stacks.seats)
  small_in true = (omega arith, omega (arith, setup.stacks.least))
  small_in false = (omega arith, omega (arith, setup.stacks.least))

  big_in : (two : Bool) → (1 ≤ (if two then 1 else 2)) × ((if two then 1 else 2) ≤ setup.stacks.seats)
  big_in true = (omega arith, omega (arith, setup.stacks.least))
  big_in false = (omega arith, omega (arith, setup.stacks.least))

  pub posts_good : AllByRecursion (IsGoodPost setting 0) (post_effects setup)
  posts_good =
      let small = small_in (setup.stacks.seats == 2) in
      let big = big_in (setup.stacks.seats == 2) in
      all_both (flat_map (ante_effect setup) (all_seats setup)) (blind_effect setup kinds.SmallBlind (seat_of_small_blind setup) ∷ blind_effect setup kinds.BigBlind (seat_of_big_blind setup) ∷ flat_map (straddle_effect setup) (all_seats setup))
      (antes_good 1 setup.stacks.seats (omega arith) (omega arith))
      ((players (seat_of_small_blind setup) small.0 small.1, blind_few (seat_of_small_blind setup)), ((players (seat_of_big_blind setup) big.0 big.1, blind_few (seat_of_big_blind setup)), straddles_good 1 setup.stacks.seats (omega arith) (omega arith)))

-- ---- cards and moves

-- what a hand with this core has
record Reads (setup : Setup) (core : TraceCore) : Type 0 where
  holes : (seat : ℕ) → 1 ≤ seat → seat ≤ setup.stacks.seats → length (dealt_slots core.places (Some seat) 1) ≡ (game_of setup.code).hole
  no_more : (seat street : ℕ) → 1 ≤ seat → seat ≤ setup.stacks.seats → 2 ≤ street → street ≤ 4 → dealt_slots core.places (Some seat) street ≡ []
  no_board : dealt_slots core.places None 1 ≡ []
  boards_few : (street : ℕ) → length (dealt_slots core.places None street) ≤ 7
  known : (street : ℕ) → list_any hides_card (dealt_slots core.places None street) ≡ false
  turn_follows : dealt_slots core.places None 2 ≡ [] → dealt_slots core.places None 3 ≡ []
  river_follows : dealt_slots core.places None 3 ≡ [] → dealt_slots core.places None 4 ≡ []
  quiet : (setting : PlainHandContext) (street : ℕ) → 2 ≤ street → street ≤ 4 → dealt_slots core.places None street ≡ [] → AllByRecursion (IsElsewhere setting setup street) core.moves
  moves : (setting : PlainHandContext) → ((seat : ℕ) → 1 ≤ seat → seat ≤ setup.stacks.seats → seat_of setting.ids (pos seat) ≡ Some seat) → AllByRecursion (CanBeWritten setting) core.moves
  few : length core.moves ≤ MOST_MOVES
  held_few : (seat : ℕ) → length (held_slots core.places seat) ≤ 7
  shown_known : (seat : ℕ) → list_any (λ other. other == seat) core.shown ≡ true → list_any hides_card (held_slots core.places seat) ≡ false

board_some : (setup : Setup) → IsFlopGame setup.code → (street : ℕ) → 2 ≤ street → street ≤ 4 → 1 ≤ board_cards_on setup.code street
board_some setup is zero low high = absurd (omega (arith, low))
board_some setup is (suc zero) low high = absurd (omega (arith, low))
board_some setup is (suc (suc zero)) low high = omega (arith, is.flop)
board_some setup is (suc (suc (suc zero))) low high = omega (arith, is.turn)
board_some setup is (suc (suc (suc (suc zero)))) low high = omega (arith, is.river)
board_some setup is (suc (suc (suc (suc (suc more))))) low high = absurd (omega (arith, high))

-- a street without a board was not reached
passed_there : (setup : Setup) (events : List Said) (street : ℕ) → IsFlopGame setup.code → 2 ≤ street → street ≤ 4 → HasStreet setup events street → (passed : Bool) → is_passed setup (moves_of (past_of setup events)) street ≡ passed
    → dealt_slots (traced_places setup (past_of setup events)) None street ≡ [] → is_passed setup (moves_of (past_of setup events)) street ≡ true
passed_there setup events street is low high has true e none = e
passed_there setup events street is low high has false e none = absurd (omega (arith, has.board e, board_some setup is street low high, ap length none))

-- and then a later one was not reached either
none_later : (setup : Setup) (events : List Said) (early late : ℕ) → early ≤ late → HasStreet setup events late → is_passed setup (moves_of (past_of setup events)) early ≡ true → (passed : Bool) → is_passed setup (moves_of (past_of setup events)) late ≡ passed
    → dealt_slots (traced_places setup (past_of setup events)) None late ≡ []
none_later setup events early late order has over true e = none_from_length (dealt_slots (traced_places setup (past_of setup events)) None late) (omega (arith, has.no_board e))
none_later setup events early late order has over false e = absurd (true≢false (sym over ∙ came_before setup (moves_of (past_of setup events)) early late order e))

core_reads : (setup : Setup) (rules : Rules) (script : List Said) → IsValid setup → IsPlayed setup rules script → IsTidy (core_of setup (past_of setup (reverse script))) → IsFlopGame setup.code → Reads setup (core_of setup (past_of setup (reverse script)))
core_reads setup rules script valid played tidy is =
    let events = reverse script in
    let past = past_of setup events in
    let placed = traced_places setup past in
    let list = moves_of past in
    let complete : is_unfinished (turn setup past).1 ≡ false = sym (ap (λ (p : Past). is_unfinished (turn setup p).1) (at_end setup script)) ∙ played.complete in
    let streets = four_streets setup rules events played.legal complete is.no_draw is.streets in
    let passed : (street : ℕ) → 2 ≤ street → street ≤ 4 → dealt_slots placed None street ≡ [] → is_passed setup list street ≡ true =
    λ street low high none. passed_there setup events street is low high (streets street (omega (arith, low)) high) (is_passed setup list street) refl none in
    record {
      holes = λ seat low high. first_holes setup rules events seat played.legal complete (is.no_draw 1) (omega (arith, is.streets)) low high ∙ is.holes;
      no_more = λ seat street low high from to. none_from_length (dealt_slots placed (Some seat) street) (omega (arith, (streets street (omega (arith, from)) to).holes seat low high, is.later_holes street from));
      no_board = none_from_length (dealt_slots placed None 1) (omega (arith, few_on_board setup events 1 (streets 1 (omega arith) (omega arith)) (is_passed setup list 1) refl, is.no_board));
      boards_few = λ street. tidy.cards.dealt_few None street;
      known = λ street. board_known placed street tidy.cards.board_known;
      turn_follows = λ none. none_later setup events 2 3 (omega arith) (streets 3 (omega arith) (omega arith)) (passed 2 (omega arith) (omega arith) none) (is_passed setup list 3) refl;
      river_follows = λ none. none_later setup events 3 4 (omega arith) (streets 4 (omega arith) (omega arith)) (passed 3 (omega arith) (omega arith) none) (is_passed setup list 4) refl;
      quiet = λ setting street low high none. no_moves_on setting setup street list ((streets street (omega (arith, low)) high).no_moves (passed street low high none));
      moves = λ setting players. written_moves setting setup rules (places_of setup.code past) players list (moves_in_range setup rules events valid played.legal) (legal_moves setup rules events played.legal);
      few = tidy.moves_few;
      held_few = tidy.cards.held_few;
      shown_known = tidy.cards.shown_known;
    }

-- ---- plays

module _ (keep : Keep) (play : Play) (sound : IsSound play) (spelled : unspelled keep play ≡ None) where
  abbrev setup : Setup
  setup = play.hand.setup

  abbrev script : List Said
  script = script_said play.hand

  abbrev past : Past
  past = past_at_end setup script

  abbrev trace : Trace
  trace = play.trace

  same : trace.setup ≡ setup
  same = sound.trace.same_setup

  it : IsSpelledSetup trace.setup
  it = spelled_setup keep play spelled

  flops : IsFlopGame setup.code
  flops = subst (λ (s : Setup). IsFlopGame s.code) same (flop_game trace.setup.code it.game)

  valid : IsValid trace.setup
  valid = subst IsValid (sym same) sound.valid

  reads : Reads trace.setup (core_said trace)
  reads =
      let tidy = tidy_within setup play.hand.rules script sound.legal.played sound.within.moves in
      let past_reads : Reads setup (core_of setup past) = core_reads setup play.hand.rules script sound.valid sound.legal.played tidy flops in
      subst (λ (s : Setup). Reads s (core_said trace)) (sym same) (subst (Reads setup) (sym sound.trace.core) past_reads)

  stack_few : (seat : ℕ) → amount_of trace.setup.stacks seat ≤ MOST_CHIPS
  stack_few seat = front.stack_few trace.setup valid it seat

  -- the same number of moves is written as was played
  pub same_count : moves_written play ≡ moves_played play
  same_count =
      ap (λ (core : TraceCore). length core.moves) sound.trace.core
      ∙ as_many setup (moves_of past)
      ∙ move_count setup (reverse script)
      ∙ count_reversed is_move_event script

  mucked_folds : (setting : PlainHandContext) (seat : ℕ) → 1 ≤ seat → seat ≤ trace.setup.stacks.seats → flag_of trace.mucked seat ≡ true → AllByRecursion (HasNotFolded setting trace.setup seat) (core_said trace).moves
  mucked_folds setting seat low high mucked =
      let within : seat ≤ setup.stacks.seats = subst (λ (s : Setup). seat ≤ s.stacks.seats) same high in
      let live = mucked_live setup past trace sound.trace seat low within mucked in
      subst (λ (s : Setup). AllByRecursion (HasNotFolded setting s seat) (core_said trace).moves) (sym same)
      (subst (λ (core : TraceCore). AllByRecursion (HasNotFolded setting setup seat) core.moves) (sym sound.trace.core) (live_folds setting setup seat (moves_of past) live))

  can_be_played : (dialect : Dialect) (file_moves : ℕ) → file_moves + moves_written play ≤ MOST_FILE_MOVES → CanBePlayed (hand_setting dialect file_moves trace.setup) trace
  can_be_played dialect file_moves few =
      let setting : PlainHandContext = hand_setting dialect file_moves trace.setup in
      let count : ℕ = trace.setup.stacks.seats in
      let players : (seat : ℕ) → 1 ≤ seat → seat ≤ count → seat_of setting.ids (pos seat) ≡ Some seat = λ seat low high. seat_again seat count low high in
      let is : IsFlopGame trace.setup.code = flop_game trace.setup.code it.game in
      record {
        players = players;
        count = seats_in trace.setup.stacks.amounts count trace.setup.stacks.full trace.setup.stacks.greatest;
        some_hole = is.some;
        few_hole = is.few;
        holes = reads.holes;
        no_more = reads.no_more;
        no_board = reads.no_board;
        boards_few = reads.boards_few;
        known = reads.known;
        turn_follows = reads.turn_follows;
        river_follows = reads.river_follows;
        quiet = reads.quiet setting;
        moves = reads.moves setting players;
        few = reads.few;
        file = few;
        posts = posts_good setting trace.setup valid stack_few players;
        held_few = reads.held_few;
        shown_known = λ seat low high shown. reads.shown_known seat (is_flagged-flag trace.shown seat low ∙ shown);
        mucked_live = mucked_folds setting;
      }

  pub sound_readable : IsReadable play
  sound_readable =
      record {
        valid = valid;
        spelled = it;
        notes = subst (λ (s : Setup). AreAllowed s.stacks.seats play.hand.notes) (sym same) sound.notes;
        pots = has_pots setup past trace sound.valid sound.legal.shareable sound.trace
            (λ seat. omega (arith, puts_within setup play.hand.rules (reverse script) sound.valid.antes sound.legal.played.legal seat, subst (λ (s : Setup). amount_of s.stacks seat ≤ MOST_CHIPS) same (stack_few seat)));
        can_be_played = can_be_played;
        showdown = showdown_is setup past trace sound.trace;
      }

all_readable : (keep : Keep) (number : ℕ) (plays : List Play) → AllByRecursion IsSound plays → refusal_from (unspelled keep) number plays ≡ None → AllByRecursion IsReadable plays
all_readable keep number [] each none = tt
all_readable keep number (play ∷ rest) each none =
    let parts = none_refused number (unspelled keep play) (refusal_from (unspelled keep) (number + 1) rest) none in
    (sound_readable keep play each.0 parts.0, all_readable keep (number + 1) rest each.1 parts.1)

all_counted : (keep : Keep) (number : ℕ) (plays : List Play) → AllByRecursion IsSound plays → refusal_from (unspelled keep) number plays ≡ None → sum_by moves_written plays ≡ sum_by moves_played plays
all_counted keep number [] each none = refl
all_counted keep number (play ∷ rest) each none =
    let parts = none_refused number (unspelled keep play) (refusal_from (unspelled keep) (number + 1) rest) none in
    omega (arith, sum_by-cons moves_written play rest, sum_by-cons moves_played play rest, same_count keep play each.0 parts.0, all_counted keep (number + 1) rest each.1 parts.1)

-- what was written of sound plays reads as their hands
pub sound_again : (dialect : Dialect) (keep : Keep) (plays : List Play) (bytes : List ℕ) → length plays ≤ MOST_HANDS → AllByRecursion IsSound plays → first_refusal (unspelled keep) plays ≡ None → sum_by moves_played plays ≤ MOST_FILE_MOVES → Spells dialect plays bytes
    → reading dialect bytes ≡ Ok (hands_again dialect 0 plays)
sound_again dialect keep plays bytes few each none moves spells =
    plays_again dialect plays bytes few (all_readable keep 1 plays each none) (omega (arith, moves, all_counted keep 1 plays each none)) spells
