-- A play that the logs of a game can write suits the rules of the game, and its moves have letters.
use Rattle.std.proofs.Common.{◌≡◌, ℕ, zero, suc, ◌+◌, ◌-◌, ◌≤◌, Bool, true, false, ◌&&◌, ◌==◌, not, cond, if◌then◌else◌, List, [], ◌∷◌, map, count_by, slice_index, Option, Some, None, IfSome, refl, sym, ap, ◌∙◌, arith, true≢false}
use Rattle.std.specs.List.{list_any}
use Rattle.std.proofs.lemmas.Bool.{eqb-true, ltb-false, ne_eqb, not-false, or_parts}
use Rattle.canon_laws.specs.OtherRules as other_rules
use Rattle.canon_laws.specs.OtherRules.{SuitsRules}
use Rattle.canon_laws.proofs.AllStreets.{AreSince}
use Rattle.play_event.specs.CanonScript.{plain_move, plain_moves}
use Rattle.card_set.proofs.Any.{list_any-map}
use Rattle.card_set.proofs.Counting.{count_by-cons}
use Rattle.card_set.proofs.Finding.{list_any-push}
use Rattle.card_set.proofs.Reversed.{count_reversed, filter-reverse}
use Rattle.play_event.specs.Amounts.{unit_target}
use Rattle.play_event.specs.Laws.{AreLegal}
use Rattle.play_event.specs.Past.{Move, is_raising, moves_of, moves_on}
use Rattle.play_event.specs.Places.{Place}
use Rattle.play_event.specs.Played.{act_said, move_said}
use Rattle.play_event.specs.Raising.{raises_on}
use Rattle.play_event.specs.Said.{Said}
use Rattle.play_event.specs.Scripts.{past_of}
use Rattle.play_event.specs.Streets.{is_stud_game, limit_of}
use Rattle.play_event.specs.Table.{places_of}
use Rattle.play_event.specs.Trace.{TracedMove, traced_move, traced_moves, unit_target_in}
use Rattle.play_event.specs.declared.limit.Limit.TheVariants as limits
use Rattle.play_event.specs.declared.played.Move as rows
use Rattle.play_event.specs.declared.setup.Reopen.TheVariants as reopens
use Rattle.play_event.specs.declared.setup.Reopen.{Reopen}
use Rattle.play_event.specs.declared.setup.Rules.{Rules}
use Rattle.play_event.specs.declared.setup.Setup.{Setup}
use Rattle.play_laws.proofs.FittingPasts.{legal_moves}
use Rattle.play_laws.proofs.MovesLaw.{MovesLaw}
use Rattle.hand_canon.specs.TraceRows.{core_said}
use Rattle.hand_canon.specs.declared.trace.Trace.{Trace}
use Rattle.acpc_game.specs.declared.game.Game.{Game}
use Rattle.acpc_format.specs.PlayFacts.{is_above_cap, is_above_caps, is_off_unit, is_raise_on}
use Rattle.acpc_reading.specs.RecordView.{rules_of}
use Rattle.acpc_format.proofs.LetterEvents.{HaveLetters}
use Rattle.acpc_format.proofs.SpelledFacts.{HasPlayOf}
use Rattle.play_laws.proofs.ResolvedMoves.{no_bring}

-- ---- the rules

-- the raises of a street
count_row : (street : ℕ) (row : rows.Move) (moves : List Move) (count : ℕ) (here raises : Bool) → (row.street == street) ≡ here → is_raising (act_said row.act) ≡ raises → count_by (λ (m : Move). is_raising m.act) moves ≡ count
    → count_by (λ (m : Move). is_raising m.act) (if here then (plain_move (move_said row) ∷ moves) else moves) ≡ cond (raises && here) 1 0 + count
count_row street row moves count true raises on is same =
    count_by-cons (λ (m : Move). is_raising m.act) (plain_move (move_said row)) moves
    ∙ ap {B = ℕ} (λ b. cond b 1 0 + count_by (λ (m : Move). is_raising m.act) moves) is
    ∙ by_raise raises
  where
    by_raise : (b : Bool) → cond b 1 0 + count_by (λ (m : Move). is_raising m.act) moves ≡ cond (b && true) 1 0 + count
    by_raise true = omega (arith, same)
    by_raise false = omega (arith, same)
count_row street row moves count false true on is same = omega (arith, same)
count_row street row moves count false false on is same = omega (arith, same)

count_rows : (street : ℕ) (moves : List rows.Move) → count_by (λ (m : Move). is_raising m.act) (moves_on street (map plain_move (map move_said moves))) ≡ count_by (is_raise_on street) moves
count_rows street [] = refl
count_rows street (row ∷ moves) =
    count_row street row (moves_on street (map plain_move (map move_said moves))) (count_by (is_raise_on street) moves) (row.street == street) (is_raising (act_said row.act)) refl refl (count_rows street moves)
    ∙ sym (count_by-cons (is_raise_on street) row moves)

pub raises_said : (street : ℕ) (moves : List rows.Move) → raises_on (plain_moves (map move_said moves)) street ≡ count_by (is_raise_on street) moves
raises_said street moves =
    ap (count_by (λ (m : Move). is_raising m.act)) (filter-reverse (λ (m : Move). m.street == street) (map plain_move (map move_said moves)))
    ∙ count_reversed (λ (m : Move). is_raising m.act) (moves_on street (map plain_move (map move_said moves)))
    ∙ count_rows street moves

-- no move is of street 0
none_before : (moves : List Move) → AreSince moves → raises_on moves 0 ≡ 0
none_before [] since = refl
none_before (move ∷ rest) since =
    ap {B = ℕ} (λ b. count_by (λ (m : Move). is_raising m.act) (if b then (move ∷ moves_on 0 rest) else moves_on 0 rest)) (ne_eqb move.street 0 (λ is. omega (arith, is, since.0)))
    ∙ none_before rest since.1

within : (caps : List ℕ) (moves : List rows.Move) → AreSince (plain_moves (map move_said moves)) → is_above_caps (Some caps) moves ≡ false → (street : ℕ) → street ≤ 4 → raises_on (plain_moves (map move_said moves)) street ≤ slice_index caps (street - 1)
within caps moves since few street low =
    let one = or_parts (is_above_cap caps moves 1) (list_any (is_above_cap caps moves) (2 ∷ 3 ∷ 4 ∷ [])) few in
    let two = or_parts (is_above_cap caps moves 2) (list_any (is_above_cap caps moves) (3 ∷ 4 ∷ [])) one.1 in
    let three = or_parts (is_above_cap caps moves 3) (list_any (is_above_cap caps moves) (4 ∷ [])) two.1 in
    let four = or_parts (is_above_cap caps moves 4) false three.1 in
    by_street street low one.0 two.0 three.0 four.0
  where
    on : (k : ℕ) → is_above_cap caps moves k ≡ false → raises_on (plain_moves (map move_said moves)) k ≤ slice_index caps (k - 1)
    on k few = omega (arith, raises_said k moves, ltb-false (slice_index caps (k - 1)) (count_by (is_raise_on k) moves) few)

    by_street : (k : ℕ) → k ≤ 4 → is_above_cap caps moves 1 ≡ false → is_above_cap caps moves 2 ≡ false → is_above_cap caps moves 3 ≡ false → is_above_cap caps moves 4 ≡ false → raises_on (plain_moves (map move_said moves)) k ≤ slice_index caps (k - 1)
    by_street zero low one two three four = omega (arith, none_before (plain_moves (map move_said moves)) since)
    by_street (suc zero) low one two three four = on 1 one
    by_street (suc (suc zero)) low one two three four = on 2 two
    by_street (suc (suc (suc zero))) low one two three four = on 3 three
    by_street (suc (suc (suc (suc zero)))) low one two three four = on 4 four
    by_street (suc (suc (suc (suc (suc more))))) low one two three four = absurd (omega (arith, low))

caps_kept : (caps : Option (List ℕ)) (moves : List rows.Move) → AreSince (plain_moves (map move_said moves)) → is_above_caps caps moves ≡ false
    → IfSome caps (λ caps. (street : ℕ) → street ≤ 4 → raises_on (plain_moves (map move_said moves)) street ≤ slice_index caps (street - 1))
caps_kept None moves since few = tt
caps_kept (Some caps) moves since few = within caps moves since few

not_full : {P : Type 0} → reopens.Always ≡ reopens.Full → P
not_full same = absurd (true≢false (ap is_always same))
  where
    is_always : Reopen → Bool
    is_always reopens.Always = true
    is_always reopens.Full = false

-- so the play suits the rules of the game
pub suits_game : (game : Game) (trace : Trace) → HasPlayOf game trace → AreSince (plain_moves (core_said trace).moves) → SuitsRules (rules_of game) (core_said trace)
suits_game game trace has since =
    record {
      no_closed_raise = λ full. not_full full;
      no_free_fold = λ free. list_any-map other_rules.is_free_fold move_said trace.moves ∙ has.folds;
      within_caps = caps_kept game.caps trace.moves since has.caps;
    }

-- ---- the letters

-- a raise by the unit
by_unit : (setup : Setup) (older : List Move) (move : Move) → limit_of setup.code ≡ limits.Fixed → (is_raising move.act && not (move.to == unit_target_in (limit_of setup.code) setup older move.street move.seat)) ≡ false → is_raising move.act ≡ true
    → unit_target setup older move.street move.seat ≡ move.to
by_unit setup older move fixed none raises =
    let off : not (move.to == unit_target setup older move.street move.seat) ≡ false =
    ap (λ l. not (move.to == unit_target_in l setup older move.street move.seat)) (sym fixed)
    ∙ sym (ap (λ b. b && not (move.to == unit_target_in (limit_of setup.code) setup older move.street move.seat)) raises)
    ∙ none in
    sym (eqb-true move.to (unit_target setup older move.street move.seat) (not-false (move.to == unit_target setup older move.street move.seat) off))

-- a traced raise that is not by the unit
abbrev pub is_off : TracedMove → Bool
is_off move = is_raising move.act && not (move.to == move.unit_to)

letters_fit : (no_limit : Bool) (setup : Setup) (rules : Rules) (placed : List Place) (moves : List Move) → is_stud_game setup.code ≡ false → (no_limit ≡ false → limit_of setup.code ≡ limits.Fixed)
    → (no_limit ≡ false → list_any is_off (traced_moves setup moves) ≡ false) → MovesLaw setup rules placed moves → HaveLetters no_limit setup moves
letters_fit no_limit setup rules placed [] stud fixed units law = tt
letters_fit no_limit setup rules placed (move ∷ older) stud fixed units law =
    let parts : no_limit ≡ false → (list_any is_off (traced_moves setup older) ≡ false) × (is_off (traced_move setup move older) ≡ false) = λ limit.
    or_parts (list_any is_off (traced_moves setup older)) (is_off (traced_move setup move older)) (sym (list_any-push is_off (traced_moves setup older) (traced_move setup move older)) ∙ units limit) in (
      record {
        no_bring_in = no_bring setup rules older move law.0.event law.0.due stud law.0.is_move law.0.is_due law.0.none law.0.place;
        by_unit = λ limit raises. by_unit setup older move (fixed limit) (parts limit).1 raises;
      },
      letters_fit no_limit setup rules placed older stud fixed (λ limit. (parts limit).0) law.1,
    )

units_kept : (no_limit : Bool) (moves : List rows.Move) → not no_limit && list_any is_off_unit moves ≡ false → no_limit ≡ false → list_any is_off (map move_said moves) ≡ false
units_kept true moves none limit = absurd (true≢false limit)
units_kept false moves none limit = list_any-map is_off move_said moves ∙ none

-- so the moves of a play have letters
pub play_letters : (game : Game) (trace : Trace) (setup : Setup) (rules : Rules) (events : List Said) → HasPlayOf game trace → map move_said trace.moves ≡ traced_moves setup (moves_of (past_of setup events)) → AreLegal setup rules events
    → is_stud_game setup.code ≡ false → (game.no_limit ≡ false → limit_of setup.code ≡ limits.Fixed) → HaveLetters game.no_limit setup (moves_of (past_of setup events))
play_letters game trace setup rules events has same legal stud fixed =
    letters_fit game.no_limit setup rules (places_of setup.code (past_of setup events)) (moves_of (past_of setup events)) stud fixed
    (λ limit. sym (ap (list_any is_off) same) ∙ units_kept game.no_limit trace.moves has.units limit)
    (legal_moves setup rules events legal)
