-- What is written piece by piece is the whole.
use Rattle.std.proofs.Common.{◌≡◌, ◌<◌, ◌+◌, ℕ, zero, suc, Bool, true, false, if◌then◌else◌, List, [], ◌∷◌, ◌++◌, drop, filter, get_or, length, map, take, cond, refl, sym, ap, ◌∙◌, append_assoc, arith, OnOk, Result, Ok, Err, is_ok}
use Rattle.std.specs.List.{flat_map, range_with_len}
use Rattle.std.proofs.lemmas.Grind.{flat_map-append}
use Rattle.std.proofs.lemmas.List.{append-nil, drop_more, map-append, take-map}
use Rattle.play_event.specs.CanonScript.{plain_moves}
use Rattle.hand_canon.specs.TraceRows.{core_said, place_said}
use Rattle.hand_canon.specs.declared.trace.Trace.{Trace}
use Rattle.play_event.specs.Played.{move_said}
use Rattle.play_event.specs.Trace.{TracedMove, TracedPlace}
use Rattle.play_event.specs.declared.played.Move.{Move}
use Rattle.play_event.specs.declared.played.Place.{Place}
use Rattle.acpc_format.specs.Betting.{betting_text}
use Rattle.acpc_format.specs.Cards.{cards_text}
use Rattle.acpc_format.specs.Puts.{HaveFewChips}
use Rattle.acpc_format.proofs.Totals.{few_so_far}
use Rattle.acpc_view.specs.View.{seen_places, seen_text}

-- the first moves put no more chips than all moves
pub few_chips : (trace : Trace) (count : ℕ) → HaveFewChips trace.setup trace.moves → HaveFewChips trace.setup (take count trace.moves)
few_chips trace count few = record { within = λ seat. omega (arith, few.within seat, few_so_far trace.setup seat count trace.moves) }

-- one more card
shown_first : (place : TracedPlace) (rest : List TracedPlace) (sees : Bool) → cond sees (place ∷ rest) rest ≡ (if sees then place ∷ [] else []) ++ rest
shown_first place rest true = refl
shown_first place rest false = refl

said_where : (place : Place) (sees : Bool) → map place_said (if sees then place ∷ [] else []) ≡ (if sees then place_said place ∷ [] else [])
said_where place true = refl
said_where place false = refl

pub one_seen : (passes : TracedPlace → Bool) (places before after : List Place) (index : ℕ) (place : Place) (sees : Bool) (all : List TracedPlace) → index < length places → get_or places index place ≡ place → sees ≡ passes (place_said place)
    → after ≡ before ++ (if sees then place ∷ [] else [])
    → map place_said before ++ filter passes (map place_said (drop index places)) ≡ all
    → map place_said after ++ filter passes (map place_said (drop (index + 1) places)) ≡ all
one_seen passes places before after index place sees all within here same is inv =
    let rest = filter passes (map place_said (drop (index + 1) places)) in
    let first : List TracedPlace = if sees then place_said place ∷ [] else [] in
    ap (λ (xs : List Place). map place_said xs ++ rest) is
    ∙ ap (λ (xs : List TracedPlace). xs ++ rest) (map-append place_said before (if sees then place ∷ [] else []) ∙ ap (λ (xs : List TracedPlace). map place_said before ++ xs) (said_where place sees))
    ∙ append_assoc (map place_said before) first rest
    ∙ ap (λ (xs : List TracedPlace). map place_said before ++ xs) (sym (shown_first (place_said place) rest sees) ∙ ap (λ (b : Bool). cond b (place_said place ∷ rest) rest) same)
    ∙ ap (λ (xs : List Place). map place_said before ++ filter passes (map place_said xs)) (sym (drop_more places index place within ∙ ap (λ (p : Place). p ∷ drop (index + 1) places) here))
    ∙ inv

-- the betting and the cards that are seen
pub seen_written : (no_limit : Bool) (trace : Trace) (viewer count : ℕ) (seen shown other : List Place) (moves : List Move) (out one two three : List ℕ) → map place_said seen ≡ seen_places (core_said trace) viewer count
    → shown ≡ seen → other ≡ seen → moves ≡ trace.moves
    → one ≡ out ++ betting_text no_limit trace.setup (map place_said shown) (plain_moves (map move_said (take count moves)))
    → two ≡ one ++ 58 ∷ []
    → three ≡ two ++ cards_text (map place_said other) trace.setup.stacks.seats
    → three ≡ out ++ seen_text no_limit trace viewer count
unfolding seen_text
seen_written no_limit trace viewer count seen shown other moves out one two three seen_is shown_is other_is moves_are first second third =
    let betting : List ℕ = betting_text no_limit trace.setup (map place_said shown) (plain_moves (map move_said (take count moves))) in
    let cards : List ℕ = cards_text (map place_said other) trace.setup.stacks.seats in
    let all = seen_places (core_said trace) viewer count in
    third
    ∙ ap (λ (t : List ℕ). t ++ cards) (second ∙ ap (λ (t : List ℕ). t ++ 58 ∷ []) first ∙ append_assoc out betting (58 ∷ []))
    ∙ append_assoc out (betting ++ 58 ∷ []) cards
    ∙ ap (λ (t : List ℕ). out ++ t) (append_assoc betting (58 ∷ []) cards)
    ∙ ap (λ (m : List TracedMove). out ++ (betting_text no_limit trace.setup (map place_said shown) (plain_moves m) ++ 58 ∷ cards)) (ap (λ (ms : List Move). map move_said (take count ms)) moves_are ∙ sym (take-map move_said count trace.moves))
    ∙ ap (λ (p : List TracedPlace). out ++ (betting_text no_limit trace.setup p (plain_moves (take count (core_said trace).moves)) ++ 58 ∷ cards)) (ap (map place_said) shown_is ∙ seen_is)
    ∙ ap (λ (p : List TracedPlace). out ++ (betting_text no_limit trace.setup all (plain_moves (take count (core_said trace).moves)) ++ 58 ∷ cards_text p trace.setup.stacks.seats)) (ap (map place_said) other_is ∙ seen_is)

-- what is written if memory does not run out
pub when_ok : {A E : Type 0} (result : Result A E) (new done undone : List ℕ) → new ≡ (if is_ok result then done else undone) → OnOk result (new ≡ done)
when_ok (Ok value) new done undone is = is
when_ok (Err error) new done undone is = tt

-- a line of four pieces
pub four_pieces : (out one two three four head text : List ℕ) → one ≡ out ++ head → two ≡ one ++ 58 ∷ [] → three ≡ two ++ text → four ≡ three ++ 10 ∷ [] → four ≡ out ++ (head ++ 58 ∷ (text ++ 10 ∷ []))
four_pieces out one two three four head text a b c d =
    d
    ∙ ap (λ (t : List ℕ). t ++ 10 ∷ []) (c ∙ ap (λ (t : List ℕ). t ++ text) (b ∙ ap (λ (t : List ℕ). t ++ 58 ∷ []) a ∙ append_assoc out head (58 ∷ [])) ∙ append_assoc out (head ++ 58 ∷ []) text)
    ∙ append_assoc out ((head ++ 58 ∷ []) ++ text) (10 ∷ [])
    ∙ ap (λ (t : List ℕ). out ++ (t ++ 10 ∷ [])) (append_assoc head (58 ∷ []) text)
    ∙ ap (λ (t : List ℕ). out ++ t) (append_assoc head (58 ∷ text) (10 ∷ []))

-- one more line
range_more : (first count : ℕ) → range_with_len first (count + 1) ≡ range_with_len first count ++ (first + count) ∷ []
range_more first zero = let same : first ≡ first + 0 = omega arith in ap (λ (n : ℕ). n ∷ []) same
range_more first (suc count) =
    let more : suc count + 1 ≡ suc (count + 1) = omega arith in
    let last : first + 1 + count ≡ first + suc count = omega arith in
    ap (range_with_len first) more
    ∙ ap (λ (l : List ℕ). first ∷ l) (range_more (first + 1) count)
    ∙ ap (λ (n : ℕ). first ∷ (range_with_len (first + 1) count ++ n ∷ [])) last

pub line_more : (line : ℕ → List ℕ) (count : ℕ) (before after : List ℕ) → before ≡ flat_map line (range_with_len 0 count) → after ≡ before ++ line count → after ≡ flat_map line (range_with_len 0 (count + 1))
line_more line count before after inv is =
    let here : 0 + count ≡ count = omega arith in
    is ∙ ap (λ (l : List ℕ). l ++ line count) inv
    ∙ sym (
    ap (flat_map line) (range_more 0 count)
    ∙ flat_map-append line (range_with_len 0 count) ((0 + count) ∷ [])
    ∙ ap (λ (n : ℕ). flat_map line (range_with_len 0 count) ++ (line n ++ [])) here
    ∙ ap (λ (l : List ℕ). flat_map line (range_with_len 0 count) ++ l) (append-nil (line count))
    )
