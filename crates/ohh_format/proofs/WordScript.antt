-- The canonical script of a game without draws, in the words of the format.
use Rattle.std.proofs.Common.{◌≡◌, ℕ, ◌<◌, Bool, true, false, ◌==◌, nat_le, nat_lt, if◌then◌else◌, List, [], ◌∷◌, ◌++◌, map, filter, reverse, refl, sym, ap, subst, ◌∙◌, arith}
use Rattle.std.specs.List.{flat_map, list_any, range_with_len}
use Rattle.std.proofs.lemmas.Bool.{eqb-true, ltb-true, ne_eqb}
use Rattle.std.proofs.lemmas.List.{append-nil, flat_map_more, reverse-append}
use Rattle.card_set.specs.Known.{known_among}
use Rattle.play_event.specs.CanonScript.{held_slots, move_named, plain_move, showdown_said, showing_said, street_said}
use Rattle.play_event.specs.PlayedScript.{is_move_event}
use Rattle.play_event.specs.Past.{Act, BroughtIn, Called, Folded, Move, Raised, moves_before}
use Rattle.play_event.specs.Said.{Muck, Said, Show}
use Rattle.play_event.specs.Seats.{all_seats, is_live, live_count}
use Rattle.play_event.specs.Streets.{has_draw}
use Rattle.play_event.specs.Trace.{TracedMove, TracedPlace}
use Rattle.play_event.specs.declared.setup.Setup.{Setup}
use Rattle.play_laws.specs.PastLaws.{AreReached}
use Rattle.canon_laws.proofs.StreetMoves.{AreFalling, own_moves, none_own}
use Rattle.canon_laws.proofs.OtherWords.{NoMoves, all_streets, behind_both, quiet_stay}
use Rattle.ohh_members.specs.declared.dialect.Dialect.{Dialect}
use Rattle.ohh_format.specs.Again.{move_again, move_on, moves_again, street_again}
use Rattle.ohh_format.proofs.WordEvents.{InWords, nothing, stays, word}

-- the showdown
showing_no : (placed : List TracedPlace) (shown : List ℕ) (seats : List ℕ) → NoMoves (map (showing_said placed shown) seats)
showing_no placed shown [] = tt
showing_no placed shown (seat ∷ seats) = (by_shown (list_any (λ other. other == seat) shown), showing_no placed shown seats)
  where
    by_shown : (shows : Bool) → is_move_event (if shows then Show seat (known_among (held_slots placed seat)) else Muck seat) ≡ false
    by_shown true = refl
    by_shown false = refl

showdown_no : (setup : Setup) (placed : List TracedPlace) (list : List Move) (shown : List ℕ) → NoMoves (showdown_said setup placed list shown)
showdown_no setup placed list shown = by_contest (nat_le 2 (live_count setup list))
  where
    by_contest : (contested : Bool) → NoMoves (if contested then map (showing_said placed shown) (filter (is_live list) (all_seats setup)) else [])
    by_contest true = showing_no placed shown (filter (is_live list) (all_seats setup))
    by_contest false = tt

-- the words of the moves of a street; the moves are the newest first
words_on : Dialect → ℕ → List TracedMove → List Said
words_on dialect street [] = []
words_on dialect street (first ∷ older) = words_on dialect street older ++ move_on dialect street first

words_are : (dialect : Dialect) (street : ℕ) (list : List TracedMove) → moves_again dialect (reverse list) street ≡ words_on dialect street list
unfolding words_on
words_are dialect street [] = refl
words_are dialect street (first ∷ older) =
    ap (flat_map (move_on dialect street)) (reverse-append (first ∷ []) older)
    ∙ sym (flat_map_more (move_on dialect street) [] (reverse older) first)
    ∙ ap (λ (l : List Said). l ++ move_on dialect street first) (words_are dialect street older)

-- no move of a street has a word if all moves are of earlier ones
none_again : (dialect : Dialect) (newest street : ℕ) (list : List TracedMove) → AreReached newest (map plain_move list) → newest < street → words_on dialect street list ≡ []
unfolding words_on
none_again dialect newest street [] all less = refl
none_again dialect newest street (first ∷ rest) all less =
    ap (λ b. words_on dialect street rest ++ (if b then move_again dialect first.act first else [])) (ne_eqb first.street street (λ same. omega (arith, same, all.0, less)))
    ∙ append-nil (words_on dialect street rest)
    ∙ none_again dialect newest street rest all.1 less

-- a word is one event, or no event
again_once : (dialect : Dialect) (act : Act) (move : TracedMove) → reverse (move_again dialect act move) ≡ move_again dialect act move
again_once dialect Folded move = refl
again_once dialect Called move = refl
again_once dialect Raised move = refl
again_once dialect BroughtIn move = refl

-- the moves of a street, the newest first, and the same in words
moves_words : (dialect : Dialect) (street : ℕ) (list : List TracedMove) (events words : List Said) → AreFalling (map plain_move list) → InWords dialect events (moves_before street (map plain_move list)) words
    → InWords dialect (map move_named (own_moves street (map plain_move list)) ++ events) (own_moves street (map plain_move list) ++ moves_before street (map plain_move list)) (reverse (words_on dialect street list) ++ words)
unfolding words_on
moves_words dialect street [] events words falling before = before
moves_words dialect street (first ∷ older) events words falling before =
    by_street (first.street == street) refl (nat_lt first.street street) refl before (moves_words dialect street older events words falling.1)
  where
    plain : Move
    plain = plain_move first

    own : List Move
    own = own_moves street (map plain_move older)

    early : List Move
    early = moves_before street (map plain_move older)

    again : List Said
    again = words_on dialect street older

    here_word : List Said
    here_word = move_again dialect first.act first

    by_street : (same : Bool) → (first.street == street) ≡ same → (less : Bool) → nat_lt first.street street ≡ less
        → InWords dialect events (if less then (plain ∷ early) else early) words
        → (InWords dialect events early words → InWords dialect (map move_named own ++ events) (own ++ early) (reverse again ++ words))
        → InWords dialect (map move_named (if same then (plain ∷ own) else own) ++ events) ((if same then (plain ∷ own) else own) ++ (if less then (plain ∷ early) else early)) (reverse (again ++ (if same then here_word else [])) ++ words)
    by_street true here true less here_before more = absurd (omega (arith, eqb-true first.street street here, ltb-true first.street street less))
    by_street true here false late here_before more =
        let said : here_word ++ (reverse again ++ words) ≡ reverse (again ++ here_word) ++ words = sym (behind_both again here_word words ∙ ap (λ (l : List Said). l ++ (reverse again ++ words)) (again_once dialect first.act first)) in
        subst (λ (l : List Said). InWords dialect (map move_named (plain ∷ own) ++ events) (plain ∷ (own ++ early)) l) said
        (word first (map move_named own ++ events) (own ++ early) (reverse again ++ words) (more here_before))
    by_street false other true less here_before more =
        let few : first.street < street = ltb-true first.street street less in
        let no_own : [] ≡ own = sym (none_own first.street street (map plain_move older) falling.0 few) in
        let no_again : words ≡ reverse (again ++ []) ++ words = sym (ap (λ (l : List Said). reverse (l ++ []) ++ words) (none_again dialect first.street street older falling.0 few)) in
        subst (λ (l : List Move). InWords dialect (map move_named l ++ events) (l ++ (plain ∷ early)) (reverse (again ++ []) ++ words)) no_own
        (subst (λ (l : List Said). InWords dialect events (plain ∷ early) l) no_again here_before)
    by_street false other false late here_before more =
        subst (λ (l : List Said). InWords dialect (map move_named own ++ events) (own ++ early) (reverse l ++ words)) (sym (append-nil again)) (more here_before)

own_words : (dialect : Dialect) (list : List TracedMove) → AreFalling (map plain_move list) → (street : ℕ) (events words : List Said) → InWords dialect events (moves_before street (map plain_move list)) words
    → InWords dialect (map move_named (own_moves street (map plain_move list)) ++ events) (own_moves street (map plain_move list) ++ moves_before street (map plain_move list)) (reverse (moves_again dialect (reverse list) street) ++ words)
own_words dialect list falling street events words before =
    let P : List Said → Type 0 = λ l. InWords dialect (map move_named (own_moves street (map plain_move list)) ++ events) (own_moves street (map plain_move list) ++ moves_before street (map plain_move list)) (reverse l ++ words) in
    subst P (sym (words_are dialect street list)) (moves_words dialect street list events words falling before)

-- all four streets, and the showdown
pub script_words : (dialect : Dialect) (setup : Setup) (placed : List TracedPlace) (list : List TracedMove) (shown : List ℕ) → ((street : ℕ) → has_draw setup.code street ≡ false) → AreFalling (map plain_move list)
    → moves_before 1 (map plain_move list) ≡ [] → moves_before 5 (map plain_move list) ≡ map plain_move list
    → InWords dialect (reverse (flat_map (street_said setup placed (map plain_move list)) (range_with_len 1 4) ++ showdown_said setup placed (map plain_move list) shown)) (map plain_move list)
    (reverse (flat_map (street_again dialect setup placed (reverse list)) (range_with_len 1 4) ++ showdown_said setup placed (map plain_move list) shown))
script_words dialect setup placed list shown undrawn falling none all =
    let plain = map plain_move list in
    let said = flat_map (street_said setup placed plain) (range_with_len 1 4) in
    let again = flat_map (street_again dialect setup placed (reverse list)) (range_with_len 1 4) in
    let shows = showdown_said setup placed plain shown in
    let whole : InWords dialect (reverse said) plain (reverse again) =
    all_streets (InWords dialect) stays setup placed plain (moves_again dialect (reverse list)) undrawn falling (own_words dialect list falling) nothing none all in
    subst (λ (l : List Said). InWords dialect l plain (reverse (again ++ shows))) (sym (reverse-append said shows))
    (subst (λ (l : List Said). InWords dialect (reverse shows ++ reverse said) plain l) (sym (reverse-append again shows))
    (quiet_stay (InWords dialect) stays shows (reverse said) plain (reverse again) (showdown_no setup placed plain shown) whole))
