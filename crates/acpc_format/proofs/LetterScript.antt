-- The canonical script of hold'em, except its showdown, in the letters of a log.
use Rattle.std.proofs.Common.{◌≡◌, ℕ, ◌+◌, ◌<◌, Bool, true, false, ◌==◌, nat_lt, if◌then◌else◌, List, [], ◌∷◌, ◌++◌, map, reverse, refl, sym, ap, subst, ◌∙◌, arith}
use Rattle.std.specs.List.{flat_map, range_with_len}
use Rattle.std.proofs.lemmas.Bool.{eqb-true, ltb-true, ne_eqb}
use Rattle.std.proofs.lemmas.List.{append-nil}
use Rattle.play_event.specs.CanonScript.{move_named, street_said}
use Rattle.play_event.specs.Past.{Act, BroughtIn, Called, Folded, Move, Raised, moves_before}
use Rattle.play_event.specs.Said.{Said}
use Rattle.play_event.specs.Streets.{has_draw}
use Rattle.play_event.specs.Trace.{TracedPlace}
use Rattle.play_event.specs.declared.setup.Setup.{Setup}
use Rattle.play_laws.proofs.DoneKept.{all_early}
use Rattle.play_laws.specs.PastLaws.{AreReached}
use Rattle.canon_laws.proofs.StreetMoves.{AreFalling, moves_split, own_moves, none_own}
use Rattle.canon_laws.proofs.OtherWords.{all_streets, behind_both}
use Rattle.acpc_format.specs.Betting.{hand_total}
use Rattle.acpc_format.specs.Again.{move_again, moves_again, street_again}
use Rattle.acpc_format.proofs.LetterEvents.{InLetters, letter, nothing, stays}

-- no move of a street has a letter if all moves are on earlier streets
none_again : (no_limit : Bool) (setup : Setup) (newest street : ℕ) (list : List Move) → AreReached newest list → newest < street → moves_again no_limit setup street list ≡ []
unfolding moves_again
none_again no_limit setup newest street [] all less = refl
none_again no_limit setup newest street (first ∷ rest) all less =
    ap (λ b. moves_again no_limit setup street rest ++ (if b then move_again no_limit first.act (hand_total setup first rest) else [])) (ne_eqb first.street street (λ same. omega (arith, same, all.0, less)))
    ∙ append-nil (moves_again no_limit setup street rest)
    ∙ none_again no_limit setup newest street rest all.1 less

-- a letter is one event or none
again_once : (no_limit : Bool) (act : Act) (total : ℕ) → reverse (move_again no_limit act total) ≡ move_again no_limit act total
again_once no_limit Folded total = refl
again_once no_limit Called total = refl
again_once no_limit Raised total = refl
again_once no_limit BroughtIn total = refl

-- the moves of a street, newest first, and the same in letters
moves_letters : (no_limit : Bool) (setup : Setup) (street : ℕ) (list : List Move) (events words : List Said) → AreFalling list → InLetters no_limit setup events (moves_before street list) words
    → InLetters no_limit setup (map move_named (own_moves street list) ++ events) (own_moves street list ++ moves_before street list) (reverse (moves_again no_limit setup street list) ++ words)
unfolding moves_again
moves_letters no_limit setup street [] events words falling before = before
moves_letters no_limit setup street (first ∷ older) events words falling before =
    by_street (first.street == street) refl (nat_lt first.street street) refl before (moves_letters no_limit setup street older events words falling.1)
  where
    own : List Move
    own = own_moves street older

    early : List Move
    early = moves_before street older

    again : List Said
    again = moves_again no_limit setup street older

    word : List Said
    word = move_again no_limit first.act (hand_total setup first older)

    by_street : (same : Bool) → (first.street == street) ≡ same → (less : Bool) → nat_lt first.street street ≡ less
        → InLetters no_limit setup events (if less then (first ∷ early) else early) words
        → (InLetters no_limit setup events early words → InLetters no_limit setup (map move_named own ++ events) (own ++ early) (reverse again ++ words))
        → InLetters no_limit setup (map move_named (if same then (first ∷ own) else own) ++ events) ((if same then (first ∷ own) else own) ++ (if less then (first ∷ early) else early)) (reverse (again ++ (if same then word else [])) ++ words)
    by_street true here true less here_before more = absurd (omega (arith, eqb-true first.street street here, ltb-true first.street street less))
    by_street true here false late here_before more =
        let on : first.street ≡ street = eqb-true first.street street here in
        let all : own ++ early ≡ older = sym (moves_split street older falling.1) ∙ all_early first.street (street + 1) older falling.0 (omega (arith, on)) in
        let said : word ++ (reverse again ++ words) ≡ reverse (again ++ word) ++ words = sym (behind_both again word words ∙ ap (λ (l : List Said). l ++ (reverse again ++ words)) (again_once no_limit first.act (hand_total setup first older))) in
        let P : List Move → Type 0 = λ list. InLetters no_limit setup (map move_named (first ∷ own) ++ events) (first ∷ (own ++ early)) (move_again no_limit first.act (hand_total setup first list) ++ (reverse again ++ words)) in
        subst (λ (l : List Said). InLetters no_limit setup (map move_named (first ∷ own) ++ events) (first ∷ (own ++ early)) l) said
        (subst P all (letter first (map move_named own ++ events) (own ++ early) (reverse again ++ words) (more here_before)))
    by_street false other true less here_before more =
        let few : first.street < street = ltb-true first.street street less in
        let no_own : [] ≡ own = sym (none_own first.street street older falling.0 few) in
        let no_again : words ≡ reverse (again ++ []) ++ words = sym (ap (λ (l : List Said). reverse (l ++ []) ++ words) (none_again no_limit setup first.street street older falling.0 few)) in
        subst (λ (l : List Move). InLetters no_limit setup (map move_named l ++ events) (l ++ (first ∷ early)) (reverse (again ++ []) ++ words)) no_own
        (subst (λ (l : List Said). InLetters no_limit setup events (first ∷ early) l) no_again here_before)
    by_street false other false late here_before more =
        subst (λ (l : List Said). InLetters no_limit setup (map move_named own ++ events) (own ++ early) (reverse l ++ words)) (sym (append-nil again)) (more here_before)

-- all four streets
pub script_letters : (no_limit : Bool) (setup : Setup) (placed : List TracedPlace) (list : List Move) → ((street : ℕ) → has_draw setup.code street ≡ false) → AreFalling list → moves_before 1 list ≡ [] → moves_before 5 list ≡ list
    → InLetters no_limit setup (reverse (flat_map (street_said setup placed list) (range_with_len 1 4))) list (reverse (flat_map (street_again no_limit setup placed list) (range_with_len 1 4)))
script_letters no_limit setup placed list undrawn falling none all =
    all_streets (InLetters no_limit setup) stays setup placed list (λ street. moves_again no_limit setup street list) undrawn falling
    (λ street events words before. moves_letters no_limit setup street list events words falling before) nothing none all
