-- The canonical script of a game without draws, except its showdown, next to the same events in
-- other words; only moves change.
use Rattle.std.proofs.Common.{◌≡◌, ℕ, zero, suc, ◌+◌, ◌&&◌, if◌then◌else◌, false, List, [], ◌∷◌, ◌++◌, map, reverse, Some, None, refl, sym, ap, subst, ◌∙◌, arith, append_assoc}
use Rattle.std.specs.List.{flat_map, range_with_len}
use Rattle.std.proofs.lemmas.List.{append-nil, map-append, reverse-append, reverse-reverse}
use Rattle.card_set.specs.declared.card.Slot.{Slot}
use Rattle.play_event.specs.CanonScript.{board_said, deal_said, dealt_slots, deals_said, discarded_slots, discards_said, drawing_seats, is_reached, move_named, moves_named, street_said}
use Rattle.play_event.specs.PlayedScript.{is_move_event}
use Rattle.play_event.specs.Past.{Move, moves_before}
use Rattle.play_event.specs.Said.{Discard, Said}
use Rattle.play_event.specs.Seats.{all_seats}
use Rattle.play_event.specs.Streets.{has_draw}
use Rattle.play_event.specs.Trace.{TracedPlace}
use Rattle.play_event.specs.declared.setup.Setup.{Setup}
use Rattle.canon_laws.proofs.StreetMoves.{AreFalling, moves_split, own_moves}
use Rattle.canon_laws.proofs.Runs.{more_events}

-- no event is a move
abbrev pub NoMoves : List Said → Type 0
NoMoves [] = Unit {0}
NoMoves (event ∷ events) = (is_move_event event ≡ false) × NoMoves events

both_no : (first second : List Said) → NoMoves first → NoMoves second → NoMoves (first ++ second)
both_no [] second one two = two
both_no (event ∷ first) second one two = (one.0, both_no first second one.1 two)

-- the deals of a street
deal_no : (seat : ℕ) (cards : List Slot) → NoMoves (deal_said seat cards)
deal_no seat [] = tt
deal_no seat (card ∷ cards) = (refl, tt)

board_no : (cards : List Slot) → NoMoves (board_said cards)
board_no [] = tt
board_no (card ∷ cards) = (refl, tt)

holes_no : (placed : List TracedPlace) (street : ℕ) (seats : List ℕ) → NoMoves (flat_map (λ seat. deal_said seat (dealt_slots placed (Some seat) street)) seats)
holes_no placed street [] = tt
holes_no placed street (seat ∷ seats) =
    both_no (deal_said seat (dealt_slots placed (Some seat) street)) (flat_map (λ seat. deal_said seat (dealt_slots placed (Some seat) street)) seats) (deal_no seat (dealt_slots placed (Some seat) street)) (holes_no placed street seats)

deals_no : (setup : Setup) (placed : List TracedPlace) (street : ℕ) → NoMoves (deals_said setup placed street)
deals_no setup placed street =
    both_no (flat_map (λ seat. deal_said seat (dealt_slots placed (Some seat) street)) (all_seats setup)) (board_said (dealt_slots placed None street)) (holes_no placed street (all_seats setup)) (board_no (dealt_slots placed None street))

-- and of lists
pub behind_both : (first second events : List Said) → reverse (first ++ second) ++ events ≡ reverse second ++ (reverse first ++ events)
behind_both first second events = ap (λ (l : List Said). l ++ events) (reverse-append first second) ∙ append_assoc (reverse second) (reverse first) events

map_reverse : (moves : List Move) → reverse (map move_named moves) ≡ map move_named (reverse moves)
map_reverse [] = refl
map_reverse (move ∷ moves) =
    reverse-append (move_named move ∷ []) (map move_named moves)
    ∙ ap (λ (l : List Said). l ++ move_named move ∷ []) (map_reverse moves)
    ∙ sym (map-append move_named (reverse moves) (move ∷ []))
    ∙ sym (ap (map move_named) (reverse-append (move ∷ []) moves))

newest_first : (list : List Move) (street : ℕ) → reverse (moves_named list street) ≡ map move_named (own_moves street list)
newest_first list street = map_reverse (reverse (own_moves street list)) ∙ ap (map move_named) (reverse-reverse (own_moves street list))

no_discards : (setup : Setup) (placed : List TracedPlace) (list : List Move) (street : ℕ) → has_draw setup.code street ≡ false → discards_said setup placed list street ≡ []
no_discards setup placed list street undrawn =
    ap (λ b. if b && is_reached setup list street then map (λ seat. Discard seat (discarded_slots placed seat street)) (drawing_seats setup list street) else []) undrawn

-- a street in other words: its deals, and its moves as they are said
abbrev pub street_as : Setup → List TracedPlace → (ℕ → List Said) → ℕ → List Said
street_as setup placed moves_as street = deals_said setup placed street ++ moves_as street

-- events (newest first) with their moves, and the same events in other words; only moves change
module _ (Says : List Said → List Move → List Said → Type 0) (stays : (event : Said) (events : List Said) (moves : List Move) (words : List Said) → is_move_event event ≡ false → Says events moves words → Says (event ∷ events) moves (event ∷ words)) where
  -- this holds of events that are not moves
  pub quiet_stay : (quiet events : List Said) (moves : List Move) (words : List Said) → NoMoves quiet → Says events moves words → Says (reverse quiet ++ events) moves (reverse quiet ++ words)
  quiet_stay [] events moves words none before = before
  quiet_stay (event ∷ quiet) events moves words none before =
      let P : List Said → Type 0 = λ l. Says l moves (reverse (event ∷ quiet) ++ words) in
      let Q : List Said → Type 0 = λ l. Says (reverse quiet ++ (event ∷ events)) moves l in
      subst P (sym (more_events event quiet events)) (subst Q (sym (more_events event quiet words)) (quiet_stay quiet (event ∷ events) moves (event ∷ words) none.1 (stays event events moves words none.0 before)))

  -- the moves of each street are said
  module _ (setup : Setup) (placed : List TracedPlace) (list : List Move) (moves_as : ℕ → List Said) (undrawn : (street : ℕ) → has_draw setup.code street ≡ false) (falling : AreFalling list)
      (own_said : (street : ℕ) (events words : List Said) → Says events (moves_before street list) words → Says (map move_named (own_moves street list) ++ events) (own_moves street list ++ moves_before street list) (reverse (moves_as street) ++ words)) where
    -- so is a street of the script
    street_too : (street : ℕ) (events words : List Said) → Says events (moves_before street list) words
        → Says (reverse (street_said setup placed list street) ++ events) (moves_before (street + 1) list) (reverse (street_as setup placed moves_as street) ++ words)
    street_too street events words before =
        let deals = deals_said setup placed street in
        let own = own_moves street list in
        let said : reverse (street_said setup placed list street) ++ events ≡ map move_named own ++ (reverse deals ++ events) =
        ap (λ (l : List Said). reverse (l ++ (deals ++ moves_named list street)) ++ events) (no_discards setup placed list street (undrawn street))
        ∙ behind_both deals (moves_named list street) events
        ∙ ap (λ (l : List Said). l ++ (reverse deals ++ events)) (newest_first list street) in
        let again : reverse (street_as setup placed moves_as street) ++ words ≡ reverse (moves_as street) ++ (reverse deals ++ words) = behind_both deals (moves_as street) words in
        let it = own_said street (reverse deals ++ events) (reverse deals ++ words) (quiet_stay deals events (moves_before street list) words (deals_no setup placed street) before) in
        subst (λ (l : List Said). Says l (moves_before (street + 1) list) (reverse (street_as setup placed moves_as street) ++ words)) (sym said)
        (subst (λ (l : List Said). Says (map move_named own ++ (reverse deals ++ events)) (moves_before (street + 1) list) l) (sym again)
        (subst (λ (l : List Move). Says (map move_named own ++ (reverse deals ++ events)) l (reverse (moves_as street) ++ (reverse deals ++ words))) (sym (moves_split street list falling)) it))

    -- this number of streets
    streets_too : (first count : ℕ) (events words : List Said) → Says events (moves_before first list) words
        → Says (reverse (flat_map (street_said setup placed list) (range_with_len first count)) ++ events) (moves_before (first + count) list) (reverse (flat_map (street_as setup placed moves_as) (range_with_len first count)) ++ words)
    streets_too first zero events words before =
        subst (λ n. Says events (moves_before n list) words) (zero_more first) before
      where
        zero_more : (n : ℕ) → n ≡ n + 0
        zero_more n = omega arith
    streets_too first (suc count) events words before =
        let said = street_said setup placed list first in
        let again = street_as setup placed moves_as first in
        let later = flat_map (street_said setup placed list) (range_with_len (first + 1) count) in
        let later_again = flat_map (street_as setup placed moves_as) (range_with_len (first + 1) count) in
        let it = streets_too (first + 1) count (reverse said ++ events) (reverse again ++ words) (street_too first events words before) in
        let next : (first + 1) + count ≡ first + suc count = omega arith in
        subst (λ n. Says (reverse (said ++ later) ++ events) (moves_before n list) (reverse (again ++ later_again) ++ words)) next
        (subst (λ (l : List Said). Says l (moves_before ((first + 1) + count) list) (reverse (again ++ later_again) ++ words)) (sym (behind_both said later events))
        (subst (λ (l : List Said). Says (reverse later ++ (reverse said ++ events)) (moves_before ((first + 1) + count) list) l) (sym (behind_both again later_again words)) it))

    -- all four streets
    pub all_streets : Says [] [] [] → moves_before 1 list ≡ [] → moves_before 5 list ≡ list
        → Says (reverse (flat_map (street_said setup placed list) (range_with_len 1 4))) list (reverse (flat_map (street_as setup placed moves_as) (range_with_len 1 4)))
    all_streets nothing none all =
        let said = flat_map (street_said setup placed list) (range_with_len 1 4) in
        let again = flat_map (street_as setup placed moves_as) (range_with_len 1 4) in
        let it = streets_too 1 4 [] [] (subst (λ (l : List Move). Says [] l []) (sym none) nothing) in
        subst (λ (l : List Move). Says (reverse said) l (reverse again)) all
        (subst (λ (l : List Said). Says l (moves_before 5 list) (reverse again)) (append-nil (reverse said))
        (subst (λ (l : List Said). Says (reverse said ++ []) (moves_before 5 list) l) (append-nil (reverse again)) it))
