-- A seat sees its own cards and the boards that were dealt, and its line is made of these and of
-- the moves so far.
use Rattle.std.proofs.Common.{◌≡◌, ◌<◌, ◌-◌, codes, decimal, ℕ, Bool, true, false, ◌&&◌, ◌||◌, ◌==◌, if◌then◌else◌, List, [], ◌∷◌, ◌++◌, filter, map, length, take, cond, Option, Some, None, refl, sym, ap, ◌∙◌, arith}
use Rattle.std.specs.List.{flat_map, list_any}
use Rattle.std.specs.Option.{option_map_or}
use Rattle.std.proofs.lemmas.Bool.{and_parts, eqb-true, lt-leb}
use Rattle.std.proofs.lemmas.List.{length-map}
use Rattle.std.proofs.lemmas.Map.Views.{any-filter_same}
use Rattle.card_set.proofs.Tests.{false_true}
use Rattle.card_set.specs.declared.card.Slot.{Slot}
use Rattle.card_set.specs.Known.{hides_card}
use Rattle.card_set.specs.Spelling.{spelling}
use Rattle.chip_ledger.specs.Seat.{seats_of}
use Rattle.play_event.specs.declared.setup.Setup.{Setup}
use Rattle.play_event.specs.Past.{Move}
use Rattle.play_event.specs.Places.{is_same_owner}
use Rattle.play_event.specs.Trace.{TracedMove, TracedPlace}
use Rattle.play_event.specs.Played.{move_said}
use Rattle.play_event.proofs.OwnerLaws.{is_same_owner-true}
use Rattle.play_event.specs.CanonScript.{dealt_slots, is_dealt_to, plain_moves}
use Rattle.play_event.specs.TraceCore.{TraceCore}
use Rattle.hand_canon.specs.TraceRows.{core_said}
use Rattle.hand_canon.specs.declared.trace.Play.{Play}
use Rattle.hand_canon.specs.declared.trace.Trace.{Trace}
use Rattle.acpc_format.specs.Betting.{betting_text, letters_on, round_text}
use Rattle.acpc_format.specs.Cards.{board_text, boards_text, cards_text, hole_text, holes_text}
use Rattle.acpc_format.specs.Names.{hand_text}
use Rattle.acpc_format.specs.Rounds.{behind_stroke, has_board}
use Rattle.acpc_format.specs.Seats.{bar_before, for_seats}
use Rattle.acpc_view.specs.Known.{AreAlikeTo, board_begun}
use Rattle.acpc_view.specs.View.{has_begun, head_text, is_at_end, is_seen_by, seen_places, seen_text, sees_seat, view_line}

-- what holds for an owner and a street holds for a place that was dealt to it there
dealt_there : (seen : Option ℕ → ℕ → Bool) (owner : Option ℕ) (street : ℕ) (place : TracedPlace) → is_dealt_to owner street place ≡ true → seen place.owner place.street ≡ seen owner street
dealt_there seen owner street place is =
    let parts = and_parts (is_same_owner place.owner owner) (place.street == street) is in
    ap (λ (o : Option ℕ). seen o place.street) (is_same_owner-true place.owner owner parts.0) ∙ ap (seen owner) (eqb-true place.street street parts.1)

-- of the elements that pass a test, a filter that keeps them all loses none, and one that drops
-- them all leaves none
module _ {X : Type 0} (test p : X → Bool) where
  one_kept : (x : X) (xs : List X) (tests passes : Bool) → test x ≡ tests → (tests ≡ true → passes ≡ true) → filter test (filter p xs) ≡ filter test xs
      → filter test (cond passes (x ∷ filter p xs) (filter p xs)) ≡ cond tests (x ∷ filter test xs) (filter test xs)
  one_kept x xs true true at same rest = ap (λ (b : Bool). cond b (x ∷ filter test (filter p xs)) (filter test (filter p xs))) at ∙ ap (λ ys. x ∷ ys) rest
  one_kept x xs true false at same rest = false_true (same refl)
  one_kept x xs false true at same rest = ap (λ (b : Bool). cond b (x ∷ filter test (filter p xs)) (filter test (filter p xs))) at ∙ rest
  one_kept x xs false false at same rest = rest

  all_kept : ((x : X) → test x ≡ true → p x ≡ true) → (xs : List X) → filter test (filter p xs) ≡ filter test xs
  all_kept same [] = refl
  all_kept same (x ∷ xs) = one_kept x xs (test x) (p x) refl (same x) (all_kept same xs)

  one_lost : (x : X) (xs : List X) (tests passes : Bool) → test x ≡ tests → (tests ≡ true → passes ≡ false) → filter test (filter p xs) ≡ []
      → filter test (cond passes (x ∷ filter p xs) (filter p xs)) ≡ []
  one_lost x xs true true at same rest = false_true (sym (same refl))
  one_lost x xs false true at same rest = ap (λ (b : Bool). cond b (x ∷ filter test (filter p xs)) (filter test (filter p xs))) at ∙ rest
  one_lost x xs tests false at same rest = rest

  all_lost : ((x : X) → test x ≡ true → p x ≡ false) → (xs : List X) → filter test (filter p xs) ≡ []
  all_lost same [] = refl
  all_lost same (x ∷ xs) = one_lost x xs (test x) (p x) refl (same x) (all_lost same xs)

filtered : {X : Type 0} (test p : X → Bool) (keeps : Bool) → ((x : X) → test x ≡ true → p x ≡ keeps) → (xs : List X) → filter test (filter p xs) ≡ (if keeps then filter test xs else [])
filtered test p true same xs = all_kept test p same xs
filtered test p false same xs = all_lost test p same xs

-- the cards of an owner of a street that a seat sees, and whether it sees a board
module _ (trace : TraceCore) (viewer count : ℕ) where
  abbrev seen : TracedPlace → Bool
  seen place = is_seen_by trace viewer count place.owner place.street

  pub seen_slots : (owner : Option ℕ) (street : ℕ) (sees : Bool) → is_seen_by trace viewer count owner street ≡ sees → dealt_slots (seen_places trace viewer count) owner street ≡ (if sees then dealt_slots trace.places owner street else [])
  seen_slots owner street sees is =
      ap (map (λ (place : TracedPlace). place.slot)) (filtered (is_dealt_to owner street) seen sees (λ place at. dealt_there (is_seen_by trace viewer count) owner street place at ∙ is) trace.places)
      ∙ mapped sees
    where
      mapped : (b : Bool) → map (λ (place : TracedPlace). place.slot) (if b then filter (is_dealt_to owner street) trace.places else []) ≡ (if b then dealt_slots trace.places owner street else [])
      mapped true = refl
      mapped false = refl

  pub seen_board : (street : ℕ) → has_board (seen_places trace viewer count) street ≡ (has_begun trace.moves count street && has_board trace.places street)
  seen_board street =
      any-filter_same (is_dealt_to None street) seen (has_begun trace.moves count street) (λ place at. dealt_there (is_seen_by trace viewer count) None street place at) trace.places

-- the text of a further round, by its board if that is dealt
abbrev behind_board : Option (List Slot) → (List Slot → List ℕ) → List ℕ
behind_board board text = option_map_or (λ slots. 47 ∷ text slots) board []

module _ (trace : TraceCore) (viewer count : ℕ) where
  round_by : (street : ℕ) (begun board : Bool) (text : List ℕ) → has_board (seen_places trace viewer count) street ≡ (begun && board)
      → behind_stroke (seen_places trace viewer count) street text ≡ behind_board (if begun then (if board then Some (dealt_slots trace.places None street) else None) else None) (λ slots. text)
  round_by street true true text is = ap (λ (b : Bool). if b then 47 ∷ text else []) is
  round_by street true false text is = ap (λ (b : Bool). if b then 47 ∷ text else []) is
  round_by street false board text is = ap (λ (b : Bool). if b then 47 ∷ text else []) is

  round_is : (street : ℕ) (text : List ℕ) → behind_stroke (seen_places trace viewer count) street text ≡ behind_board (board_begun trace count street) (λ slots. text)
  round_is street text = round_by street (has_begun trace.moves count street) (has_board trace.places street) text (seen_board trace viewer count street)

  board_by : (street : ℕ) (begun board : Bool) → has_board (seen_places trace viewer count) street ≡ (begun && board) → dealt_slots (seen_places trace viewer count) None street ≡ (if begun then dealt_slots trace.places None street else [])
      → behind_stroke (seen_places trace viewer count) street (spelling (dealt_slots (seen_places trace viewer count) None street)) ≡ behind_board (if begun then (if board then Some (dealt_slots trace.places None street) else None) else None) spelling
  board_by street true true is slots = ap (λ (b : Bool). if b then 47 ∷ spelling (dealt_slots (seen_places trace viewer count) None street) else []) is ∙ ap (λ (s : List Slot). 47 ∷ spelling s) slots
  board_by street true false is slots = ap (λ (b : Bool). if b then 47 ∷ spelling (dealt_slots (seen_places trace viewer count) None street) else []) is
  board_by street false board is slots = ap (λ (b : Bool). if b then 47 ∷ spelling (dealt_slots (seen_places trace viewer count) None street) else []) is

  board_is : (street : ℕ) → behind_stroke (seen_places trace viewer count) street (spelling (dealt_slots (seen_places trace viewer count) None street)) ≡ behind_board (board_begun trace count street) spelling
  board_is street =
      board_by street (has_begun trace.moves count street) (has_board trace.places street) (seen_board trace viewer count street)
      (seen_slots trace viewer count None street (has_begun trace.moves count street) refl)

-- the text of a seat's hole cards
abbrev hole_by : List Slot → List ℕ
hole_by slots = if list_any hides_card slots then [] else spelling slots

module _ (trace : TraceCore) (viewer count : ℕ) (goes_on : is_at_end trace count ≡ false) where
  others_hidden : (seat : ℕ) (own : Bool) → (seat == viewer) ≡ own → sees_seat trace viewer count seat ≡ own
  others_hidden seat true is = ap (λ (b : Bool). b || (is_at_end trace count && list_any (λ shown. shown == seat) trace.shown)) is
  others_hidden seat false is =
      ap (λ (b : Bool). b || (is_at_end trace count && list_any (λ shown. shown == seat) trace.shown)) is
      ∙ ap (λ (b : Bool). b && list_any (λ shown. shown == seat) trace.shown) goes_on

  hole_is : (seat : ℕ) (own : Bool) → (seat == viewer) ≡ own → hole_text (seen_places trace viewer count) seat ≡ hole_by (if own then dealt_slots trace.places (Some viewer) 1 else [])
  hole_is seat true is =
      ap hole_by (seen_slots trace viewer count (Some seat) 1 true (others_hidden seat true is) ∙ ap (λ (n : ℕ). dealt_slots trace.places (Some n) 1) (eqb-true seat viewer is))
  hole_is seat false is = ap hole_by (seen_slots trace viewer count (Some seat) 1 false (others_hidden seat false is))

-- the betting and the cards by what the seat can know: the moves so far, its hole cards, and the
-- boards of the three further rounds
abbrev Board : Type 0
Board = Option (List Slot)

abbrev known_betting : Bool → Setup → List Move → Board → Board → Board → List ℕ
known_betting no_limit setup moves flop turn river =
    letters_on no_limit setup 1 moves
    ++ (behind_board flop (λ slots. letters_on no_limit setup 2 moves)
    ++ (behind_board turn (λ slots. letters_on no_limit setup 3 moves)
    ++ (behind_board river (λ slots. letters_on no_limit setup 4 moves) ++ [])))

abbrev own_or_none : ℕ → List Slot → ℕ → List ℕ
own_or_none viewer own seat = hole_by (if seat == viewer then own else [])

abbrev known_cards_text : ℕ → ℕ → List Slot → Board → Board → Board → List ℕ
known_cards_text viewer seats own flop turn river =
    for_seats (own_or_none viewer own) seats ++ (behind_board flop spelling ++ (behind_board turn spelling ++ (behind_board river spelling ++ [])))

abbrev known_text : Bool → ℕ → Setup → List Move → List Slot → Board → Board → Board → List ℕ
known_text no_limit viewer setup moves own flop turn river =
    known_betting no_limit setup moves flop turn river ++ 58 ∷ known_cards_text viewer setup.stacks.seats own flop turn river

seat_texts : (one other : ℕ → List ℕ) → ((seat : ℕ) → one seat ≡ other seat) → (seats : List ℕ) → flat_map (λ seat. bar_before seat ++ one seat) seats ≡ flat_map (λ seat. bar_before seat ++ other seat) seats
seat_texts one other same [] = refl
seat_texts one other same (seat ∷ seats) =
    ap (λ (t : List ℕ). (bar_before seat ++ t) ++ flat_map (λ s. bar_before s ++ one s) seats) (same seat)
    ∙ ap (λ (t : List ℕ). (bar_before seat ++ other seat) ++ t) (seat_texts one other same seats)

module _ (no_limit : Bool) (setup : Setup) (trace : TraceCore) (viewer count : ℕ) where
  abbrev see : List TracedPlace
  see = seen_places trace viewer count

  abbrev at : ℕ → Board
  at street = board_begun trace count street

  betting_is : (moves : List Move) → betting_text no_limit setup (seen_places trace viewer count) moves ≡ known_betting no_limit setup moves (at 2) (at 3) (at 4)
  unfolding betting_text round_text
  betting_is moves =
      let letters : ℕ → List ℕ = λ street. letters_on no_limit setup street moves in
      ap (λ (t : List ℕ). letters 1 ++ (t ++ (behind_stroke see 3 (letters 3) ++ (behind_stroke see 4 (letters 4) ++ [])))) (round_is trace viewer count 2 (letters 2))
      ∙ ap (λ (t : List ℕ). letters 1 ++ (behind_board (at 2) (λ slots. letters 2) ++ (t ++ (behind_stroke see 4 (letters 4) ++ [])))) (round_is trace viewer count 3 (letters 3))
      ∙ ap (λ (t : List ℕ). letters 1 ++ (behind_board (at 2) (λ slots. letters 2) ++ (behind_board (at 3) (λ slots. letters 3) ++ (t ++ [])))) (round_is trace viewer count 4 (letters 4))

  abbrev spelled_at : ℕ → List ℕ
  spelled_at street = behind_stroke see street (spelling (dealt_slots see None street))

  boards_are : boards_text (seen_places trace viewer count) ≡ behind_board (at 2) spelling ++ (behind_board (at 3) spelling ++ (behind_board (at 4) spelling ++ []))
  unfolding boards_text board_text
  boards_are =
      ap (λ (t : List ℕ). t ++ (spelled_at 3 ++ (spelled_at 4 ++ []))) (board_is trace viewer count 2)
      ∙ ap (λ (t : List ℕ). behind_board (at 2) spelling ++ (t ++ (spelled_at 4 ++ []))) (board_is trace viewer count 3)
      ∙ ap (λ (t : List ℕ). behind_board (at 2) spelling ++ (behind_board (at 3) spelling ++ (t ++ []))) (board_is trace viewer count 4)

  cards_are : is_at_end trace count ≡ false → (seats : ℕ) → cards_text (seen_places trace viewer count) seats ≡ known_cards_text viewer seats (dealt_slots trace.places (Some viewer) 1) (at 2) (at 3) (at 4)
  unfolding cards_text holes_text
  cards_are goes_on seats =
      ap (λ (t : List ℕ). t ++ boards_text see)
      (seat_texts (hole_text see) (own_or_none viewer (dealt_slots trace.places (Some viewer) 1)) (λ seat. hole_is trace viewer count goes_on seat (seat == viewer) refl) (seats_of seats))
      ∙ ap (λ (t : List ℕ). for_seats (own_or_none viewer (dealt_slots trace.places (Some viewer) 1)) seats ++ t) boards_are

module _ (no_limit : Bool) (viewer count : ℕ) where
  text_is : (trace : Trace) → is_at_end (core_said trace) count ≡ false
      → seen_text no_limit trace viewer count ≡ known_text no_limit viewer trace.setup (plain_moves (take count (core_said trace).moves)) (dealt_slots (core_said trace).places (Some viewer) 1)
      (board_begun (core_said trace) count 2) (board_begun (core_said trace) count 3) (board_begun (core_said trace) count 4)
  unfolding seen_text
  text_is trace goes_on =
      let core = core_said trace in
      ap (λ (t : List ℕ). t ++ 58 ∷ cards_text (seen_places core viewer count) trace.setup.stacks.seats) (betting_is no_limit trace.setup core viewer count (plain_moves (take count core.moves)))
      ∙ ap (λ (t : List ℕ). known_betting no_limit trace.setup (plain_moves (take count core.moves)) (board_begun core count 2) (board_begun core count 3) (board_begun core count 4) ++ 58 ∷ t)
      (cards_are no_limit trace.setup core viewer count goes_on trace.setup.stacks.seats)

  goes_on_in : (trace : Trace) → count < length trace.moves → is_at_end (core_said trace) count ≡ false
  goes_on_in trace less =
      let same : length (core_said trace).moves ≡ length trace.moves = length-map trace.moves move_said in
      lt-leb (length (core_said trace).moves) count (omega (arith, less, same))

  same_text : (place : ℕ) (one other : Play) → AreAlikeTo viewer place count one other → seen_text no_limit one.trace viewer count ≡ seen_text no_limit other.trace viewer count
  same_text place one other alike =
      let a = core_said one.trace in
      let b = core_said other.trace in
      let own = dealt_slots a.places (Some viewer) 1 in
      let moves = plain_moves (take count b.moves) in
      text_is one.trace (goes_on_in one.trace alike.goes_on)
      ∙ ap (λ (s : Setup). known_text no_limit viewer s (plain_moves (take count a.moves)) own (board_begun a count 2) (board_begun a count 3) (board_begun a count 4)) alike.setup
      ∙ ap (λ (m : List TracedMove). known_text no_limit viewer other.trace.setup (plain_moves m) own (board_begun a count 2) (board_begun a count 3) (board_begun a count 4)) alike.moves
      ∙ ap (λ (c : List Slot). known_text no_limit viewer other.trace.setup moves c (board_begun a count 2) (board_begun a count 3) (board_begun a count 4)) alike.cards
      ∙ ap (λ (d : Board). known_text no_limit viewer other.trace.setup moves (dealt_slots b.places (Some viewer) 1) d (board_begun a count 3) (board_begun a count 4)) (alike.boards 2 (omega arith) (omega arith))
      ∙ ap (λ (d : Board). known_text no_limit viewer other.trace.setup moves (dealt_slots b.places (Some viewer) 1) (board_begun b count 2) d (board_begun a count 4)) (alike.boards 3 (omega arith) (omega arith))
      ∙ ap (λ (d : Board). known_text no_limit viewer other.trace.setup moves (dealt_slots b.places (Some viewer) 1) (board_begun b count 2) (board_begun b count 3) d) (alike.boards 4 (omega arith) (omega arith))
      ∙ sym (text_is other.trace (goes_on_in other.trace alike.other_goes_on))

  pub same_line : (place : ℕ) (one other : Play) → AreAlikeTo viewer place count one other → view_line no_limit viewer place one count ≡ view_line no_limit viewer place other count
  unfolding view_line head_text
  same_line place one other alike =
      ap (λ (h : List ℕ). (codes "MATCHSTATE:" ++ (decimal (viewer - 1) ++ 58 ∷ h)) ++ 58 ∷ (seen_text no_limit one.trace viewer count ++ 10 ∷ [])) alike.hand
      ∙ ap (λ (t : List ℕ). (codes "MATCHSTATE:" ++ (decimal (viewer - 1) ++ 58 ∷ hand_text place other.hand.notes.hand)) ++ 58 ∷ (t ++ 10 ∷ [])) (same_text place one other alike)
