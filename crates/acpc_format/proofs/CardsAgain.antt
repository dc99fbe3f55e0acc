-- Written cards are cut into those of each seat and those of each round, and read back.
use Rattle.std.proofs.Common.{◌≡◌, ℕ, zero, suc, ◌+◌, ◌≤◌, Bool, true, false, ◌&&◌, ◌||◌, ◌==◌, not, eqb, if◌then◌else◌, List, [], ◌∷◌, ◌++◌, length, map, Some, None, Ok, refl, sym, ap, ◌∙◌, arith, append_assoc, true≢false}
use Rattle.std.specs.List.{flat_map, list_any, range_with_len}
use Rattle.std.proofs.lemmas.Bool.{and_parts, eq-eqb}
use Rattle.std.proofs.lemmas.Bool.Decides.{nat_tests}
use Rattle.std.proofs.lemmas.List.{append-nil, length-append}
use Rattle.card_set.proofs.Spelled.{slots_spelled-spelling, length-slot_spelling}
use Rattle.card_set.specs.Known.{hides_card, known_among}
use Rattle.card_set.specs.Spelling.{slot_spelling, spelling}
use Rattle.card_set.specs.declared.card.Slot.{Slot}
use Rattle.card_set.specs.declared.card.Slot.TheVariants as slots
use Rattle.play_event.specs.CanonScript.{dealt_slots}
use Rattle.play_event.specs.Said as said
use Rattle.play_event.specs.Said.{Numbered}
use Rattle.play_event.specs.Trace.{TracedPlace}
use Rattle.acpc_game.specs.Parts.{parts_of}
use Rattle.acpc_format.specs.Cards.{board_text, boards_text, cards_text, hole_text, holes_text}
use Rattle.acpc_format.specs.Names.{may_stand}
use Rattle.acpc_format.specs.PlayFacts.{is_part_known}
use Rattle.acpc_format.specs.Rounds.{further_streets, has_board}
use Rattle.acpc_reading.specs.Cards.{board_said, hole_after, hole_said, holes_after, known_said}
use Rattle.acpc_format.proofs.Readable.{HasHoles}
use Rattle.acpc_format.proofs.Signs.{cards_plain, is_plain}
use Rattle.acpc_format.proofs.Splits.{Passes, cut, cut_seats, passes_none, passes_seats, passes_wider, whole}

-- a sign is no stroke
abbrev pub no_stroke : ℕ → Bool
no_stroke sign = not (sign == 47)

plain_no_stroke : (sign : ℕ) → is_plain sign ≡ true → no_stroke sign ≡ true
plain_no_stroke sign is = either (sign == 47) (sign == 46) (and_parts (may_stand sign) (not ((sign == 47) || (sign == 46))) is).1
  where
    either : (a b : Bool) → not (a || b) ≡ true → not a ≡ true
    either false b is = refl
    either true b is = absurd (true≢false (sym is))

-- the hole cards of a seat
pub hole_plain : (placed : List TracedPlace) (seat : ℕ) → Passes is_plain (hole_text placed seat)
hole_plain placed seat = by_known (list_any hides_card (dealt_slots placed (Some seat) 1))
  where
    by_known : (hidden : Bool) → Passes is_plain (if hidden then [] else spelling (dealt_slots placed (Some seat) 1))
    by_known true = passes_none is_plain
    by_known false = cards_plain (dealt_slots placed (Some seat) 1)

-- the cards of the board that were dealt for further rounds
abbrev pub boards_of : List TracedPlace → List ℕ → List (List ℕ)
boards_of placed streets = flat_map (λ street. if has_board placed street then spelling (dealt_slots placed None street) ∷ [] else []) streets

cut_boards : (placed : List TracedPlace) (front : List ℕ) (streets : List ℕ) → Passes no_stroke front
    → parts_of 47 (front ++ flat_map (board_text placed) streets) ≡ front ∷ boards_of placed streets
unfolding board_text
cut_boards placed front [] passes = ap (parts_of 47) (append-nil front) ∙ whole no_stroke 47 front refl passes
cut_boards placed front (street ∷ streets) passes =
    by_dealt (has_board placed street) (cut_boards placed (spelling (dealt_slots placed None street)) streets (passes_wider is_plain no_stroke (spelling (dealt_slots placed None street)) plain_no_stroke (cards_plain (dealt_slots placed None street)))) (cut_boards placed front streets passes)
  where
    cards : List ℕ
    cards = spelling (dealt_slots placed None street)

    by_dealt : (dealt : Bool) → parts_of 47 (cards ++ flat_map (board_text placed) streets) ≡ cards ∷ boards_of placed streets → parts_of 47 (front ++ flat_map (board_text placed) streets) ≡ front ∷ boards_of placed streets
        → parts_of 47 (front ++ ((if dealt then 47 ∷ cards else []) ++ flat_map (board_text placed) streets)) ≡ front ∷ ((if dealt then cards ∷ [] else []) ++ boards_of placed streets)
    by_dealt true behind without =
        cut no_stroke 47 front (cards ++ flat_map (board_text placed) streets) refl passes
        ∙ ap (λ (parts : List (List ℕ)). front ∷ parts) behind
    by_dealt false behind without = without

-- the cards are cut into hole cards and boards
pub cut_cards : (placed : List TracedPlace) (count : ℕ) → parts_of 47 (cards_text placed count) ≡ holes_text placed count ∷ boards_of placed further_streets
unfolding cards_text holes_text boards_text
cut_cards placed count =
    cut_boards placed (holes_text placed count) further_streets
    (passes_seats no_stroke (hole_text placed) 1 count count refl (omega arith) (omega arith) (λ seat low high. passes_wider is_plain no_stroke (hole_text placed seat) plain_no_stroke (hole_plain placed seat)))

-- the hole cards are cut at the bars
pub cut_holes : (placed : List TracedPlace) (count : ℕ) → 1 ≤ count → parts_of 124 (holes_text placed count) ≡ map (hole_text placed) (range_with_len 1 count)
unfolding holes_text
cut_holes placed count some = cut_seats is_plain (hole_text placed) count refl some (λ seat low high. hole_plain placed seat)

-- `count` known cards read back
pub known_again : (count : ℕ) (cards : List Slot) → length cards ≡ count → list_any hides_card cards ≡ false → known_said count (spelling cards) ≡ Some cards
unfolding known_said
known_again count cards counted known =
    rw (slots_spelled-spelling cards, eq-eqb (length cards) count counted, known) refl

pub board_again : (count : ℕ) (cards : List Slot) → length cards ≡ count → list_any hides_card cards ≡ false → board_said count (spelling cards) ≡ Some (known_among cards)
board_again count cards counted known = rw (known_again count cards counted known) refl

some_letters : (cards : List Slot) → length cards ≡ 2 → eqb (length (spelling cards)) 0 ≡ false
some_letters [] two = absurd (omega (arith, two))
some_letters (slot ∷ cards) two = grind (arith, nat_tests, length-append (slot_spelling slot) (spelling cards), length-slot_spelling slot)

both_hidden : (cards : List Slot) → length cards ≡ 2 → list_any hides_card cards ≡ true → (list_any hides_card cards && list_any (λ slot. not (hides_card slot)) cards) ≡ false → cards ≡ slots.Unknown ∷ slots.Unknown ∷ []
both_hidden [] two hidden whole = absurd (omega (arith, two))
both_hidden (a ∷ []) two hidden whole = absurd (omega (arith, two))
both_hidden (slots.Unknown ∷ slots.Unknown ∷ []) two hidden whole = refl
both_hidden (slots.Known card ∷ slots.Unknown ∷ []) two hidden whole = absurd (cc (whole))
both_hidden (slots.Unknown ∷ slots.Known card ∷ []) two hidden whole = absurd (cc (whole))
both_hidden (slots.Known card ∷ slots.Known other ∷ []) two hidden whole = absurd (cc (hidden))
both_hidden (a ∷ b ∷ c ∷ more) two hidden whole = absurd (omega (arith, two))

hole_again : (placed : List TracedPlace) (seat : ℕ) → length (dealt_slots placed (Some seat) 1) ≡ 2 → is_part_known placed seat ≡ false → hole_said (hole_text placed seat) ≡ Some (dealt_slots placed (Some seat) 1)
unfolding hole_said
hole_again placed seat two whole = by_known (list_any hides_card (dealt_slots placed (Some seat) 1)) refl
  where
    by_known : (hidden : Bool) → list_any hides_card (dealt_slots placed (Some seat) 1) ≡ hidden → hole_said (if hidden then [] else spelling (dealt_slots placed (Some seat) 1)) ≡ Some (dealt_slots placed (Some seat) 1)
    by_known true is = ap Some (sym (both_hidden (dealt_slots placed (Some seat) 1) two is whole))
    by_known false is = rw (some_letters (dealt_slots placed (Some seat) 1) two) (known_again 2 (dealt_slots placed (Some seat) 1) two is)

-- the deals of the hole cards of seats
abbrev pub hole_deals : List TracedPlace → ℕ → ℕ → List Numbered
hole_deals placed first count = map (λ seat. (0, said.Hole seat (dealt_slots placed (Some seat) 1))) (range_with_len first count)

pub holes_again : (placed : List TracedPlace) (seats at : ℕ) (events : List Numbered) (first count : ℕ) → HasHoles seats placed → 1 ≤ first → first + count ≤ seats + 1
    → holes_after at events first (map (hole_text placed) (range_with_len first count)) ≡ Ok (events ++ hole_deals placed first count)
unfolding holes_after hole_after
holes_again placed seats at events first zero has low high = ap Ok (sym (append-nil events))
holes_again placed seats at events first (suc count) has low high =
    let deal : Numbered = (0, said.Hole first (dealt_slots placed (Some first) 1)) in
    rw (hole_again placed first (has.two first low (omega (arith, high))) (has.whole first low (omega (arith, high))))
    (holes_again placed seats at (events ++ deal ∷ []) (first + 1) count has (omega (arith, low)) (omega (arith, high))
    ∙ ap Ok (append_assoc events (deal ∷ []) (hole_deals placed (first + 1) count)))
