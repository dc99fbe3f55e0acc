-- The counts after the canonical discards, deals and board of a street.
use Rattle.std.proofs.Common.{◌≡◌, ◌≢◌, ℕ, zero, suc, ◌+◌, ◌≤◌, ◌<◌, Bool, true, false, ◌&&◌, ◌||◌, ◌==◌, inl, inr, List, [], ◌∷◌, filter, length, refl, sym, ◌∙◌, ap, subst, arith, if◌then◌else◌}
use Rattle.std.specs.List.{range_with_len}
use Rattle.std.proofs.lemmas.Bool.{and_from, and_right, eq-eqb, ne_eqb, cases_eq, cases_lt}
use Rattle.card_set.specs.declared.card.Slot.{Slot}
use Rattle.play_event.specs.Past as past
use Rattle.play_event.specs.Past.{Past, moves_of, newest_street}
use Rattle.play_event.specs.Dealing.{hole_cards_dealt, board_cards_dealt, cards_discarded, has_drawn}
use Rattle.play_event.specs.Showing.{has_shown, has_mucked}
use Rattle.card_set.specs.Known.{known_among}
use Rattle.canon_laws.proofs.DealsRun.{with_deal, with_deals}
use Rattle.canon_laws.proofs.DrawRun.{with_discards}
use Rattle.canon_laws.proofs.BoardRun.{with_board}

-- what events of cards on a street do not change: the counts of other streets, moves and shows
pub record IsAside (street : ℕ) (before after : Past) : Type 0 where
  pub moves : moves_of after ≡ moves_of before
  pub newest : newest_street before ≤ street → newest_street after ≤ street
  pub holes : (other seat : ℕ) → street ≢ other → hole_cards_dealt after other seat ≡ hole_cards_dealt before other seat
  pub board : (other : ℕ) → street ≢ other → board_cards_dealt after other ≡ board_cards_dealt before other
  pub out : (other seat : ℕ) → street ≢ other → cards_discarded after other seat ≡ cards_discarded before other seat
  pub drawn : (other seat : ℕ) → street ≢ other → has_drawn after other seat ≡ has_drawn before other seat
  pub shown : (seat : ℕ) → has_shown after seat ≡ has_shown before seat
  pub mucked : (seat : ℕ) → has_mucked after seat ≡ has_mucked before seat

-- a past is unchanged from itself
pub aside_same : (street : ℕ) (before : Past) → IsAside street before before
aside_same street before = record { moves = refl; newest = λ on. on; holes = λ other seat differ. refl; board = λ other differ. refl; out = λ other seat differ. refl; drawn = λ other seat differ. refl; shown = λ seat. refl; mucked = λ seat. refl }

-- two steps that leave them unchanged are one such step
pub aside_more : (street : ℕ) (one two three : Past) → IsAside street one two → IsAside street two three → IsAside street one three
aside_more street one two three first second =
    record {
      moves = second.moves ∙ first.moves;
      newest = λ on. second.newest (first.newest on);
      holes = λ other seat differ. second.holes other seat differ ∙ first.holes other seat differ;
      board = λ other differ. second.board other differ ∙ first.board other differ;
      out = λ other seat differ. second.out other seat differ ∙ first.out other seat differ;
      drawn = λ other seat differ. second.drawn other seat differ ∙ first.drawn other seat differ;
      shown = λ seat. second.shown seat ∙ first.shown seat;
      mucked = λ seat. second.mucked seat ∙ first.mucked seat;
    }

off : (street other seat owner n : ℕ) → street ≢ other → (if (street == other) && (owner == seat) then n else 0) ≡ 0
off street other seat owner n differ = ap (λ b. if b && (owner == seat) then n else 0) (ne_eqb street other differ)

aside_deal : (street seat : ℕ) (cards : List Slot) (before : Past) → IsAside street before (past.Dealt street seat cards ∷ before)
aside_deal street owner cards before =
    record {
      moves = refl;
      newest = λ on. omega arith;
      holes = λ other seat differ. omega (arith, off street other seat owner (length cards) differ);
      board = λ other differ. refl;
      out = λ other seat differ. refl;
      drawn = λ other seat differ. refl;
      shown = λ seat. refl;
      mucked = λ seat. refl;
    }

aside_discard : (street seat : ℕ) (cards : List Slot) (before : Past) → IsAside street before (past.Discarded street seat cards ∷ before)
aside_discard street owner cards before =
    record {
      moves = refl;
      newest = λ on. omega arith;
      holes = λ other seat differ. refl;
      board = λ other differ. refl;
      out = λ other seat differ. omega (arith, off street other seat owner (length cards) differ);
      drawn = λ other seat differ. ap (λ b. (b && (owner == seat)) || has_drawn before other seat) (ne_eqb street other differ);
      shown = λ seat. refl;
      mucked = λ seat. refl;
    }

-- discards do not change the counts of other streets
pub aside_discards : (street : ℕ) (names : ℕ → List Slot) (seats : List ℕ) (before : Past) → IsAside street before (with_discards street names seats before)
aside_discards street names [] before = aside_same street before
aside_discards street names (seat ∷ rest) before =
    aside_more street before (past.Discarded street seat (names seat) ∷ before) (with_discards street names rest (past.Discarded street seat (names seat) ∷ before)) (aside_discard street seat (names seat) before) (aside_discards street names rest (past.Discarded street seat (names seat) ∷ before))

aside_one : (street seat : ℕ) (cards : List Slot) (before : Past) → IsAside street before (with_deal street seat cards before)
aside_one street seat [] before = aside_same street before
aside_one street seat (slot ∷ rest) before = aside_deal street seat (slot ∷ rest) before

-- so do deals
pub aside_deals : (street : ℕ) (cards : ℕ → List Slot) (seats : List ℕ) (before : Past) → IsAside street before (with_deals street cards seats before)
aside_deals street cards [] before = aside_same street before
aside_deals street cards (seat ∷ rest) before =
    aside_more street before (with_deal street seat (cards seat) before) (with_deals street cards rest (with_deal street seat (cards seat) before)) (aside_one street seat (cards seat) before) (aside_deals street cards rest (with_deal street seat (cards seat) before))

-- and the deal of the board
pub aside_board : (street : ℕ) (cards : List Slot) (before : Past) → IsAside street before (with_board street cards before)
aside_board street [] before = aside_same street before
aside_board street (slot ∷ rest) before =
    record {
      moves = refl;
      newest = λ on. omega arith;
      holes = λ other seat differ. refl;
      board = λ other differ. omega (arith, ap (λ b. if b then length (known_among (slot ∷ rest)) else 0) (ne_eqb street other differ));
      out = λ other seat differ. refl;
      drawn = λ other seat differ. refl;
      shown = λ seat. refl;
      mucked = λ seat. refl;
    }

-- on the street itself: discards deal nothing
pub discards_holes : (street : ℕ) (names : ℕ → List Slot) (seats : List ℕ) (before : Past) (on seat : ℕ) → hole_cards_dealt (with_discards street names seats before) on seat ≡ hole_cards_dealt before on seat
discards_holes street names [] before on seat = refl
discards_holes street names (first ∷ rest) before on seat = discards_holes street names rest (past.Discarded street first (names first) ∷ before) on seat

-- discards deal nothing to the board
pub discards_board : (street : ℕ) (names : ℕ → List Slot) (seats : List ℕ) (before : Past) (on : ℕ) → board_cards_dealt (with_discards street names seats before) on ≡ board_cards_dealt before on
discards_board street names [] before on = refl
discards_board street names (first ∷ rest) before on = discards_board street names rest (past.Discarded street first (names first) ∷ before) on

-- deals discard nothing
deal_out : (street first : ℕ) (cards : List Slot) (before : Past) (on seat : ℕ) → cards_discarded (with_deal street first cards before) on seat ≡ cards_discarded before on seat
deal_out street first [] before on seat = refl
deal_out street first (slot ∷ rest) before on seat = refl

-- deals discard nothing
pub deals_out : (street : ℕ) (cards : ℕ → List Slot) (seats : List ℕ) (before : Past) (on seat : ℕ) → cards_discarded (with_deals street cards seats before) on seat ≡ cards_discarded before on seat
deals_out street cards [] before on seat = refl
deals_out street cards (first ∷ rest) before on seat = deals_out street cards rest (with_deal street first (cards first) before) on seat ∙ deal_out street first (cards first) before on seat

deal_drawn : (street first : ℕ) (cards : List Slot) (before : Past) (on seat : ℕ) → has_drawn (with_deal street first cards before) on seat ≡ has_drawn before on seat
deal_drawn street first [] before on seat = refl
deal_drawn street first (slot ∷ rest) before on seat = refl

-- nobody draws by a deal
pub deals_drawn : (street : ℕ) (cards : ℕ → List Slot) (seats : List ℕ) (before : Past) (on seat : ℕ) → has_drawn (with_deals street cards seats before) on seat ≡ has_drawn before on seat
deals_drawn street cards [] before on seat = refl
deals_drawn street cards (first ∷ rest) before on seat = deals_drawn street cards rest (with_deal street first (cards first) before) on seat ∙ deal_drawn street first (cards first) before on seat

deal_board : (street first : ℕ) (cards : List Slot) (before : Past) (on : ℕ) → board_cards_dealt (with_deal street first cards before) on ≡ board_cards_dealt before on
deal_board street first [] before on = refl
deal_board street first (slot ∷ rest) before on = refl

-- deals to seats deal nothing to the board
pub deals_board : (street : ℕ) (cards : ℕ → List Slot) (seats : List ℕ) (before : Past) (on : ℕ) → board_cards_dealt (with_deals street cards seats before) on ≡ board_cards_dealt before on
deals_board street cards [] before on = refl
deals_board street cards (first ∷ rest) before on = deals_board street cards rest (with_deal street first (cards first) before) on ∙ deal_board street first (cards first) before on

-- what a seat was dealt
deal_other : (street first : ℕ) (cards : List Slot) (before : Past) (seat : ℕ) → (first ≡ seat → ⊥) → hole_cards_dealt (with_deal street first cards before) street seat ≡ hole_cards_dealt before street seat
deal_other street first [] before seat differ = refl
deal_other street first (slot ∷ rest) before seat differ = omega (arith, ap (λ b. if b then length (slot ∷ rest) else 0) (and_right (street == street) (first == seat) (ne_eqb first seat differ)))

deal_own : (street first : ℕ) (cards : List Slot) (before : Past) → hole_cards_dealt (with_deal street first cards before) street first ≡ length cards + hole_cards_dealt before street first
deal_own street first [] before = omega arith
deal_own street first (slot ∷ rest) before = omega (arith, ap (λ b. if b then length (slot ∷ rest) else 0) (and_from (street == street) (first == first) (eq-eqb street street refl) (eq-eqb first first refl)))

below_range : (street : ℕ) (cards : ℕ → List Slot) (first count : ℕ) (before : Past) (seat : ℕ) → seat < first → hole_cards_dealt (with_deals street cards (range_with_len first count) before) street seat ≡ hole_cards_dealt before street seat
below_range street cards first zero before seat less = refl
below_range street cards first (suc count) before seat less =
    below_range street cards (first + 1) count (with_deal street first (cards first) before) seat (omega (arith, less))
    ∙ deal_other street first (cards first) before seat (λ same. omega (arith, same, less))

-- what the deals of a street dealt to a seat
pub deals_holes : (street : ℕ) (cards : ℕ → List Slot) (first count : ℕ) (before : Past) (seat : ℕ) → first ≤ seat → seat < first + count → hole_cards_dealt (with_deals street cards (range_with_len first count) before) street seat ≡ length (cards seat) + hole_cards_dealt before street seat
deals_holes street cards first zero before seat least most = absurd (omega (arith, least, most))
deals_holes street cards first (suc count) before seat least most = elim (cases_eq first seat) [
  | inl same ↦
      let P : ℕ → Type 0 = λ s. hole_cards_dealt (with_deals street cards (range_with_len (first + 1) count) (with_deal street first (cards first) before)) street s ≡ length (cards s) + hole_cards_dealt before street s in
      subst P same (below_range street cards (first + 1) count (with_deal street first (cards first) before) first (omega arith) ∙ deal_own street first (cards first) before)
  | inr differ ↦
      deals_holes street cards (first + 1) count (with_deal street first (cards first) before) seat (above differ) (omega (arith, most))
      ∙ ap (λ n. length (cards seat) + n) (deal_other street first (cards first) before seat differ)
]
  where
    above : (first ≡ seat → ⊥) → first + 1 ≤ seat
    above differ = elim (cases_lt first seat) [ inl less ↦ omega (arith, less) | inr more ↦ absurd (differ (omega (arith, more, least))) ]

-- the board
pub board_holes : (street : ℕ) (cards : List Slot) (before : Past) (on seat : ℕ) → hole_cards_dealt (with_board street cards before) on seat ≡ hole_cards_dealt before on seat
board_holes street [] before on seat = refl
board_holes street (slot ∷ rest) before on seat = refl

-- the board discards nothing
pub board_out : (street : ℕ) (cards : List Slot) (before : Past) (on seat : ℕ) → cards_discarded (with_board street cards before) on seat ≡ cards_discarded before on seat
board_out street [] before on seat = refl
board_out street (slot ∷ rest) before on seat = refl

-- nobody draws by the deal of the board
pub board_drawn : (street : ℕ) (cards : List Slot) (before : Past) (on seat : ℕ) → has_drawn (with_board street cards before) on seat ≡ has_drawn before on seat
board_drawn street [] before on seat = refl
board_drawn street (slot ∷ rest) before on seat = refl

-- what the deal of the board dealt
pub board_own : (street : ℕ) (cards : List Slot) (before : Past) → length (known_among cards) ≡ length cards → board_cards_dealt (with_board street cards before) street ≡ length cards + board_cards_dealt before street
board_own street [] before known = omega arith
board_own street (slot ∷ rest) before known = omega (arith, known, ap (λ b. if b then length (known_among (slot ∷ rest)) else 0) (eq-eqb street street refl))

-- discards of seats: each seat of a list once
out_below : (street : ℕ) (names : ℕ → List Slot) (p : ℕ → Bool) (first count : ℕ) (before : Past) (seat : ℕ) → seat < first → cards_discarded (with_discards street names (filter p (range_with_len first count)) before) street seat ≡ cards_discarded before street seat
out_below street names p first zero before seat less = refl
out_below street names p first (suc count) before seat less = by_first (p first) (λ b. out_below street names p (first + 1) count b seat (omega (arith, less)))
  where
    by_first : (b : Bool) → ((start : Past) → cards_discarded (with_discards street names (filter p (range_with_len (first + 1) count)) start) street seat ≡ cards_discarded start street seat) → cards_discarded (with_discards street names (if b then (first ∷ filter p (range_with_len (first + 1) count)) else filter p (range_with_len (first + 1) count)) before) street seat ≡ cards_discarded before street seat
    by_first true go = go (past.Discarded street first (names first) ∷ before) ∙ (omega (arith, ap (λ b. if b then length (names first) else 0) (and_right (street == street) (first == seat) (ne_eqb first seat (λ same. omega (arith, same, less))))))
    by_first false go = go before

-- what the discards of a street discarded
pub discards_own : (street : ℕ) (names : ℕ → List Slot) (p : ℕ → Bool) (first count : ℕ) (before : Past) (seat : ℕ) → first ≤ seat → seat < first + count → cards_discarded (with_discards street names (filter p (range_with_len first count)) before) street seat ≡ (if p seat then length (names seat) else 0) + cards_discarded before street seat
discards_own street names p first zero before seat least most = absurd (omega (arith, least, most))
discards_own street names p first (suc count) before seat least most = by_first (p first) refl (λ b. out_below street names p (first + 1) count b seat) (λ b above. discards_own street names p (first + 1) count b seat above (omega (arith, most)))
  where
    by_first : (b : Bool) → p first ≡ b → ((start : Past) → seat < first + 1 → cards_discarded (with_discards street names (filter p (range_with_len (first + 1) count)) start) street seat ≡ cards_discarded start street seat) → ((start : Past) → first + 1 ≤ seat → cards_discarded (with_discards street names (filter p (range_with_len (first + 1) count)) start) street seat ≡ (if p seat then length (names seat) else 0) + cards_discarded start street seat) → cards_discarded (with_discards street names (if b then (first ∷ filter p (range_with_len (first + 1) count)) else filter p (range_with_len (first + 1) count)) before) street seat ≡ (if p seat then length (names seat) else 0) + cards_discarded before street seat
    by_first true here below above = elim (cases_eq first seat) [
      | inl same ↦
          let mine : (street == street) && (first == seat) ≡ true = and_from (street == street) (first == seat) (eq-eqb street street refl) (eq-eqb first seat same) in
          omega (arith, below (past.Discarded street first (names first) ∷ before) (omega (arith, same)), ap (λ b. if b then length (names first) else 0) mine, ap (λ s. length (names s)) same, ap (λ b. if b then length (names seat) else 0) (ap p (sym same) ∙ here))
      | inr differ ↦ omega (arith, above (past.Discarded street first (names first) ∷ before) (past_it differ), ap (λ b. if b then length (names first) else 0) (and_right (street == street) (first == seat) (ne_eqb first seat differ)))
    ]
      where
        past_it : (first ≡ seat → ⊥) → first + 1 ≤ seat
        past_it differ = elim (cases_lt first seat) [ inl less ↦ omega (arith, less) | inr more ↦ absurd (differ (omega (arith, more, least))) ]
    by_first false here below above = elim (cases_eq first seat) [
      | inl same ↦ omega (arith, below before (omega (arith, same)), ap (λ b. if b then length (names seat) else 0) (ap p (sym same) ∙ here))
      | inr differ ↦ above before (past_it differ)
    ]
      where
        past_it : (first ≡ seat → ⊥) → first + 1 ≤ seat
        past_it differ = elim (cases_lt first seat) [ inl less ↦ omega (arith, less) | inr more ↦ absurd (differ (omega (arith, more, least))) ]
