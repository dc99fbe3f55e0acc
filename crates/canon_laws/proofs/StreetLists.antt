-- The moves of a street, and streets that no event reached.
use Rattle.std.proofs.Common.{◌≡◌, ℕ, ◌+◌, Bool, true, false, ◌&&◌, ◌||◌, ◌==◌, nat_lt, inl, inr, ◌⊎◌, List, [], ◌∷◌, length, refl, sym, ◌∙◌, ap, subst, arith, if◌then◌else◌}
use Rattle.std.specs.List.{list_any}
use Rattle.std.proofs.lemmas.Bool.{or_parts, ltb-true, eqb-true}
use Rattle.card_set.specs.declared.card.Slot.{Slot}
use Rattle.play_event.specs.declared.setup.Setup.{Setup}
use Rattle.play_event.specs.declared.setup.Rules.{Rules}
use Rattle.play_event.specs.Past as past
use Rattle.play_event.specs.Past.{Past, Move, Dealt, Boarded, Moved, Discarded, Shown, Mucked, moves_of, newest_street, moves_before}
use Rattle.play_event.specs.Dealing.{hole_cards_dealt, board_cards_dealt, has_drawn}
use Rattle.play_event.specs.Places.{Place}
use Rattle.play_laws.specs.PastLaws.{AreReached, is_played_on}
use Rattle.play_laws.proofs.DoneKept.{all_early}
use Rattle.play_laws.proofs.MovesLaw.{MovesLaw}
use Rattle.canon_laws.proofs.MovesRun.{AreAllOn, with_moves}
use Rattle.canon_laws.proofs.StreetMoves.{AreFalling, own_moves}
use Rattle.canon_laws.proofs.DealsRun.{with_deal, with_deals}
use Rattle.canon_laws.proofs.DrawRun.{with_discards}
use Rattle.canon_laws.proofs.BoardRun.{with_board}
use Rattle.card_set.proofs.Tests.{false_true}

-- moves before a street keep their law
law_at : (setup : Setup) (rules : Rules) (placed : List Place) (street : ℕ) (first : Move) (older : List Move) → MovesLaw setup rules placed (first ∷ older) → AreReached first.street older → MovesLaw setup rules placed (moves_before street older) → (b : Bool) → nat_lt first.street street ≡ b → MovesLaw setup rules placed (if b then (first ∷ moves_before street older) else moves_before street older)
law_at setup rules placed street first older law reached later true less =
    let P : List Move → Type 0 = λ l. MovesLaw setup rules placed (first ∷ l) in
    subst P (sym (all_early first.street street older reached (ltb-true first.street street less))) law
law_at setup rules placed street first older law reached later false less = later

-- moves that fit still fit up to a street
pub law_before : (setup : Setup) (rules : Rules) (placed : List Place) (street : ℕ) (list : List Move) → AreFalling list → MovesLaw setup rules placed list → MovesLaw setup rules placed (moves_before street list)
law_before setup rules placed street [] falling law = tt
law_before setup rules placed street (first ∷ older) falling law =
    law_at setup rules placed street first older law falling.0 (law_before setup rules placed street older falling.1 law.1) (nat_lt first.street street) refl

on_step : (street : ℕ) (first : Move) (rest : List Move) (b : Bool) → (first.street == street) ≡ b → AreAllOn street rest → AreAllOn street (if b then (first ∷ rest) else rest)
on_step street first rest true is later = (eqb-true first.street street is, later)
on_step street first rest false is later = later

-- a street's own moves are of this street
pub own_on : (street : ℕ) (list : List Move) → AreAllOn street (own_moves street list)
own_on street [] = tt
own_on street (first ∷ rest) = on_step street first (own_moves street rest) (first.street == street) refl (own_on street rest)

-- a street that no event reached
pub record IsUnplayed (street : ℕ) (before : Past) : Type 0 where
  pub own : own_moves street (moves_of before) ≡ []
  pub holes : (seat : ℕ) → hole_cards_dealt before street seat ≡ 0
  pub board : board_cards_dealt before street ≡ 0
  pub drawn : (seat : ℕ) → has_drawn before street seat ≡ false

dealt_off : (b c : Bool) (n m : ℕ) → b ≡ false → m ≡ 0 → (if b && c then n else 0) + m ≡ 0
dealt_off true c n m off none = false_true (sym off)
dealt_off false c n m off none = omega (arith, none)

-- a street without an event has no cards, no draws and no moves
pub unplayed : (street : ℕ) (before : Past) → list_any (is_played_on street) before ≡ false → IsUnplayed street before
unplayed street [] none = record { own = refl; holes = λ seat. refl; board = refl; drawn = λ seat. refl }
unplayed street (Dealt on owner cards ∷ before) none =
    let parts = or_parts (on == street) (list_any (is_played_on street) before) none in
    let it = unplayed street before parts.1 in
    record { own = it.own; holes = λ seat. dealt_off (on == street) (owner == seat) (length cards) (hole_cards_dealt before street seat) parts.0 (it.holes seat); board = it.board; drawn = it.drawn }
unplayed street (Boarded on cards ∷ before) none =
    let parts = or_parts (on == street) (list_any (is_played_on street) before) none in
    let it = unplayed street before parts.1 in
    record { own = it.own; holes = it.holes; board = omega (arith, ap {B = ℕ} (λ b. if b then length cards else 0) parts.0, it.board); drawn = it.drawn }
unplayed street (Moved move ∷ before) none =
    let parts = or_parts (move.street == street) (list_any (is_played_on street) before) none in
    let it = unplayed street before parts.1 in
    record { own = ap (λ b. if b then (move ∷ own_moves street (moves_of before)) else own_moves street (moves_of before)) parts.0 ∙ it.own; holes = it.holes; board = it.board; drawn = it.drawn }
unplayed street (Discarded on owner cards ∷ before) none =
    let parts = or_parts (on == street) (list_any (is_played_on street) before) none in
    let it = unplayed street before parts.1 in
    record { own = it.own; holes = it.holes; board = it.board; drawn = λ seat. ap (λ b. (b && (owner == seat)) || has_drawn before street seat) parts.0 ∙ it.drawn seat }
unplayed street (Shown on owner cards ∷ before) none = let it = unplayed street before none in record { own = it.own; holes = it.holes; board = it.board; drawn = it.drawn }
unplayed street (Mucked on owner ∷ before) none = let it = unplayed street before none in record { own = it.own; holes = it.holes; board = it.board; drawn = it.drawn }

-- a block of events of a street is empty, or its street is the newest
abbrev pub IsBlock : ℕ → Past → Past → Type 0
IsBlock street before after = (after ≡ before) ⊎ (newest_street after ≡ street)

-- one block after another is a block
pub block_more : (street : ℕ) (one two three : Past) → IsBlock street one two → IsBlock street two three → IsBlock street one three
block_more street one two three first (inr on) = inr on
block_more street one two three (inl same) (inl again) = inl (again ∙ same)
block_more street one two three (inr on) (inl again) = inr (ap newest_street again ∙ on)

-- discards of a street are a block
pub discards_block : (street : ℕ) (names : ℕ → List Slot) (seats : List ℕ) (before : Past) → IsBlock street before (with_discards street names seats before)
discards_block street names [] before = inl refl
discards_block street names (seat ∷ rest) before = inr (on street names rest (past.Discarded street seat (names seat) ∷ before) refl)
  where
    on : (street : ℕ) (names : ℕ → List Slot) (seats : List ℕ) (start : Past) → newest_street start ≡ street → newest_street (with_discards street names seats start) ≡ street
    on street names [] start is = is
    on street names (seat ∷ rest) start is = on street names rest (past.Discarded street seat (names seat) ∷ start) refl

deal_block : (street seat : ℕ) (cards : List Slot) (before : Past) → IsBlock street before (with_deal street seat cards before)
deal_block street seat [] before = inl refl
deal_block street seat (slot ∷ rest) before = inr refl

-- so are its deals
pub deals_block : (street : ℕ) (cards : ℕ → List Slot) (seats : List ℕ) (before : Past) → IsBlock street before (with_deals street cards seats before)
deals_block street cards [] before = inl refl
deals_block street cards (seat ∷ rest) before =
    block_more street before (with_deal street seat (cards seat) before) (with_deals street cards rest (with_deal street seat (cards seat) before)) (deal_block street seat (cards seat) before) (deals_block street cards rest (with_deal street seat (cards seat) before))

-- its board
pub board_block : (street : ℕ) (cards : List Slot) (before : Past) → IsBlock street before (with_board street cards before)
board_block street [] before = inl refl
board_block street (slot ∷ rest) before = inr refl

-- and its moves
pub moves_block : (street : ℕ) (list : List Move) (before : Past) → AreAllOn street list → IsBlock street before (with_moves list before)
moves_block street [] before on = inl refl
moves_block street (move ∷ rest) before on = inr on.0
