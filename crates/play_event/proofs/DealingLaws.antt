-- What the streets of a game deal, and what a seat dealt and discarded.
use Rattle.std.proofs.Common.{Bool, List, None, Option, [], ap, arith, false, filter, if◌then◌else◌, length, refl, suc, true, ℕ, ◌&&◌, ◌+◌, ◌==◌, ◌∷◌, ◌≡◌, ◌≤◌}
use Rattle.play_event.specs.Games.{street_count}
use Rattle.play_event.specs.declared.code.Code.{Code}
use Rattle.play_event.specs.declared.code.Code.TheVariants as games
use Rattle.std.proofs.lemmas.Bool.{or_parts}
use Rattle.play_event.specs.Past.{Boarded, Dealt, Discarded, Moved, Mucked, Past, Shown}
use Rattle.play_event.specs.Dealing.{cards_discarded, has_drawn}
use Rattle.card_set.specs.declared.card.Slot.{Slot}
use Rattle.play_event.specs.Places.{Place, is_in_group, is_same_owner, places_dealt}

-- each game has a street
pub some_street : (code : Code) → 1 ≤ street_count code
some_street games.FT = omega arith
some_street _ = omega arith

-- a seat that did not draw has discarded nothing
pub undrawn_none : (before : Past) (street seat : ℕ) → has_drawn before street seat ≡ false → cards_discarded before street seat ≡ 0
undrawn_none [] street seat is = refl
undrawn_none (Dealt on owner cards ∷ before) street seat is = undrawn_none before street seat is
undrawn_none (Boarded on cards ∷ before) street seat is = undrawn_none before street seat is
undrawn_none (Moved move ∷ before) street seat is = undrawn_none before street seat is
undrawn_none (Shown on owner cards ∷ before) street seat is = undrawn_none before street seat is
undrawn_none (Mucked on owner ∷ before) street seat is = undrawn_none before street seat is
undrawn_none (Discarded on owner cards ∷ before) street seat is =
    let parts = or_parts ((on == street) && (owner == seat)) (has_drawn before street seat) is in
    omega (arith, ap (λ b. if b then length cards else 0) parts.0, undrawn_none before street seat parts.1)

-- how many cards of a group a deal adds
pub dealt_group : (owner to : Option ℕ) (street on : ℕ) (late : Bool) (index number : ℕ) (cards : List Slot) → length (filter (is_in_group owner street) (places_dealt to on late index number cards)) ≡ (if is_same_owner to owner && (on == street) then length cards else 0)
dealt_group owner to street on late index number [] = by_pass (is_same_owner to owner && (on == street))
  where
    by_pass : (b : Bool) → ◌≡◌ {A = ℕ} 0 (if b then 0 else 0)
    by_pass true = refl
    by_pass false = refl
dealt_group owner to street on late index number (slot ∷ rest) = by_pass (is_same_owner to owner && (on == street)) (dealt_group owner to street on late (index + 1) (number + 1) rest)
  where
    place : Place
    place = record { owner = to; street = on; index = index; number = number; slot = slot; past_deck = late; gone_after = None; discarded = 0 }

    by_pass : (b : Bool) → length (filter (is_in_group owner street) (places_dealt to on late (index + 1) (number + 1) rest)) ≡ (if b then length rest else 0) → length (if b then (place ∷ filter (is_in_group owner street) (places_dealt to on late (index + 1) (number + 1) rest)) else filter (is_in_group owner street) (places_dealt to on late (index + 1) (number + 1) rest)) ≡ (if b then length (slot ∷ rest) else 0)
    by_pass true later = ap suc later
    by_pass false later = later
