-- What holds of each variant holds of the table of games, for each code.
-- This is a proof: no reader needs it.
use Rattle.std.proofs.Common.{◌≡◌, ℕ, length, refl, sym, ◌∙◌, subst, arith}
use Rattle.play_event.specs.declared.code.Code.{Code}
use Rattle.play_event.specs.declared.code.Code.TheVariants as games
use Rattle.play_event.specs.Games.{game_of}
use Rattle.card_set.specs.declared.pick.Pick.{Pick}
use Rattle.variant_table.specs.Orders.{Order, award_of, second_of}
use Rattle.variant_table.specs.Variants.{AreValuesOf, IsOrder, IsUsable, AddsUp}

-- an order is the same as itself
pub same_order : (order : Order) → IsOrder order order.held order.is_hand order.is_weaker
same_order order = record {
  held_is = refl;
  hand_is = λ cards. (λ hand. hand, λ hand. hand);
  weaker_is = λ a b. (λ weaker. weaker, λ weaker. weaker);
}

-- the streets deal a whole hand and board, and the deck has enough cards for a full table: this is
-- computed for each code
pub table_adds_up : (code : Code) → AddsUp (game_of code)
table_adds_up games.FT = record { hole = refl; board = refl; fits = omega arith }
table_adds_up _ = record { hole = refl; board = refl; fits = omega arith }

-- the pick of a game works on a whole hand and board, in the order of the award
award_can_pick : (code : Code) → IsUsable (game_of code) (award_of code).held (game_of code).pick
award_can_pick games.N2L1D = λ hole board holes boards. holes
award_can_pick games.F2L3D = λ hole board holes boards. holes
award_can_pick games.FB = λ hole board holes boards. holes
award_can_pick _ = λ hole board holes boards. (refl, omega arith, omega arith)

-- hands of both orders have the same number of cards
pub same_held : (code : Code) → (second_of code).held ≡ (award_of code).held
same_held games.FT = refl
same_held _ = refl

-- the pick of the game also works in an order whose hands have the same number of cards as the
-- award's
pub usable_award : (code : Code) (held : ℕ) (pick : Pick) → held ≡ (award_of code).held
    → pick ≡ (game_of code).pick → IsUsable (game_of code) held pick
usable_award code held pick same_held same_pick =
    subst (λ (p : Pick). IsUsable (game_of code) held p) (sym same_pick)
    (subst (λ (h : ℕ). IsUsable (game_of code) h (game_of code).pick) (sym same_held)
    (award_can_pick code))

-- or the same number as the second order's
pub usable_second : (code : Code) (held : ℕ) (pick : Pick) → held ≡ (second_of code).held
    → pick ≡ (game_of code).pick → IsUsable (game_of code) held pick
usable_second code held pick same same_pick =
    usable_award code held pick (same ∙ same_held code) same_pick

-- the values of a game are its own
pub values_of : (code : Code)
    → let game = game_of code in AreValuesOf game game.split game.pick game.limit game.opener
    game.deck game.seats (length game.streets)
values_of code =
    let game = game_of code in record {
      split_is = refl;
      pick_is = refl;
      limit_is = refl;
      opener_is = refl;
      deck_is = refl;
      seats_is = refl;
      streets_is = refl;
    }
