-- Games that the definitions see as equal are equal.
use Rattle.std.proofs.Common.{◌≡◌, ℕ, ◌-◌, Bool, true, false, List, length, get_or, Option, sym, subst, ap, ◌∙◌, arith}
use Rattle.std.proofs.Props.{props}
use Rattle.std.proofs.lemmas.List.{get_or-take, length-take-le}
use Rattle.chip_ledger.specs.declared.seat_row.SeatRow.{SeatRow}
use Rattle.chip_ledger.specs.Greatest.{greatest}
use Rattle.chip_ledger.proofs.Same.{seat_row_same_by_seats}
use Rattle.acpc_game.specs.declared.game.Game.{Game}
use Rattle.acpc_game.specs.GameFile.{GameSaid, has_short_stack, is_reversed}
use Rattle.acpc_game.specs.GameView.{game_in}
use Rattle.acpc_game.specs.Games.{are_chips, has_fitting_sizes}
use Rattle.chip_ledger.specs.SeatRow.{amounts_in}

-- rows with the same amounts are equal
rows_same : (a b : SeatRow) → amounts_in a ≡ amounts_in b → a ≡ b
rows_same a b same =
    let seats : a.seats ≡ b.seats =
    sym (length-take-le a.seats a.amounts (omega (arith, a.greatest, a.full)))
    ∙ ap length same
    ∙ length-take-le b.seats b.amounts (omega (arith, b.greatest, b.full)) in
    seat_row_same_by_seats a b seats
    (λ n first last.
    sym (get_or-take a.seats a.amounts (n - 1) 0 (omega (arith, first, last)))
    ∙ ap (λ (amounts : List ℕ). get_or amounts (n - 1) 0) same
    ∙ get_or-take b.seats b.amounts (n - 1) 0 (omega (arith, first, last, seats)))

-- a game is the one that its file gives
record KeptGame (no_limit : Bool) (stacks blinds : SeatRow) (small big : ℕ) : Type 0 where
  one_row : blinds.seats ≡ stacks.seats
  few : are_chips (amounts_in stacks) ≡ true
  few_blinds : are_chips (amounts_in blinds) ≡ true
  stacked : has_short_stack (amounts_in stacks) (amounts_in blinds) ≡ false
  in_order : is_reversed (amounts_in blinds) ≡ false
  sizes : has_fitting_sizes no_limit (greatest (amounts_in blinds)) small big ≡ true

KeptGame-prop : (no_limit : Bool) (stacks blinds : SeatRow) (small big : ℕ) → IsProp (KeptGame no_limit stacks blinds small big)
KeptGame-prop no_limit stacks blinds small big = hlevel props

game_from : (no_limit : Bool) (stacks blinds : SeatRow) (small big : ℕ) → Option (List ℕ) → KeptGame no_limit stacks blinds small big → Game
game_from no_limit stacks blinds small big caps kept =
    record {
      no_limit = no_limit;
      stacks = stacks;
      blinds = blinds;
      small_raise = small;
      big_raise = big;
      caps = caps;
      one_row = kept.one_row;
      few = kept.few;
      few_blinds = kept.few_blinds;
      stacked = kept.stacked;
      in_order = kept.in_order;
      sizes = kept.sizes;
    }

kept_game : (g : Game) → KeptGame g.no_limit g.stacks g.blinds g.small_raise g.big_raise
kept_game g =
    record { one_row = g.one_row; few = g.few; few_blinds = g.few_blinds; stacked = g.stacked; in_order = g.in_order; sizes = g.sizes }

pub one_game : (g h : Game) → game_in g ≡ game_in h → g ≡ h
unfolding game_from kept_game
one_game g h same =
    let P : Bool → SeatRow → SeatRow → ℕ → ℕ → Option (List ℕ) → Type 0 = λ no_limit stacks blinds small big caps.
    (kept : KeptGame no_limit stacks blinds small big) → g ≡ game_from no_limit stacks blinds small big caps kept in
    let here : P g.no_limit g.stacks g.blinds g.small_raise g.big_raise g.caps = λ kept.
    ap (game_from g.no_limit g.stacks g.blinds g.small_raise g.big_raise g.caps)
    (KeptGame-prop g.no_limit g.stacks g.blinds g.small_raise g.big_raise (kept_game g) kept) in
    subst (λ caps. P h.no_limit h.stacks h.blinds h.small_raise h.big_raise caps) (ap (λ (said : GameSaid). said.caps) same)
    (subst (λ big. P h.no_limit h.stacks h.blinds h.small_raise big g.caps) (ap (λ (said : GameSaid). said.big_raise) same)
    (subst (λ small. P h.no_limit h.stacks h.blinds small g.big_raise g.caps) (ap (λ (said : GameSaid). said.small_raise) same)
    (subst (λ blinds. P h.no_limit h.stacks blinds g.small_raise g.big_raise g.caps) (rows_same g.blinds h.blinds (ap (λ (said : GameSaid). said.blinds) same))
    (subst (λ stacks. P h.no_limit stacks g.blinds g.small_raise g.big_raise g.caps) (rows_same g.stacks h.stacks (ap (λ (said : GameSaid). said.stacks) same))
    (subst (λ no_limit. P no_limit g.stacks g.blinds g.small_raise g.big_raise g.caps) (ap (λ (said : GameSaid). said.no_limit) same) here)))))
    (kept_game h)
