-- What a seat saw of one more hand.
use Rattle.std.proofs.Common.{◌≡◌, ◌⊎◌, ◌≤◌, ◌<◌, ◌+◌, Bool, true, false, ℕ, List, [], ◌∷◌, ◌++◌, length, append_assoc, append-nil, length-append, inl, inr, sym, ap, ◌∙◌, arith, true≢false}
use Rattle.acpc_game.specs.declared.game.Game.{Game}
use Rattle.acpc_view.specs.View.{views_text}
use Rattle.chip_ledger.specs.declared.numbers.Seat.{Seat}
use Rattle.hand_canon.specs.declared.trace.Play.{Play}
use Rattle.poker_cli.specs.Views.{AreSeen, each_view, most_view_bytes}

module _ (game : Game) (seat : Seat) where
  -- the lines of one more hand come after the others
  each_more : (place : ℕ) (plays : List Play) (play : Play)
      → each_view game seat place (plays ++ play ∷ []) ≡ each_view game seat place plays ++ views_text game.no_limit seat.number (place + length plays) play
  unfolding each_view
  each_more place [] play =
      let here : place ≡ place + 0 = omega arith in
      append-nil (views_text game.no_limit seat.number place play) ∙ ap (λ (n : ℕ). views_text game.no_limit seat.number n play) here
  each_more place (first ∷ rest) play =
      let here : place + 1 + length rest ≡ place + length (first ∷ rest) = omega arith in
      ap (λ (lines : List ℕ). views_text game.no_limit seat.number place first ++ lines)
      (each_more (place + 1) rest play ∙ ap (λ (n : ℕ). each_view game seat (place + 1) rest ++ views_text game.no_limit seat.number n play) here)
      ∙ sym (append_assoc (views_text game.no_limit seat.number place first) (each_view game seat (place + 1) rest)
      (views_text game.no_limit seat.number (place + length (first ∷ rest)) play))

  module _ (place : ℕ) (before : List Play) (play : Play) (counted : length before ≡ place) where
    abbrev old : List ℕ
    old = each_view game seat 0 before

    abbrev new : List ℕ
    new = each_view game seat 0 (before ++ play ∷ [])

    abbrev its : List ℕ
    its = views_text game.no_limit seat.number place play

    -- those of one more hand
    now : new ≡ old ++ its
    now =
        let here : 0 + length before ≡ place = omega (arith, counted) in
        each_more 0 before play ∙ ap (λ (n : ℕ). old ++ views_text game.no_limit seat.number n play) here

    long : length new ≡ length old + length its
    long = ap length now ∙ length-append old its

    -- what is not kept stays so
    pub not_kept_more : (kept : Bool) (lines : List ℕ) → kept ≡ false → AreSeen game seat kept lines before
        → AreSeen game seat kept lines (before ++ play ∷ [])
    not_kept_more kept lines not seen = record {
      all = λ is. absurd (true≢false (sym is ∙ not));
      few = λ is. absurd (true≢false (sym is ∙ not));
      not_kept = λ is. longer (seen.not_kept is);
    }
      where
        longer : (game.stacks.seats < seat.number) ⊎ (most_view_bytes < length old) → (game.stacks.seats < seat.number) ⊎ (most_view_bytes < length new)
        longer (inl none) = inl none
        longer (inr many) = inr (omega (arith, many, long))

    -- lines that exceed the limit are dropped
    pub dropped_more : (kept : Bool) (lines left : List ℕ) → kept ≡ true → AreSeen game seat kept lines before
        → most_view_bytes < length lines + length its
        → AreSeen game seat false left (before ++ play ∷ [])
    dropped_more kept lines left is seen many = record {
      all = λ not. absurd (true≢false (sym not));
      few = λ not. absurd (true≢false (sym not));
      not_kept = λ not. inr (omega (arith, many, long, ap length (seen.all is)));
    }

    -- and others are kept
    pub kept_more : (kept : Bool) (lines more : List ℕ) → kept ≡ true → AreSeen game seat kept lines before
        → length lines + length its ≤ most_view_bytes → more ≡ lines ++ its
        → AreSeen game seat kept more (before ++ play ∷ [])
    kept_more kept lines more is seen few put = record {
      all = λ same. put ∙ ap (λ (l : List ℕ). l ++ its) (seen.all is) ∙ sym now;
      few = λ same. omega (arith, few, long, ap length (seen.all is));
      not_kept = λ not. absurd (true≢false (sym is ∙ not));
    }

-- before the first hand
pub none_seen : (game : Game) (seat : Seat) (kept : Bool) (lines : List ℕ) → (kept ≡ false → game.stacks.seats < seat.number) → lines ≡ []
    → AreSeen game seat kept lines []
unfolding each_view
none_seen game seat kept lines none empty = record { all = λ is. empty; few = λ is. omega arith; not_kept = λ not. inl (none not) }

-- lines of a seat that the game has, if they are not kept, exceed the limit
pub are_many : (game : Game) (seat : Seat) (kept : Bool) (lines : List ℕ) (plays : List Play) → AreSeen game seat kept lines plays
    → seat.number ≤ game.stacks.seats → kept ≡ false → most_view_bytes < length (each_view game seat 0 plays)
are_many game seat kept lines plays seen there not = by (seen.not_kept not)
  where
    by : (game.stacks.seats < seat.number) ⊎ (most_view_bytes < length (each_view game seat 0 plays)) → most_view_bytes < length (each_view game seat 0 plays)
    by (inl none) = absurd (omega (arith, none, there))
    by (inr many) = many
