-- Players who sit one after the other, going round.
use Rattle.std.proofs.Common.{◌≡◌, ℕ, suc, ◌+◌, ◌-◌, ◌<◌, ◌≤◌, List, [], ◌∷◌, ◌++◌, sym, ap, ◌∙◌, append_assoc, arith}
use Rattle.std.proofs.lemmas.List.{append-nil}
use Rattle.ohh_members.specs.Players.{PlainPlayer, next_player, round_from}

-- one more player sits
pub sits : (players front : List PlainPlayer) (player next : PlainPlayer) (n i : ℕ) (whole : List PlainPlayer)
    → i < n → next ≡ next_player players player
    → front ++ round_from players player (n - i) ≡ whole
    → (front ++ next ∷ []) ++ round_from players next (n - (i + 1)) ≡ whole
sits players front player next n i whole within is so_far =
    let left : n - i ≡ suc (n - (i + 1)) = omega (arith, within) in
    append_assoc front (next ∷ []) (round_from players next (n - (i + 1)))
    ∙ ap (λ p. front ++ p ∷ round_from players p (n - (i + 1))) is
    ∙ ap (λ count. front ++ round_from players player count) (sym left)
    ∙ so_far

-- all players sit
pub all_sit : (players front : List PlainPlayer) (player : PlainPlayer) (n i : ℕ) (whole : List PlainPlayer)
    → n ≤ i → front ++ round_from players player (n - i) ≡ whole → front ≡ whole
all_sit players front player n i whole past so_far =
    let none : n - i ≡ 0 = omega (arith, past) in
    sym (append-nil front) ∙ ap (λ count. front ++ round_from players player count) (sym none) ∙ so_far
