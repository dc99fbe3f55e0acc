-- The names of players, one more after those so far.
use Rattle.std.proofs.Common.{◌≡◌, ℕ, ◌+◌, ◌<◌, ◌≤◌, List, [], ◌∷◌, ◌++◌, length, map, drop, get_or, Option, refl, sym, ap, ◌∙◌, append_assoc}
use Rattle.std.proofs.lemmas.List.{append-nil, drop_more, drop_all}
use Rattle.std.specs.Prelude.{option_and_then}
use Rattle.hand_canon.specs.AllowedNotes.{noted}
use Rattle.ohh_members.specs.declared.player.Player.{Player}
use Rattle.ohh_reading.specs.Notes.{names_from}
use Rattle.ohh_members.specs.Players.{plain_player}
use Rattle.chip_ledger.specs.SeatsSaid.{default_name}

-- one more name
pub name_read : (front : List (Option (List ℕ))) (players : List Player) (index : ℕ) (player : Player) (name : Option (List ℕ)) (whole : List (Option (List ℕ)))
    → index < length players → get_or players index player ≡ player
    → name ≡ option_and_then (noted (default_name (index + 1))) (plain_player player).name
    → front ++ names_from (index + 1) (map plain_player (drop index players)) ≡ whole
    → (front ++ name ∷ []) ++ names_from (index + 1 + 1) (map plain_player (drop (index + 1) players)) ≡ whole
name_read front players index player name whole within at is so_far =
    append_assoc front (name ∷ []) (names_from (index + 1 + 1) (map plain_player (drop (index + 1) players)))
    ∙ ap (λ n. front ++ n ∷ names_from (index + 1 + 1) (map plain_player (drop (index + 1) players))) is
    ∙ sym (rw (drop_more players index player within, at) refl)
    ∙ so_far

-- no player is left
pub names_read : (front : List (Option (List ℕ))) (players : List Player) (index : ℕ) (whole : List (Option (List ℕ))) → length players ≤ index
    → front ++ names_from (index + 1) (map plain_player (drop index players)) ≡ whole → front ≡ whole
names_read front players index whole le so_far =
    let done : front ++ names_from (index + 1) (map plain_player (drop index players)) ≡ front =
    rw (drop_all index players le) (append-nil front) in
    sym done ∙ so_far
