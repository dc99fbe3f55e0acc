-- What is read of the rows of moves is what is read of the moves.
use Rattle.std.proofs.Common.{◌≡◌, ℕ, ◌≤◌, nat_lt, ◌==◌, ◌&&◌, Bool, not, List, map, filter, reverse, sym, ap, ◌∙◌}
use Rattle.std.specs.List.{flat_map, list_any}
use Rattle.std.proofs.lemmas.List.{reverse-reverse}
use Rattle.chip_ledger.specs.declared.live_row.LiveRow.{LiveRow}
use Rattle.chip_ledger.specs.LiveRow.{flag_of}
use Rattle.card_set.proofs.Any.{list_any-filter, list_any-map}
use Rattle.card_set.proofs.Counting.{count_agree}
use Rattle.play_event.specs.declared.played.Move as rows
use Rattle.play_event.specs.declared.setup.Setup.{Setup}
use Rattle.play_event.specs.Past.{Move, moves_before}
use Rattle.play_event.specs.Played.{move_said}
use Rattle.play_event.specs.Seats as moved
use Rattle.play_event.specs.Seats.{is_live, live_count}
use Rattle.play_event.specs.CanonScript.{plain_move, plain_moves, moves_named, move_named}
use Rattle.hand_canon.specs.RowTests.{is_fold_before, is_fold_of, said_on, unfolded_count}
use Rattle.card_set.proofs.FlatMaps.{flat_map-map, kept_flat}
use Rattle.card_set.proofs.Reversed.{filter-reverse, list_any-reverse}

-- the seats whose flag is set are those that are not live
pub record AreFolded (moves : List Move) (folded : LiveRow) : Type 0 where
  pub each : (seat : ℕ) → 1 ≤ seat → is_live moves seat ≡ not (flag_of folded seat)

any_row : (q : Move → Bool) (played : List rows.Move) → list_any q (plain_moves (map move_said played)) ≡ list_any (λ row. q (plain_move (move_said row))) played
any_row q played =
    list_any-reverse q (map plain_move (map move_said played))
    ∙ list_any-map q plain_move (map move_said played)
    ∙ list_any-map (λ move. q (plain_move move)) move_said played

pub folded_all : (played : List rows.Move) (folded : LiveRow) → ((n : ℕ) → 1 ≤ n → flag_of folded n ≡ list_any (is_fold_of n) played) → AreFolded (plain_moves (map move_said played)) folded
folded_all played folded flags = record {
  each = λ seat from. ap not (any_row (moved.is_fold_of seat) played ∙ sym (flags seat from));
}

pub folded_before : (street : ℕ) (played : List rows.Move) (folded : LiveRow) → ((n : ℕ) → 1 ≤ n → flag_of folded n ≡ list_any (is_fold_before street n) played)
    → AreFolded (moves_before street (plain_moves (map move_said played))) folded
folded_before street played folded flags = record {
  each = λ seat from.
      ap not (list_any-filter (moved.is_fold_of seat) (λ (move : Move). nat_lt move.street street) (plain_moves (map move_said played))
      ∙ any_row (λ (move : Move). nat_lt move.street street && moved.is_fold_of seat move) played
      ∙ sym (flags seat from));
}

-- the same number of seats is live
pub live_are : (setup : Setup) (moves : List Move) (folded : LiveRow) → AreFolded moves folded → live_count setup moves ≡ unfolded_count folded setup.stacks.seats
live_are setup moves folded marked = count_agree (is_live moves) (λ seat. not (flag_of folded seat)) 1 setup.stacks.seats (λ k from _. marked.each k from)

-- the moves of a street, one after another
pub moves_are : (street : ℕ) (played : List rows.Move) → moves_named (plain_moves (map move_said played)) street ≡ flat_map (said_on street) played
moves_are street played =
    let on : Move → Bool = λ move. move.street == street in
    let plain : List Move = map plain_move (map move_said played) in
    ap (λ l. map move_named (reverse l)) (filter-reverse on plain)
    ∙ ap (map move_named) (reverse-reverse (filter on plain))
    ∙ kept_flat on move_named plain
    ∙ flat_map-map _ plain_move (map move_said played)
    ∙ flat_map-map _ move_said played
