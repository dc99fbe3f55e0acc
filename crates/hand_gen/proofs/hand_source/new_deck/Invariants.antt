-- The deck so far has the game's cards of the places so far.
use Rattle.std.proofs.Common.{◌≡◌, map, filter}
use Rattle.std.specs.List.{range_with_len}
use Rattle.card_set.specs.Deck.{card_with_index}
use Rattle.play_event.specs.Taken.{is_in_deck}
use Rattle.hand_gen.proofs.hand_source.new_deck.Given as goal

abbrev pub invariant-loop-place : goal.invariant-loop-place
invariant-loop-place l = l.deck.items ≡ filter (is_in_deck l.fn.code) (map card_with_index (range_with_len 0 l.place))
