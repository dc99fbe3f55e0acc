use Rattle.std.proofs.Common.{◌≡◌, ◌<◌, ◌+◌, ℕ, [], length, slice_index}
use Rattle.play_event.specs.Chips.{chips_left}
use Rattle.ohh_writing.proofs.moves.stacks_after_posts.Given as goal

-- the seats so far have what they have left after their posts
abbrev pub invariant-loop-index : goal.invariant-loop-index
invariant-loop-index l = (length l.left ≡ 10) × ((k : ℕ) → k < l.index → slice_index l.left k ≡ chips_left l.setup [] (k + 1))
