use Rattle.std.proofs.Common.{◌≡◌, ◌+◌, ◌-◌, List, is_some}
use Rattle.std.specs.List.{list_all, range_with_len}
use Rattle.ohh_rounds.specs.PostRules.{has_all_antes}
use Rattle.ohh_rounds.specs.Posts.{AreFirst, PlainPost, first_ante}
use Rattle.ohh_rounds.specs.NamedBlinds.{plain_named_blinds}
use Rattle.ohh_rounds.proofs.antes.all_post.Given as goal

-- the seats that are left decide
abbrev pub invariant-loop-index : goal.invariant-loop-index
invariant-loop-index l = (posts : List PlainPost) → AreFirst posts l.firsts → list_all (λ seat. is_some (first_ante seat posts)) (range_with_len (l.index + 1) (l.table.stacks.seats - l.index)) ≡ has_all_antes (plain_named_blinds l.table) posts
