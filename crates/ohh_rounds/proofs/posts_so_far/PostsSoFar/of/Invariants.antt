use Rattle.std.proofs.Common.{map, take}
use Rattle.ohh_rounds.specs.Posts.{AreFirst, plain_post}
use Rattle.ohh_rounds.proofs.posts_so_far.PostsSoFar.of.Given as goal

-- the posts so far are kept
abbrev pub invariant-loop-post : goal.invariant-loop-post
invariant-loop-post l = AreFirst (map plain_post (take l.post-index l.posts)) l.firsts
