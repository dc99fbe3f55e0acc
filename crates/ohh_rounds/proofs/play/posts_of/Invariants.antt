use Rattle.std.proofs.Common.{◌≡◌, ◌++◌, map, drop}
use Rattle.ohh_rounds.specs.Posts.{plain_post}
use Rattle.ohh_rounds.specs.Play.{posts_in}
use Rattle.ohh_rounds.specs.Steps.{plain_step}
use Rattle.ohh_rounds.proofs.play.posts_of.Given as goal

-- the posts so far and those of the steps that are left are all of them
abbrev pub invariant-loop-step : goal.invariant-loop-step
invariant-loop-step l = map plain_post l.posts.items ++ posts_in (map plain_step (drop l.step-index l.steps)) ≡ posts_in (map plain_step l.steps)
