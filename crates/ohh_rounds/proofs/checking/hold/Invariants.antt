use Rattle.std.proofs.Common.{◌≡◌, [], map, take, drop}
use Rattle.ohh_rounds.specs.PostRules.{AreFacts, first_breaking}
use Rattle.ohh_rounds.specs.Posts.{AreFirst, plain_post}
use Rattle.ohh_rounds.specs.NamedBlinds.{plain_named_blinds}
use Rattle.ohh_rounds.proofs.checking.hold.Given as goal

-- no post so far breaks the condition
abbrev pub invariant-loop-post : goal.invariant-loop-post
invariant-loop-post l = record {
  before : AreFirst (map plain_post (take l.post-index l.posts)) l.before;
  facts : AreFacts (map plain_post l.posts) l.facts;
  left : first_breaking l.condition (plain_named_blinds l.facts.table) (map plain_post l.posts) (map plain_post (take l.post-index l.posts)) (map plain_post (drop l.post-index l.posts)) ≡ first_breaking l.condition (plain_named_blinds l.facts.table) (map plain_post l.posts) [] (map plain_post l.posts);
}
