use Rattle.std.proofs.Common.{◌≡◌, ◌++◌, ℕ, List, ap, ◌∙◌}
use Rattle.hand_order.specs.Heights.{heights_of}
use Rattle.hand_order.specs.Lowest.{lowest}
use Rattle.low_rank.specs.RazzBest.{first_ranks, is_free, low_count, lowest_ranks}
use Rattle.low_rank.proofs.razz.lowest_of_shape.Goals as goal

pub returns : goal.returns
unfolding lowest_ranks
returns c =
    let times = low_count c.args.masks.now in
    let shape = c.args.shape.now in
    let first : heights_of c.lowest_free-first.result ≡ first_ranks times shape.often shape.often_ranks =
    c.lowest_free-first.ensures.list ∙ ap (λ (l : List ℕ). lowest (is_free times shape.often l) 13 1 shape.often_ranks) c.new.ensures in
    c.joined.ensures
    ∙ ap (λ (l : List ℕ). l ++ heights_of c.lowest_free-others.result) first
    ∙ ap (λ (l : List ℕ). first_ranks times shape.often shape.often_ranks ++ l) (c.lowest_free-others.ensures.list ∙ ap (λ (l : List ℕ). lowest (is_free times shape.seldom l) 13 1 shape.seldom_ranks) first)
