use Rattle.std.proofs.Common.{◌∙◌, ℕ, ap, take, drop}
use Rattle.std.proofs.lemmas.List.{drop_min, take_min}
use Rattle.ohh_reading.proofs.moment.part.Goals as goal

pub returns : goal.returns
returns c =
    let rest = c.split_at.result.1.now in
    c.split_at-2.ensures.front
    ∙ ap (λ (n : ℕ). take n rest) c.min-2.ensures
    ∙ take_min c.args.count rest
    ∙ ap (take c.args.count) (c.split_at.ensures.back ∙ ap (λ (n : ℕ). drop n c.args.text.now) c.min.ensures ∙ drop_min c.args.from c.args.text.now)
