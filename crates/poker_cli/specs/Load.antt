-- What `load` answers: the summary of hands that are generated from a seed.
use Rattle.std.specs.Prelude.{◌≡◌, ℕ}
use Rattle.hand_gen.specs.Load.{IsLoad, summary_text}
use Rattle.hand_gen.specs.declared.summary.Summary.{Summary}
use Rattle.poker_cli.specs.AnswerParts.{Answer, done}

-- The answer is the summary of `hands` hands that are generated from a seed.
pub record IsSummed (seed hands : ℕ) (answer : Answer) : Type 0 where
  pub summary : Summary
  pub load : IsLoad seed hands summary
  pub shown : answer ≡ done (summary_text summary)
