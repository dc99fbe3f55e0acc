-- What a seat ends with if at most one seat is live.
use Rattle.play_event.proofs.StakeLaws.{folded_stack, last_stack}
use Rattle.play_event.proofs.stake_laws.law_of_folds.Goals as goal

pub returns-clause-folded : goal.returns-clause-folded
returns-clause-folded c = folded_stack

pub returns-clause-last : goal.returns-clause-last
returns-clause-last c = λ setup moves seat few live low high fits. last_stack setup moves seat few low high live fits
