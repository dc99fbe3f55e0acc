use Rattle.play_laws.proofs.InFull.{all_legal, all_past, one_past}
use Rattle.play_laws.proofs.spellings.law_of_full_spellings.Goals as goal

pub returns-clause-legal : goal.returns-clause-legal
returns-clause-legal c = all_legal

pub returns-clause-past : goal.returns-clause-past
returns-clause-past c = all_past

pub returns-clause-one_past : goal.returns-clause-one_past
returns-clause-one_past c = one_past
