use Rattle.play_event.proofs.ScriptLaws.{refused_first, legal_whole}
use Rattle.play_event.proofs.laws.law_of_scripts.Goals as goal

pub returns-clause-refused : goal.returns-clause-refused
returns-clause-refused c = refused_first

pub returns-clause-legal : goal.returns-clause-legal
returns-clause-legal c = legal_whole
