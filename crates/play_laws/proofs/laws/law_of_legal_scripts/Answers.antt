use Rattle.play_laws.proofs.LegalScripts.{legal_script}
use Rattle.play_laws.proofs.laws.law_of_legal_scripts.Goals as goal

pub returns : goal.returns
returns c = legal_script
