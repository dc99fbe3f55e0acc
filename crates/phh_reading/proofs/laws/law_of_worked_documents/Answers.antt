use Rattle.std.proofs.Common.{refl}
use Rattle.toml.proofs.OnLiterals.{toml_on_literals}
use Rattle.phh_reading.proofs.laws.law_of_worked_documents.Goals as goal

pub returns-clause-tables : goal.returns-clause-tables
unfolding toml_on_literals
returns-clause-tables c = refl

pub returns-clause-entries : goal.returns-clause-entries
returns-clause-entries c = refl

pub returns-clause-held : goal.returns-clause-held
unfolding toml_on_literals
returns-clause-held c = refl

pub returns-clause-no_lines : goal.returns-clause-no_lines
unfolding toml_on_literals
returns-clause-no_lines c = refl
