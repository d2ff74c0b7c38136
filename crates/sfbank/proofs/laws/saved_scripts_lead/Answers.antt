use Rattle.sfbank.proofs.ScriptFiles.{differences_lead, scripts_lead}
use Rattle.sfbank.proofs.laws.saved_scripts_lead.Goals as goal

pub returns-clause-diff : goal.returns-clause-diff
returns-clause-diff c = differences_lead

pub returns-clause-script : goal.returns-clause-script
returns-clause-script c = scripts_lead
