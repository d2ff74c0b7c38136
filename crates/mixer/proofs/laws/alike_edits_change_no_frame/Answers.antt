use Rattle.mixer.proofs.AlikeLaws as laws
use Rattle.mixer.proofs.laws.alike_edits_change_no_frame.Goals as goal

pub returns-clause-heard : goal.returns-clause-heard
returns-clause-heard c = laws.alike_heard

pub returns-clause-blocks : goal.returns-clause-blocks
returns-clause-blocks c = laws.alike_blocks
