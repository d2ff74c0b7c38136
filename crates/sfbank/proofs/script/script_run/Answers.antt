use Rattle.sfbank.specs.BankScripts.{script_outcome}
use Rattle.sfbank.proofs.BankScripts.{script_runs, remade}
use Rattle.sfbank.proofs.CommandLaws.{script_fails}
use Rattle.sfbank.proofs.OneText.{one_text_fails}
use Rattle.sfbank.proofs.Restores.{are_bytes}
use Rattle.sfbank.proofs.script.script_run.Goals as goal

pub returns-in-Ok-of-clause-runs : goal.returns-in-Ok-of-clause-runs
returns-in-Ok-of-clause-runs g c =
    script_runs c.args.form _ _ c.args.file.now c.in-Ok.bank c.in-Ok._counts c.write_one.result c.in-Ok.ensures
    (rw c.in-Ok-of.ensures at c.write_one.ensures)

pub returns-in-Ok-of-clause-remade : goal.returns-in-Ok-of-clause-remade
returns-in-Ok-of-clause-remade g c = remade c.args.file.now (are_bytes c.args.file.now c.type_inv.file)

pub returns-clause-runs : goal.returns-clause-runs
returns-clause-runs g c =
    one_text_fails (Unit {0}) _ (script_outcome c.args.form c.args.file.now) c.in-Err.fault
    (script_fails (λ both. both) c.args.form c.in-Err.fault c.args.file.now c.in-Err.ensures)

pub returns-clause-remade : goal.returns-clause-remade
returns-clause-remade g c = remade c.args.file.now (are_bytes c.args.file.now c.type_inv.file)

pub returns-in-Ok-clause-remade : goal.returns-in-Ok-clause-remade
returns-in-Ok-clause-remade g c = remade c.args.file.now (are_bytes c.args.file.now c.type_inv.file)
