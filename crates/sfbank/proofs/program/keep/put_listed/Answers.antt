use Rattle.std.proofs.Common.{◌∙◌, Option, ap}
use Rattle.bank_format.specs.ReadChecks.{fault_of}
use Rattle.plan_presets.specs.declared.fault.PresetFault.{PresetFault}
use Rattle.plan_presets.specs.declared.fault.PresetFault.TheVariants.{Missing}
use Rattle.plan_presets.specs.declared.numbers.PresetNumbers.{PresetNumbers}
use Rattle.std.specs.Option.{option_map}
use Rattle.program_reports.specs.declared.run_fault.RunFault.TheVariants as run
use Rattle.sfbank.specs.Outcome.{after_reading, bank_in}
use Rattle.sfbank.specs.Steps.{IsReadAs}
use Rattle.sfbank.specs.Purposes.{Keeping, keeping_listed, unless_fault}
use Rattle.sfbank.proofs.FoundEdits.{edits_fail, edits_put, listed_at}
use Rattle.sfbank.proofs.OutcomeLaws.{bank_fails}
use Rattle.sfbank.proofs.program.keep.put_listed.Goals as goal

pub returns-in-Ok-check_presets : goal.returns-in-Ok-check_presets
returns-in-Ok-check_presets g c =
    let p = c.args.paths in
    let file = c.args.file.now in
    let list = c.args.presets.now in
    let read : IsReadAs file c.in-Ok.bank = (c.in-Ok._counts, c.in-Ok.ensures) in
    edits_put p (Keeping list) file (after_reading (fault_of file) (keeping_listed (bank_in file) list)) _ _ _ c.put_edits.result
    (listed_at file c.in-Ok.bank list read
    ∙ ap (λ (o : Option PresetNumbers). unless_fault (option_map Missing o) (Keeping list)) c.in-Ok-check_presets.ensures)
    (c.put_edits.ensures (Keeping list) file (λ b edits h. h) read)

pub returns-in-Ok : goal.returns-in-Ok
returns-in-Ok g c =
    let file = c.args.file.now in
    let list = c.args.presets.now in
    let read : IsReadAs file c.in-Ok.bank = (c.in-Ok._counts, c.in-Ok.ensures) in
    edits_fail _ _ _ c.args.paths file (run.Presets c.in-Err-check_presets.fault)
    (after_reading (fault_of file) (keeping_listed (bank_in file) list))
    (listed_at file c.in-Ok.bank list read
    ∙ ap (λ (o : Option PresetFault). unless_fault o (Keeping list)) c.in-Err-check_presets.ensures)

pub returns : goal.returns
returns g c =
    let file = c.args.file.now in
    edits_fail _ _ _ c.args.paths file c.in-Err.fault
    (after_reading (fault_of file) (keeping_listed (bank_in file) c.args.presets.now))
    (bank_fails (λ both. both) c.in-Err.fault file (keeping_listed (bank_in file) c.args.presets.now) c.in-Err.ensures)
