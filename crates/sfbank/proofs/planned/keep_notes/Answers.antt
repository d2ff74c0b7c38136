use Rattle.std.proofs.Common.{◌∙◌, List, Ok, ap, subst}
use Rattle.plan_edits.specs.Keeping.{IsKeeping}
use Rattle.plan_edits.specs.declared.fault.PlanFault.TheVariants.{OutOfMemory}
use Rattle.plan_presets.specs.declared.numbers.PresetNumbers.{PresetNumbers}
use Rattle.program_commands.specs.declared.plans.Zones.{Zones}
use Rattle.sfbank.specs.Purposes.{Keeping, KeepingPlayed, keeping_of, presets_of}
use Rattle.sfbank.proofs.PlannedEdits.{run_finds_none}
use Rattle.sfbank.proofs.planned.keep_notes.Goals as goal

pub returns-in-Ok : goal.returns-in-Ok
returns-in-Ok g c wanted file e read =
    let notes = c.args.notes.now in
    c.run_edits.ensures (Keeping (presets_of notes)) wanted file
    (λ b edits h. subst (λ (ks : List PresetNumbers). IsKeeping ks b edits) (c.as_slice.ensures.value ∙ c.in-Ok.ensures) h)
    (e ∙ ap (λ (z : Zones). Ok (keeping_of z notes)) c.in-All.is) read

pub returns-in-Err : goal.returns-in-Err
returns-in-Err g c wanted file e read =
    run_finds_none (Unit {0}) (keeping_of c.args.zones c.args.notes.now) wanted (g.W.Write.contents c.args.out.now)
    (g.V.Write.contents c.args.undo.now) file OutOfMemory e

pub returns-in-Played : goal.returns-in-Played
returns-in-Played g c wanted file e read =
    let notes = c.args.notes.now in
    c.run_edits-in-Played.ensures (KeepingPlayed notes) wanted file (λ b edits h. h)
    (e ∙ ap (λ (z : Zones). Ok (keeping_of z notes)) c.in-Played.is) read
