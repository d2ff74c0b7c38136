use Rattle.std.proofs.Common.{◌∙◌, List, sym, subst}
use Rattle.plan_edits.specs.Keeping.{IsKeeping}
use Rattle.plan_presets.specs.declared.numbers.PresetNumbers.{PresetNumbers}
use Rattle.program_commands.specs.declared.plans.Zones.{Zones}
use Rattle.sfbank.specs.Purposes.{keeping_of, promise_of}
use Rattle.sfbank.proofs.program.keep.put_notes.Goals as goal

pub returns-in-Ok : goal.returns-in-Ok
returns-in-Ok g c file read =
    let notes = c.args.notes.now in
    c.put_edits.ensures (keeping_of c.args.zones notes) file
    (λ b edits h. subst (λ (z : Zones). promise_of (keeping_of z notes) b edits) (sym c.in-All.is)
    (subst (λ (ks : List PresetNumbers). IsKeeping ks b edits) (c.as_slice.ensures.value ∙ c.in-Ok.ensures) h))
    read

pub returns : goal.returns
returns g c file read =
    let notes = c.args.notes.now in
    c.put_edits-in-Played.ensures (keeping_of c.args.zones notes) file
    (λ b edits h. subst (λ (z : Zones). promise_of (keeping_of z notes) b edits) (sym c.in-Played.is) h) read
