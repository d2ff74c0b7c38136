use Rattle.std.proofs.Common.{◌≡◌, ◌∙◌, List, Ok, ap, length, sym}
use Rattle.bank_parts.specs.declared.parts.Sample.{Sample}
use Rattle.wave_file.specs.Imports.{import_edits}
use Rattle.sfbank.proofs.recorded.recording_edits.Goals as goal

pub returns-in_ok-edits-in-End : goal.returns-in_ok-edits-in-End
returns-in_ok-edits-in-End c =
    let name = c.in-End.name.now in
    let r = c.args.recording in
    let items = c.in_ok-edits-in-End.edits.items in
    let is : items ≡ import_edits (length c.samples-count.result.now) name r = c.in_ok-edits-in-End.ensures in
    let same : import_edits (length c.args.bank.now.samples) name r ≡ items =
    ap (λ (samples : List Sample). import_edits (length samples) name r) (sym c.samples-count.ensures.value) ∙ sym is in
    rw c.in-End.is (ap Ok same)
