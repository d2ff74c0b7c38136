use Rattle.std.proofs.Common.{◌/◌, ◌∙◌, ℕ, length, ap, sym}
use Rattle.hydra_records.proofs.TableLaws.{length-records}
use Rattle.hydra_records.proofs.table.Table.len.Goals as goal

pub returns : goal.returns
returns g c =
    ap (λ (n : ℕ). length c.self.inside.bytes.now / n) c.SIZE.ensures
    ∙ sym (length-records g.R.Record.SIZE g.R.Record.of_bytes c.self.inside.bytes.now) ∙ ap length c.self.view_is
