use Rattle.std.proofs.Common.{◌≡◌, ◌-◌, ◌/◌, ◌∙◌, length, ap, sym, arith}
use Rattle.std.proofs.Math.Nat.{mul-mod_left}
use Rattle.std.specs.Prelude.{min}
use Rattle.hydra_records.proofs.TableLaws.{Within, cut_within, length-records, records-part, length-part, range_within}
use Rattle.hydra_records.proofs.table.Table.part.Goals as goal
use Rattle.hydra_records.proofs.table.Table.part.Goals.{After-SIZE}

within : (g : _) (c : After-SIZE g) → Within c.self.inside.bytes.now g.R.Record.SIZE c.min-start.result c.min-end.result
within g c =
    let count : c.len.result ≡ length c.self.inside.bytes.now / g.R.Record.SIZE =
    c.len.ensures ∙ ap length (sym c.self.view_is)
    ∙ length-records g.R.Record.SIZE g.R.Record.of_bytes c.self.inside.bytes.now in
    cut_within c.self.inside.bytes.now g.R.Record.SIZE c.args.from c.args.to c.min-start.result c.min-end.result
    (c.min-end.ensures ∙ ap (min c.args.to) count) c.min-start.ensures

pub overflow_mul-start : goal.overflow_mul-start
overflow_mul-start g c =
    let fits = (within g c).before in
    let told = c.self.told.0 in
    rw c.SIZE.ensures (omega (arith, fits, told))

pub overflow_mul-end : goal.overflow_mul-end
overflow_mul-end g c =
    let fits = (within g (goal.at.overflow_mul-end g c).After-SIZE).part in
    let told = c.self.told.0 in
    rw c.SIZE-2.ensures (omega (arith, fits, told))

pub invariant_of-result : goal.invariant_of-result
invariant_of-result g c =
    let w = within g (goal.at.invariant_of-result g c).After-SIZE in
    let size =
    length-part c.self.inside.bytes.now g.R.Record.SIZE c.min-start.result c.min-end.result w.rising w.inside in
    rw (c.part_of.ensures, c.SIZE.ensures, c.SIZE-2.ensures, size)
    (mul-mod_left (c.min-end.result - c.min-start.result) g.R.Record.SIZE)

pub returns : goal.returns
returns g c =
    let w = within g (goal.at.returns g c).After-SIZE in
    let range = range_within c.args.self.now c.args.from c.args.to c.min-start.result c.min-end.result
    (c.min-end.ensures ∙ ap (min c.args.to) c.len.ensures) c.min-start.ensures in
    rw (c.part_of.ensures, c.SIZE.ensures, c.SIZE-2.ensures, range, ← c.self.view_is)
    (records-part g.R.Record.SIZE g.R.Record.of_bytes c.self.inside.bytes.now c.min-start.result c.min-end.result
    g.met.R.Record.some_bytes w.rising w.inside)
