use Rattle.std.proofs.Common.{◌<◌, ◌/◌, length, ap, sym, arith}
use Rattle.std.proofs.lemmas.Option.{slice_get_past}
use Rattle.hydra_records.proofs.TableLaws.{length-records, slice_get-records, record_within, length-record}
use Rattle.hydra_records.proofs.table.Table.get.Goals as goal
use Rattle.hydra_records.proofs.table.Table.get.Goals.{After-SIZE}

-- The index is below the number of records.
below : (g : _) (c : After-SIZE g) → c.args.i < length c.self.inside.bytes.now / g.R.Record.SIZE
below g c =
    let count = length-records g.R.Record.SIZE g.R.Record.of_bytes c.self.inside.bytes.now in
    let seen = ap length c.self.view_is in
    omega (arith, count, seen)

pub overflow_mul-i : goal.overflow_mul-i
overflow_mul-i g c =
    let within = record_within c.self.inside.bytes.now g.R.Record.SIZE c.args.i (below g c) in
    rw c.SIZE.ensures (let told = c.self.told.0 in omega (arith, within, told))

pub read-requires : goal.read-requires
read-requires g c =
    let size =
    length-record c.self.inside.bytes.now g.R.Record.SIZE c.args.i
    (below g (goal.at.read-requires g c).After-SIZE) in
    rw (c.part_of.ensures, c.SIZE-then-i-len.ensures, c.SIZE.ensures) size

pub returns-then-i-len : goal.returns-then-i-len
returns-then-i-len g c =
    let record_i =
    slice_get-records g.R.Record.SIZE g.R.Record.of_bytes c.self.inside.bytes.now c.args.i
    (below g (goal.at.returns-then-i-len g c).After-SIZE) in
    rw (c.read.ensures, c.part_of.ensures, c.SIZE-then-i-len.ensures, c.SIZE.ensures, ← c.self.view_is) (sym record_i)

pub returns-else-i-len : goal.returns-else-i-len
returns-else-i-len g c = sym (slice_get_past c.args.self.now c.args.i (omega arith))
