use Rattle.std.proofs.Common.{◌≡◌, ℕ, ap, arith}
use Rattle.flat_records.specs.Bags.{Bag}
use Rattle.flat_records.proofs.TableLaws.{held, bags_size, index_there}
use Rattle.flat_records.proofs.BagPositions.{any_bag, between, part_read, past_read, mods_part, at_value}
use Rattle.flat_records.proofs.bags.Bags.mods.Goals as goal

pub index-requires : goal.index-requires
index-requires c = index_there (held c.self.invariant c.self.view_is) (omega arith) c.self.inside.bags.ok.0

pub overflow_add-k : goal.overflow_add-k
overflow_add-k c =
    let size = bags_size (held c.self.invariant c.self.view_is) in
    let ok = c.self.inside.bags.ok in omega (arith, ok.0, ok.1)

pub index-requires-2 : goal.index-requires-2
index-requires-2 c = index_there (held c.self.invariant c.self.view_is) (omega arith) c.self.inside.bags.ok.0

pub part-requires : goal.part-requires
part-requires c =
    let s = any_bag (held c.self.invariant c.self.view_is) c.args.k c.requires in
    between (mods_part s c.index.ensures) (ap (λ (m : ℕ × ℕ). m.1) (past_read s c.index.ensures c.index-2.ensures))
    c.deref.ensures.value

pub returns : goal.returns
returns c =
    let s = any_bag (held c.self.invariant c.self.view_is) c.args.k c.requires in
    at_value s (λ (b : Bag). c.part.result.now ≡ b.mods)
    (part_read (mods_part s c.index.ensures)
    (ap (λ (m : ℕ × ℕ). m.1) (past_read s c.index.ensures c.index-2.ensures)) c.deref.ensures.value
    c.part.ensures)
