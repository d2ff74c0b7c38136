use Rattle.std.proofs.Common.{◌≡◌, ◌∙◌, ◌+◌, length, sym, ap, arith}
use Rattle.bank_parts.proofs.FlatListLaws.{first_bags_size}
use Rattle.base_outputs.proofs.OutputLaws.{puts_as, putting_from, putting_step, putting_last}
use Rattle.sf_writer.proofs.OwnerHeadLaws.{heads-start, heads-next, heads-last}
use Rattle.sf_writer.proofs.owner_heads.put_heads.Goals as goal

pub loop-i-init : goal.loop-i-init
loop-i-init g c =
    putting_from _ _
    (heads-start g.H.Record.Encoded.bytes_of g.H.RecordedHead.headers g.H.OwnerHead.LEVEL c.args.owners.now _
    g.met.H.RecordedHead.same_level c.first_bags-first_bags.ensures)

pub first_bag-requires : goal.first_bag-requires
first_bag-requires g c =
    let size : length c.first_bags-first_bags.result.now ≡ length c.args.owners.now + 1 =
    ap length c.first_bags-first_bags.ensures ∙ first_bags_size g.H.OwnerHead.LEVEL c.args.owners.now in
    omega (arith, size)

pub loop-i-preserved : goal.loop-i-preserved
loop-i-preserved g c =
    let size : length c.first_bags-first_bags.result.now ≡ length c.args.owners.now + 1 =
    ap length c.first_bags-first_bags.ensures ∙ first_bags_size g.H.OwnerHead.LEVEL c.args.owners.now in
    putting_step c.put.result _ c.loop-i.invariant
    (heads-next g.H.Record.Encoded.bytes_of g.H.RecordedHead.headers c.args.owners.now _ c.loop-i.i _
    c.head.result.now _ _ (omega arith) (omega (arith, size)) c.head.ensures c.first_bag.ensures c.record.ensures
    c.put.ensures)
    c.put-in-loop-i.ensures

pub first_bag-requires-2 : goal.first_bag-requires-2
first_bag-requires-2 g c =
    let size : length c.first_bags-first_bags.result.now ≡ length c.args.owners.now + 1 =
    ap length c.first_bags-first_bags.ensures ∙ first_bags_size g.H.OwnerHead.LEVEL c.args.owners.now in
    omega (arith, size)

pub returns : goal.returns
returns g c =
    let size : length c.first_bags-first_bags.result.now ≡ length c.args.owners.now + 1 =
    ap length c.first_bags-first_bags.ensures ∙ first_bags_size g.H.OwnerHead.LEVEL c.args.owners.now in
    let end : c.loop-i.i ≡ c.len.result = omega arith in
    putting_last (rw end at c.loop-i.invariant)
    (puts_as _ _
    (sym
    (heads-last g.H.Record.Encoded.bytes_of g.H.RecordedHead.headers c.args.owners.now _ c.len.result _ _ _
    c.len.ensures (omega (arith, size)) c.first_bag-2.ensures c.last.ensures c.put-2.ensures))
    c.put-3.ensures)
