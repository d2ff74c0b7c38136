use Rattle.std.proofs.Common.{◌≡◌, ◌≤◌, ◌<◌, ◌+◌, ◌*◌, ◌-◌, ◌++◌, List, ℕ, length, ap, ◌∙◌, take, drop, sym, arith}
use Rattle.std.specs.Prelude.{min}
use Rattle.pcm_points.proofs.PieceLaws.{fits, after_piece}
use Rattle.pcm_points.proofs.in_place.points_in_place.Goals as goal

pub overflow_add-end : goal.overflow_add-end
overflow_add-end c = omega (arith, c.min.ensures, c.loop-read-test.true)

pub put_at-requires : goal.put_at-requires
put_at-requires c =
    let read = c.loop-read.read in
    let frame_size = c.args.channels * c.size.result in
    let size = c.loop-read.invariant.size in
    let within = c.loop-read.invariant.within in
    let end : read + c.min.result ≡ read + min (4096 * frame_size) (length c.loop-read.bytes - read) =
    omega (arith, c.min.ensures, size) in
    let few =
    fits c.args.encoding c.args.channels c.args.channel c.size.result c.size.ensures.value c.loop-read.bytes
    c.in_ok-points.points.items 4096 read (read + c.min.result) (rw c.size.ensures.value c.requires.room)
    (omega (arith, size, within)) end c.in_ok-points.ensures in
    let same : length c.as_slice.result.now ≡ length c.in_ok-points.points.items = ap length c.as_slice.ensures.value in
    let behind = c.loop-read.invariant.behind in
    omega (arith, few, same, behind, within, size, c.min.ensures)

pub loop-read-preserved : goal.loop-read-preserved
loop-read-preserved c =
    let read = c.loop-read.read in
    let frame_size = c.args.channels * c.size.result in
    let points = c.in_ok-points.points.items in
    let old = c.loop-read.bytes in
    let written = c.loop-read.written in
    let size = c.loop-read.invariant.size in
    let within = c.loop-read.invariant.within in
    let end : read + c.min.result ≡ read + min (4096 * frame_size) (length old - read) =
    omega (arith, c.min.ensures, size) in
    let put : c.put_at.new.bytes ≡ take written old ++ points ++ drop (written + length points) old =
    c.put_at.ensures
    ∙ ap (λ (ps : List ℕ). take written old ++ ps ++ drop (written + length ps) old) c.as_slice.ensures.value in
    let count : length points ≡ c.len-written.result =
    sym (ap length c.as_slice.ensures.value) ∙ c.as_slice.ensures.len ∙ sym c.len-written.ensures in
    let step =
    after_piece c.args.encoding c.args.channels c.args.channel c.size.result c.size.ensures.value old points 4096 read
    (read + c.min.result) (rw c.size.ensures.value c.requires.room) (omega (arith, size, within)) end
    c.in_ok-points.ensures c.put_at.new.bytes written c.loop-read.invariant.behind put in
    record {
      all = rw count at (step.all ∙ c.loop-read.invariant.all);
      behind = let behind = step.behind in omega (arith, behind, count);
      size = let same = step.size in omega (arith, same, size);
      within = let last = step.within in omega (arith, last, size);
    }
