use Rattle.std.proofs.Common.{◌≡◌, ◌∙◌, ◌+◌, ◌++◌, ap, take, drop, rules, arith}
use Rattle.std.proofs.lemmas.List.{length-take-le, length-drop, places}
use Rattle.std.proofs.Math.Seq.{take-add}
use Rattle.file_disk.proofs.reading.read_piece.Goals as goal

pub returns-clause-reads : goal.returns-clause-reads
returns-clause-reads g c =
    let at = c.len-at.result in
    let n = c.in_ok-count.count in
    let xs = c.read_at.new.buffer in
    let read = c.in_ok-count.ensures in
    let held : c.truncate.new.self.items ≡ take (at + n) xs = search (rules, places) in
    let prefix_kept : take at xs ≡ c.args.bytes.now.items = search (rules, places) in
    let within = read.within in
    record {
      piece = take n (drop at xs);
      appended = held ∙ take-add at n xs ∙ ap (λ f. f ++ take n (drop at xs)) prefix_kept;
      counted = length-take-le n (drop at xs) (omega (arith, within, length-drop at xs));
      reads = read.reads;
      end = read.end;
    }
