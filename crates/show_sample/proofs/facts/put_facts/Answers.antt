use Rattle.std.proofs.Common.{List, ℕ, ap}
use Rattle.base_outputs.proofs.OutputLaws.{puts_as, puts_then}
use Rattle.show_zone_map.specs.Marks.{marks_text}
use Rattle.show_sample.specs.Facts.{facts, side_marks, length_marks, count_marks}
use Rattle.show_sample.proofs.facts.put_facts.Goals as goal

pub returns : goal.returns
unfolding facts
returns g c =
    let n = c.len-count.ensures.value in
    let side =
    puts_as _ _ (ap (λ (name : List ℕ). marks_text (side_marks c.args.side c.args.number name)) c.bytes.ensures.value)
    c.put_side.ensures in
    let length =
    puts_as _ _ (ap (λ (k : ℕ). marks_text (length_marks k c.args.sample.now.rate)) n) c.put_length.ensures in
    let count = puts_as _ _ (ap (λ (k : ℕ). marks_text (count_marks k)) n) c.put_count.ensures in
    puts_then _ _ c.put_line_start.ensures
    (puts_then _ _ side
    (puts_then _ _ c.put_key.ensures
    (puts_then _ _ c.put_rate.ensures
    (puts_then _ _ length (puts_then _ _ count c.put_loop.ensures)))))
