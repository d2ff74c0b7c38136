use Rattle.std.proofs.Common.{ℕ, ◌∙◌, ap, sym, min}
use Rattle.std.specs.List.{flat_map, range_with_len}
use Rattle.base_outputs.proofs.OutputLaws.{puts_as, puts_nothing, putting_from, putting_step, putting_last}
use Rattle.show_sample.specs.Waves.{bar, wave}
use Rattle.show_sample.proofs.Ranges.{texts_from_0, texts_next, texts_past}
use Rattle.show_sample.proofs.waves.put_wave.Goals as goal

pub loop-number-init : goal.loop-number-init
unfolding wave
loop-number-init g c =
    let points = c.args.points.now in
    let width = c.args.width in
    let count = c.column_count-count.result in
    let same = c.column_count-count.ensures.value ∙ ap (λ (n : ℕ). min n width) c.len.ensures.value in
    putting_from _ _
    (ap (λ (n : ℕ). flat_map (bar points width n) (range_with_len 0 n)) (sym same)
    ∙ texts_from_0 (bar points width count) count)

pub loop-number-preserved : goal.loop-number-preserved
loop-number-preserved g c =
    putting_step _ _ c.loop-number.invariant
    (texts_next (bar c.args.points.now c.args.width c.column_count-count.result) c.loop-number.number _ c.loop-number-test.true)
    c.put_bar.ensures

pub returns : goal.returns
returns g c =
    putting_last c.loop-number.invariant
    (puts_as _ _
    (texts_past (bar c.args.points.now c.args.width c.column_count-count.result) c.loop-number.number _ c.loop-number-test.false)
    (puts_nothing _))
