use Rattle.std.proofs.Common.{ℕ, List, [], drop, get_or, ap, sym}
use Rattle.std.specs.List.{flat_map, enumerate_from}
use Rattle.std.proofs.lemmas.List.{at_drop_more, drop_all}
use Rattle.base_outputs.proofs.OutputLaws.{puts_as, puts_nothing, putting_start, putting_step, putting_last}
use Rattle.show_zone_map.specs.Marks.{marks_text}
use Rattle.show_zone_map.specs.Picture.{entry, entry_marks}
use Rattle.show_zone_map.proofs.legend.put_legend.Goals as goal

pub loop-entry-init : goal.loop-entry-init
loop-entry-init g c = putting_start _

pub loop-entry-preserved : goal.loop-entry-preserved
loop-entry-preserved g c =
    let b = c.args.bank.now in
    let ss = c.args.samples.now in
    let k = c.loop-entry.entry in
    let s = get_or ss k 0 in
    putting_step _ _ c.loop-entry.invariant
    (at_drop_more (λ (xs : List ℕ). flat_map (entry b) (enumerate_from k xs)) ss k 0 c.loop-entry-test.true)
    (puts_as _ _ (ap (λ (name : List ℕ). marks_text (entry_marks name k s)) c.name_of.ensures) c.put_entry.ensures)

pub returns : goal.returns
returns g c =
    let f : List ℕ → List ℕ = λ xs. flat_map (entry c.args.bank.now) (enumerate_from c.loop-entry.entry xs) in
    let end = ap f (drop_all c.loop-entry.entry c.args.samples.now c.loop-entry-test.false) in
    putting_last c.loop-entry.invariant
    (puts_as [] (f (drop c.loop-entry.entry c.args.samples.now)) (sym end) (puts_nothing _))
