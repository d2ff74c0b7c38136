use Rattle.std.proofs.Common.{ap}
use Rattle.base_outputs.proofs.OutputLaws.{puts_as, putting_member}
use Rattle.show_page.specs.Json.{next_text}
use Rattle.show_page.proofs.Loops.{putting_all}
use Rattle.show_page.proofs.json.put_more.Goals as goal

pub loop-field-preserved : goal.loop-field-preserved
loop-field-preserved g c =
    putting_member next_text c.args.fields.now c.loop-field.field-index _ c.loop-field.invariant c.loop-field-test.true
    (puts_as _ _ (ap next_text c.field-item.is) c.put_next.ensures)

pub returns : goal.returns
returns g c =
    putting_all next_text c.args.fields.now c.loop-field.field-index c.loop-field.invariant c.loop-field-test.false
