use Rattle.base_outputs.proofs.OutputLaws.{puts_then}
use Rattle.show_page.specs.Data.{page_data}
use Rattle.show_page.proofs.bank_data.put_data.Goals as goal

pub returns : goal.returns
unfolding page_data
returns g c =
    puts_then _ _ c.put.ensures
    (puts_then _ _ c.put_bank.ensures
    (puts_then _ _ c.put-2.ensures
    (puts_then _ _ (rw c.presets.ensures.value at c.put_owners.ensures)
    (puts_then _ _ c.put-3.ensures
    (puts_then _ _ (rw c.instruments.ensures.value at c.put_owners-2.ensures)
    (puts_then _ _ c.put-4.ensures
    (puts_then _ _ (rw c.samples.ensures.value at c.put_samples.ensures)
    (puts_then _ _ c.put-5.ensures (puts_then _ _ c.put_findings.ensures c.put-6.ensures)))))))))
