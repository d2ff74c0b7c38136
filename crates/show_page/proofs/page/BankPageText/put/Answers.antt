use Rattle.base_outputs.proofs.OutputLaws.{puts_then}
use Rattle.show_page.specs.Page.{page}
use Rattle.show_page.proofs.page.BankPageText.put.Goals as goal

pub returns : goal.returns
unfolding page
returns g c =
    puts_then _ _ c.put.ensures
    (puts_then _ _ c.put-2.ensures
    (puts_then _ _ c.put-3.ensures
    (puts_then _ _ c.put_data.ensures (puts_then _ _ c.put-4.ensures c.put-5.ensures))))
