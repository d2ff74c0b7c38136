use Rattle.show_page.specs.Data.{bank_fields}
use Rattle.show_page.proofs.bank_data.put_bank.Goals as goal

pub returns : goal.returns
unfolding bank_fields
returns g c =
    rw (
      c.number.ensures,
      c.from.ensures,
      c.minor.ensures,
      c.text.ensures,
      c.info.ensures.value,
      c.text-2.ensures,
      c.info-2.ensures.value,
      c.text-3.ensures,
      c.info-3.ensures.value,
      c.text-4.ensures,
      c.info-4.ensures.value,
      c.text-5.ensures,
      c.info-5.ensures.value,
      c.text-6.ensures,
      c.info-6.ensures.value,
      c.text-7.ensures,
      c.info-7.ensures.value,
      c.text-8.ensures,
      c.info-8.ensures.value,
    )
    at c.put_more.ensures
