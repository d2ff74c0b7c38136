use Rattle.std.proofs.Common.{◌∙◌}
use Rattle.flat_records.proofs.TableLaws.{are_read, bags_read}
use Rattle.flat_records.proofs.bags.Bags.from_sound_recs.Goals as goal

pub invariant_of-result : goal.invariant_of-result
invariant_of-result g c = are_read (record { same = c.recs.view_is ∙ c.requires })

pub returns : goal.returns
returns g c = bags_read (record { same = c.recs.view_is ∙ c.requires })
