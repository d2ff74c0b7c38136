use Rattle.flat_records.specs.Bags.{bags_in}
use Rattle.flat_records.specs.Owned.{owners_in}
use Rattle.bank_parts.proofs.owners.Owners.from_sound_flat.Given as goal

abbrev pub ghost-from_sound_flat : goal.ghost-from_sound_flat
ghost-from_sound_flat g a = owners_in (record { begins = a.begins.items; bags = bags_in a.recs })
