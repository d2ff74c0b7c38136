use Rattle.flat_records.specs.Owned.{all_bags}
use Rattle.flat_records.proofs.owned.OwnerBags.from_sound_flat.Given as goal

abbrev pub ghost-from_sound_recs : goal.ghost-from_sound_recs
ghost-from_sound_recs g a = all_bags g.owners
