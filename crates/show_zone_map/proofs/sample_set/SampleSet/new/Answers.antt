use Rattle.show_zone_map.proofs.SampleLaws.{none_in_zeros}
use Rattle.show_zone_map.proofs.sample_set.SampleSet.new.Goals as goal

pub returns : goal.returns
returns c = none_in_zeros
