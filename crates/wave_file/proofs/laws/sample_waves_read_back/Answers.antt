use Rattle.wave_file.proofs.BackLaws.{waves_read_back}
use Rattle.wave_file.proofs.laws.sample_waves_read_back.Goals as goal

pub returns : goal.returns
returns c = waves_read_back
