use Rattle.sf_reader.proofs.SampleLaws.{bit_4}
use Rattle.sf_reader.proofs.samples.is_packed.Goals as goal

pub returns : goal.returns
returns c = bit_4 c.args.kind
