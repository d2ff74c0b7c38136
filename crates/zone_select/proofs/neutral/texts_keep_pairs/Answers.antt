use Rattle.zone_select.specs.Alike.{HaveSamePairs}
use Rattle.zone_select.proofs.NeutralLaws as laws
use Rattle.zone_select.proofs.neutral.texts_keep_pairs.Goals as goal

pub returns : goal.returns
returns c = record { set = laws.info_set_alike HaveSamePairs (λ b c h. h) }
