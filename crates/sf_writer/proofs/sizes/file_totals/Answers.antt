use Rattle.sf_writer.proofs.SizeLaws.{few_members, few_preset_records, few_instrument_records, few_points}
use Rattle.sf_writer.proofs.sizes.file_totals.Goals as goal

pub returns-clause-members : goal.returns-clause-members
returns-clause-members c = few_members _ _ c.totals.ensures.value c.totals.ensures.sound.valid.limits

pub returns-clause-presets : goal.returns-clause-presets
returns-clause-presets c = few_preset_records _ _ c.totals.ensures.value c.totals.ensures.sound.valid.limits

pub returns-clause-instruments : goal.returns-clause-instruments
returns-clause-instruments c = few_instrument_records _ _ c.totals.ensures.value c.totals.ensures.sound.valid.limits

pub returns-clause-points : goal.returns-clause-points
returns-clause-points c = few_points _ _ c.totals.ensures.value c.totals.ensures.sound.valid.limits
