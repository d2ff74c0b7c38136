use Rattle.sf_reader.proofs.HydraLaws.{preset_indexes_fail, instrument_indexes_pass}
use Rattle.sf_reader.proofs.hydra.Tables.check_indexes.Goals as goal

pub returns-in_err-check_indexes : goal.returns-in_err-check_indexes
returns-in_err-check_indexes c =
    preset_indexes_fail c.self.inside.presets c.self.inside.instruments c.self.inside.samples c.args.self.now
    c.from_residual.result c.in_err-check_indexes.field-0.0
    c.self.view_is c.from_residual.ensures.1 c.in_err-check_indexes.ensures

pub returns : goal.returns
returns c =
    instrument_indexes_pass c.self.inside.presets c.self.inside.instruments c.self.inside.samples c.args.self.now
    c.check_indexes-2.result
    c.self.view_is c.in_ok-check_indexes.ensures.0 c.check_indexes-2.ensures
