use Rattle.sfbank.proofs.program.import.import_named.Goals as goal

pub returns : goal.returns
returns g c request printed h = c.record.ensures request printed (record { plans = h.plans; inputs = h.inputs })
