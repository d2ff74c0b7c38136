use Rattle.plan_take.specs.Matches.{SamplesMatch, Renumbered}
use Rattle.plan_take.proofs.MatchLaws.{match_in, copied}
use Rattle.plan_take.proofs.comparisons.are_copied.Goals as goal

pub returns : goal.returns
returns c t =
    let from = c.args.from.now in
    let bank = c.args.bank.now in
    let samples = c.args.samples.now in
    let instruments = c.args.instruments.now in
    copied from bank c.args.presets.now samples instruments
    (match_in SamplesMatch samples c.samples.result.now from.samples c.samples-2.result.now bank.samples
    c.samples.ensures.value c.samples-2.ensures.value (c.samples_match.ensures c.if-not-samples_match.false))
    (match_in (Renumbered samples) instruments c.instruments.result.now from.instruments c.instruments-2.result.now
    bank.instruments c.instruments.ensures.value c.instruments-2.ensures.value
    (c.instruments_match.ensures c.if-not-instruments_match.false))
    (c.presets_match.ensures t)
