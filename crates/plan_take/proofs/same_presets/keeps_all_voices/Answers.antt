use Rattle.std.proofs.Common.{subst}
use Rattle.plan_take.specs.Matches.{SamplesMatch, Renumbered}
use Rattle.plan_take.specs.RemovingDuplicates.{AreSamePresets}
use Rattle.plan_take.proofs.MatchLaws.{match_in}
use Rattle.plan_take.proofs.DuplicateLaws.{voices_kept}
use Rattle.plan_take.proofs.same_presets.keeps_all_voices.Goals as goal

pub returns : goal.returns
returns c t =
    let from = c.args.from.now in
    let to = c.args.to.now in
    let samples = c.args.samples.now in
    let instruments = c.args.instruments.now in
    voices_kept from to samples instruments
    (match_in SamplesMatch samples c.samples.result.now from.samples c.samples-2.result.now to.samples
    c.samples.ensures.value c.samples-2.ensures.value (c.samples_match.ensures c.if-not-samples_match.false))
    (match_in (Renumbered samples) instruments c.instruments.result.now from.instruments c.instruments-2.result.now
    to.instruments c.instruments.ensures.value c.instruments-2.ensures.value
    (c.instruments_match.ensures c.if-not-instruments_match.false))
    (subst (λ ps. AreSamePresets instruments ps to.presets) c.presets.ensures.value
    (subst (λ ps. AreSamePresets instruments c.presets.result.now ps) c.presets-2.ensures.value
    (c.are_same_presets.ensures t)))
