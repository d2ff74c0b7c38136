use Rattle.std.proofs.Common.{◌∙◌, ap, map}
use Rattle.std.proofs.lemmas.Result.{err_from_is_err_and}
use Rattle.bank_folders.specs.Folders.{bare_samples}
use Rattle.sfbank.specs.Folders.{all_points}
use Rattle.sfbank.proofs.FolderRuns.{no_points}
use Rattle.sfbank.proofs.folders.pack_lines.Goals as goal

pub returns-in_err-samples : goal.returns-in_err-samples
returns-in_err-samples c =
    let p = err_from_is_err_and c.from_residual.result c.from_residual.ensures.1 in rw (p.1, p.2) tt

pub returns-in_err-points : goal.returns-in_err-points
returns-in_err-points c =
    let p = err_from_is_err_and c.from_residual-in_err-points.result c.from_residual-in_err-points.ensures.1 in
    let waves = map (λ wave. wave.now) c.args.waves.now in
    let samples = c.in_ok-samples.ensures ∙ ap bare_samples c.as_slice.ensures.value in
    rw (p.1, p.2)
    (no_points _ c.args.lines.items c.in_err-points.field-0.0 (all_points (bare_samples c.args.lines.items) waves)
    (rw samples at c.in_err-points.ensures))

pub returns-in_err-full : goal.returns-in_err-full
returns-in_err-full c =
    let p = err_from_is_err_and c.from_residual-in_err-full.result c.from_residual-in_err-full.ensures.1 in rw (p.1, p.2) tt

pub returns : goal.returns
returns c =
    let waves = map (λ wave. wave.now) c.args.waves.now in
    let samples = c.in_ok-samples.ensures ∙ ap bare_samples c.as_slice.ensures.value in
    let points = rw samples at c.in_ok-points.ensures in
    rw (points, ← c.in_ok-full.ensures) c.make_bank.ensures
