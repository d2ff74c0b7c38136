-- The WAVE file of a sample of a bank gives its points.
use Rattle.std.proofs.Common.{◌≡◌, ◌≤◌, ◌+◌, ℕ, List, [], ◌∷◌, length, Option, Some, None, Result, Ok}
use Rattle.std.proofs.Common.{refl, ap, ◌∙◌, arith}
use Rattle.std.specs.List.{AllByRecursion}
use Rattle.std.proofs.lemmas.Bool.{eq-eqb, le-leb}
use Rattle.std.proofs.lemmas.List.Sums.{sum_by-cons}
use Rattle.sf_base.specs.declared.limits.TheConstants.{POINTS, ZERO_POINTS}
use Rattle.bank_parts.specs.declared.parts.Sample.{Sample}
use Rattle.bank_parts.specs.declared.parts.Parts.{Parts}
use Rattle.bank_parts.specs.Valid.{IsLoop, IsSample, point_total}
use Rattle.bank_parts.specs.Fits.{FitsSample}
use Rattle.bank_parts.specs.Sound.{IsSound}
use Rattle.script_tokens.specs.Pool.{and_then}
use Rattle.wave_file.specs.declared.fault.WaveFault.{WaveFault}
use Rattle.wave_file.specs.declared.recording.Recording.{Recording}
use Rattle.wave_file.proofs.BackLaws.{waves_read_back}
use Rattle.bank_folders.specs.Folders.{loop_end, mono_points, fitting}
use Rattle.bank_folders.specs.Laws.{GetsPoints}
use Rattle.bank_folders.proofs.LineLaws.{bare_sample}

loop_within : (n : ℕ) (looped : Option (ℕ × ℕ)) → IsLoop n looped → loop_end looped ≤ n
loop_within n None l = omega arith
loop_within n (Some looped) l = l.1

own_fit : (line i : ℕ) (s : Sample) → IsLoop (length s.points) s.looped
    → fitting (bare_sample line i s) s.rate s.points ≡ Ok s.points
own_fit line i s l =
    rw
    (eq-eqb s.rate s.rate refl, le-leb (loop_end s.looped) (length s.points) (loop_within (length s.points) s.looped l))
    refl

own_points : (line i : ℕ) (s : Sample) → FitsSample s → IsLoop (length s.points) s.looped → length s.points ≤ POINTS
    → GetsPoints (bare_sample line i s) s
own_points line i s f l most =
    ap
    (λ (r : Result Recording WaveFault).
    and_then r (λ (r : Recording). and_then (mono_points r.channels) (fitting (bare_sample line i s) r.rate)))
    (waves_read_back s f l most)
    ∙ own_fit line i s l

each_gets : (k : ℕ) (ss : List Sample) → AllByRecursion (IsSample k) ss → AllByRecursion FitsSample ss
    → point_total ss ≤ POINTS
    → AllByRecursion (λ (s : Sample). (line i : ℕ) → GetsPoints (bare_sample line i s) s) ss
each_gets k [] v f most = tt
each_gets k (s ∷ ss) v f most =
    let whole = sum_by-cons (λ (t : Sample). length t.points + ZERO_POINTS) s ss in (
      λ line i. own_points line i s f.0 v.0.looped (omega (arith, whole, most)),
      each_gets k ss v.1 f.1 (omega (arith, whole, most)),
    )

-- each sample of a bank, on any line and with any number
pub all_get : (b : Parts) → IsSound b
    → AllByRecursion (λ (s : Sample). (line i : ℕ) → GetsPoints (bare_sample line i s) s) b.samples
all_get b s = each_gets (length b.samples) b.samples s.valid.samples s.fits.samples s.valid.limits.points
