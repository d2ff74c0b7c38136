use Rattle.std.proofs.Common.{◌≡◌, ◌≤◌, ℤ, ◌+ℤ◌, w16, w64, to_z, FitsSigned, length, ap, ◌∙◌, arith, rules}
use Rattle.std.specs.Int.{cast_signed, int_wrap}
use Rattle.std.specs.List.{fold}
use Rattle.std.proofs.lemmas.Int.{wrapping_add_onto}
use Rattle.std.proofs.lemmas.List.{take_all}
use Rattle.sample_view.specs.Words.{words}
use Rattle.sample_view.proofs.WordLaws.{length-words}
use Rattle.show_findings.specs.Scans.{scan_more, mixed}
use Rattle.show_findings.proofs.ScanLaws.{scan_one}
use Rattle.show_findings.proofs.points.PointScan.add_piece.Goals as goal

pub loop-i-preserved : goal.loop-i-preserved
loop-i-preserved c =
    let word = c.from_le_bytes-word.result in
    let fits : FitsSigned w64 c.from-sum.result = search rules in
    let point : c.from-sum.result ≡ cast_signed w16 word = search rules in
    let sum =
    wrapping_add_onto w64 c.loop-i.sum-bits c.from-sum.result (search rules) fits
    ∙ ap (λ (z : ℤ). int_wrap w64 (to_z w64 c.loop-i.sum-bits +ℤ z)) point in
    let hash = c.mixed-hash.ensures ∙ ap (mixed c.loop-i.hash) c.from.ensures in
    let clips = c.add.ensures in
    scan_one c.args.self.now _ _ word c.args.bytes.now c.loop-i.i c.loop-i-test.true c.loop-i.invariant
    c.from_le_bytes-word.ensures (λ k. record { sum = sum k; hash = hash k; clips = clips k })

pub returns : goal.returns
returns c =
    let ws = words c.args.bytes.now in
    let past : length ws ≤ c.loop-i.i = omega (arith, length-words c.args.bytes.now, c.loop-i-test.false) in
    c.loop-i.invariant ∙ ap (fold scan_more c.args.self.now) (take_all c.loop-i.i ws past)
