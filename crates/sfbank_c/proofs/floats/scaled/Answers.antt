use Rattle.std.proofs.Common.{◌≡◌, ap, ◌∙◌, negsuc, false, rules}
use Rattle.std.specs.Float.{Float, binary32, fin}
use lib.Ieee.{mul, of_int}
use Rattle.sfbank_c.specs.Floats.{scaled}
use Rattle.sfbank_c.proofs.FloatLaws.{step_is}
use Rattle.sfbank_c.proofs.floats.scaled.Goals as goal

pub returns : goal.returns
unfolding scaled
returns c =
    let e : c.from.result ≡ of_int binary32 c.args.value = search rules in
    ap (λ (x : Float). mul binary32 x c.from.result) step_is ∙ ap (mul binary32 (fin false 1 (negsuc 14))) e
