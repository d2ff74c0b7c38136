use Rattle.std.proofs.Common.{rules, tests, map, subst}
use Rattle.std.specs.Prelude.{IfOk}
use Rattle.std.specs.BTreeSet.{IsFromIterResult}
use Rattle.std.proofs.lemmas.Iterator.{YieldsList-from_slice, YieldsList-from_map}
use Rattle.std.proofs.lemmas.Iterator.Adapters.{fact_from_collect}
use Rattle.plan_edits.specs.Playing.{preset_of}
use Rattle.plan_edits.proofs.SetLaws.{order, same_numbers}
use Rattle.plan_edits.proofs.keep_played.presets_of.Goals as goal

pub returns : goal.returns
returns c =
    let list = map preset_of c.args.notes.now in
    let made =
    fact_from_collect (IsFromIterResult order) c.collect.result c.collect.ensures.ran
    (YieldsList-from_map _ preset_of (YieldsList-from_slice c.args.notes.now cc) c.map.ensures.closure (λ x r q k. search (rules, tests))) in
    same_numbers list c.in_ok-presets.presets (subst (λ r. IfOk r (IsFromIterResult order list)) c.in_ok-presets.was made)
