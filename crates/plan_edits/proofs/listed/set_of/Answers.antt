use Rattle.std.proofs.Common.{subst}
use Rattle.std.specs.BTreeSet.{IsFromIterResult}
use Rattle.std.specs.Prelude.{IfOk}
use Rattle.std.proofs.lemmas.Iterator.{YieldsList-from_slice}
use Rattle.std.proofs.lemmas.Iterator.Adapters.{fact_from_collect}
use Rattle.std.proofs.lemmas.Iterator.Consumers.{YieldsList-from_copied}
use Rattle.plan_edits.proofs.SetLaws.{order, same_numbers}
use Rattle.plan_edits.proofs.listed.set_of.Goals as goal

pub returns : goal.returns
returns c =
    let made =
    fact_from_collect (IsFromIterResult order) c.collect.result c.collect.ensures.ran
    (YieldsList-from_copied (YieldsList-from_slice c.args.list.now cc)) in
    same_numbers c.args.list.now c.in_ok-set.set (subst (λ r. IfOk r (IsFromIterResult order c.args.list.now)) c.in_ok-set.was made)
