use Rattle.std.proofs.Common.{take}
use Rattle.std.specs.List.{AllByRecursion}
use Rattle.sf_base.specs.Names.{IsName}
use Rattle.bank_parts.proofs.level_contents.heads_fit.Given as goal

abbrev pub invariant-loop-head : goal.invariant-loop-head
invariant-loop-head g l = record {
  named : AllByRecursion (λ h. IsName (g.H.OwnerHead.name h)) (take l.head-index l.heads);
  fit : AllByRecursion g.H.OwnerHead.IsFit (take l.head-index l.heads);
}
