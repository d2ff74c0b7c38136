use Rattle.std.proofs.Common.{rules, sym}
use Rattle.std.proofs.lemmas.List.Sorted.{list_any-IsPermutation, IsNonDecreasingBy-from_sort_by_key}
use Rattle.show_findings.specs.declared.zones.Use.{Use}
use Rattle.show_findings.proofs.zones.sort_uses.Goals as goal

pub returns-clause-same : goal.returns-clause-same
returns-clause-same c = λ p. sym (list_any-IsPermutation p _ _ c.sort_unstable_by_key.ensures.permutation)

pub returns-clause-ascend : goal.returns-clause-ascend
returns-clause-ascend c =
    IsNonDecreasingBy-from_sort_by_key (λ (u : Use). u.target) _ c.sort_unstable_by_key.ensures.sorted
    (λ a r q k. search rules)
