use Rattle.std.proofs.Common.{◌≡◌, ◌≤◌, ◌-◌, List, rules, arith, ap, ◌∙◌, nat_lt, nat_le, drop, take, length, take_all, length-drop}
use Rattle.std.specs.List.{list_any}
use Rattle.std.proofs.lemmas.List.Sorted.{IsPartitionPoint-from_clause, IsPartitionedBy-leb, IsPartitionedBy-ltb}
use Rattle.std.proofs.lemmas.List.Sorted.{IsNonDecreasingBy-drop, IsNonDecreasingBy-take}
use Rattle.show_findings.specs.declared.zones.Use.{Use}
use Rattle.show_findings.proofs.GroupLaws.{group_any}
use Rattle.show_findings.proofs.zones.group.Goals as goal

pub returns : goal.returns
returns c =
    let uses = c.args.uses.now in
    let x = c.args.instrument in
    let start = c.partition_point-start.result in
    let end = c.partition_point-end.result in
    let inside = c.partition_point-start.ensures.bound in
    let rest : List Use = take (length uses - start) (drop start uses) in
    let first =
    IsPartitionPoint-from_clause (λ (u : Use). nat_lt u.target x) uses start
    c.partition_point-start.ensures.partitioned (IsPartitionedBy-ltb (λ (u : Use). u.target) uses x c.requires)
    (λ a r q k. search rules) in
    let second =
    IsPartitionPoint-from_clause (λ (u : Use). nat_le u.target x) rest end
    c.partition_point-end.ensures.partitioned
    (IsPartitionedBy-leb (λ (u : Use). u.target) rest x
    (IsNonDecreasingBy-take (λ (u : Use). u.target) (length uses - start) (drop start uses)
    (IsNonDecreasingBy-drop (λ (u : Use). u.target) start uses c.requires)))
    (λ a r q k. search rules) in
    let count = length-drop start uses in
    let whole : rest ≡ drop start uses = take_all (length uses - start) (drop start uses) (omega (arith, count)) in
    let bound = c.partition_point-end.ensures.bound in
    let within : end ≤ length (drop start uses) = rw whole at bound in
    λ p.
    ap (λ (r : List Use). list_any p (take end r)) whole
    ∙ group_any (λ (u : Use). u.target) p uses x start end inside within first (rw whole at second)
