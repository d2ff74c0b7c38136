use Rattle.std.proofs.Common.{rules}
use Rattle.std.proofs.lemmas.List.Sorted.{answers_always}
use Rattle.generators.specs.Gens.{rank}
use Rattle.generators.proofs.Search.{searched}
use Rattle.generators.proofs.gen_map.search_entries.Goals as goal

-- The closure returns an entry's rank.
pub returns : goal.returns
returns c =
    let facts = c.binary_search_by_key.ensures in
    let by_rank = facts.position (λ entry. rank entry.0) (answers_always _ _ _ (λ f a r g called. search rules)) in
    searched c.args.entries.now c.requires c.args.operator c.binary_search_by_key.result facts.bound
    (rw c.rank.ensures at by_rank)
