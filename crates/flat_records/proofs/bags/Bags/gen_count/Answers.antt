use Rattle.std.proofs.Common.{◌∙◌}
use Rattle.flat_records.proofs.TableLaws.{held, gens_size, without_last}
use Rattle.flat_records.proofs.bags.Bags.gen_count.Goals as goal

pub overflow_sub-result : goal.overflow_sub-result
overflow_sub-result c =
    (without_last (gens_size (held c.self.invariant c.self.view_is)) (c.len.ensures ∙ c.self.inside.gens.ok.0)).0

pub returns : goal.returns
returns c =
    (without_last (gens_size (held c.self.invariant c.self.view_is)) (c.len.ensures ∙ c.self.inside.gens.ok.0)).1
