use Rattle.std.proofs.Common.{◌∙◌}
use Rattle.flat_records.proofs.TableLaws.{held, mods_size, without_last}
use Rattle.flat_records.proofs.bags.Bags.mod_count.Goals as goal

pub overflow_sub-result : goal.overflow_sub-result
overflow_sub-result c =
    (without_last (mods_size (held c.self.invariant c.self.view_is)) (c.len.ensures ∙ c.self.inside.mods.ok.0)).0

pub returns : goal.returns
returns c =
    (without_last (mods_size (held c.self.invariant c.self.view_is)) (c.len.ensures ∙ c.self.inside.mods.ok.0)).1
