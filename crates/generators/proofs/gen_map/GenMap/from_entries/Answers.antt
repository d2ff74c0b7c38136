use Rattle.std.proofs.Common.{◌∙◌, sym, subst, refl}
use Rattle.generators.specs.Gens.{AreGens}
use Rattle.generators.proofs.Maps.{entries_held}
use Rattle.generators.proofs.gen_map.GenMap.from_entries.Goals as goal

pub invariant_of-result : goal.invariant_of-result
invariant_of-result c = subst AreGens (sym c.in_ok-from_slice.ensures.items) c.requires

pub returns : goal.returns
returns c =
    entries_held (subst AreGens (sym c.in_ok-from_slice.ensures.items) c.requires) refl
    ∙ c.in_ok-from_slice.ensures.items
