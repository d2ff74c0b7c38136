use Rattle.generators.proofs.Maps.{entries_held}
use Rattle.generators.proofs.gen_map.GenMap.search.Goals as goal

-- The slice is the map's entries.
pub search_entries-requires : goal.search_entries-requires
search_entries-requires c = rw c.deref.ensures.value c.self.invariant.sorted

pub returns : goal.returns
returns c = rw (entries_held c.self.invariant c.self.view_is, ← c.deref.ensures.value) c.search_entries.ensures
