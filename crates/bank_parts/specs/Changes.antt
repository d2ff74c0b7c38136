-- Changes of bags that insert or remove single records.
use Rattle.std.specs.Prelude.{ℕ, ◌+◌, ◌<◌, ◌≤◌, ◌==◌, if◌then◌else◌, List, [], ◌∷◌, length, remove, slice_set, Result, Ok, Err}
use Rattle.base_numbered_lists.specs.Moved.{changed}
use Rattle.flat_records.specs.Runs.{put, cut}
use Rattle.flat_records.specs.Bags.{Bag, with_gens, with_mods}
use Rattle.flat_records.specs.Owned.{bag_changed}

-- how many records a bag has
abbrev pub bag_size : Bag → ℕ
bag_size b = length b.gens + length b.mods

-- bag k of owner i, which is b, changed by f, which removes one record; a bag is removed with its last record
abbrev pub record_removed : List (List Bag) → ℕ → ℕ → (Bag → Bag) → Bag → List (List Bag)
record_removed bags i k f b = if bag_size b == 1 then changed bags i (λ own. remove own k) else bag_changed bags i k f

-- generator j of bag k of owner i, which is b, removed
abbrev pub gen_record_removed : List (List Bag) → ℕ → ℕ → ℕ → Bag → List (List Bag)
gen_record_removed bags i k j b = record_removed bags i k (λ (b : Bag). with_gens (cut b.gens j 1) b) b

-- modulator j of bag k of owner i, which is b, removed
abbrev pub mod_record_removed : List (List Bag) → ℕ → ℕ → ℕ → Bag → List (List Bag)
mod_record_removed bags i k j b = record_removed bags i k (λ (b : Bag). with_mods (cut b.mods j 1) b) b

-- the index of a generator, or one at which a generator can be inserted
abbrev pub FitsIndex : List (ℕ × ℕ) → Result ℕ ℕ → Type 0
FitsIndex gens (Ok j) = j < length gens
FitsIndex gens (Err j) = j ≤ length gens

-- the generators with e set at an index, or inserted at one
abbrev pub gens_with : List (ℕ × ℕ) → Result ℕ ℕ → ℕ × ℕ → List (ℕ × ℕ)
gens_with gens (Ok j) e = slice_set gens j e
gens_with gens (Err j) e = put gens j (e ∷ [])
