-- What is read from the generator records of one bag.
use Rattle.std.specs.Prelude.{ℕ, Bool, false, List, map, not, ◌==◌, count_by, Some, None, if◌then◌else◌}
use Rattle.std.specs.FinMap.{get, insert}
use Rattle.generators.specs.Gens.{Gens}
use Rattle.generators.specs.declared.level.Level.{Level}
use Rattle.hydra_records.specs.declared.zone.Generator.{Generator}
use Rattle.bank_format.specs.Zones.{before_target, allowed_in, kept, repaired_range, needs_repair, target_of, dropped}
use Rattle.sf_reader.specs.declared.bag.GensRead.{GensRead}

abbrev pub gens_read_of : Level → List Generator → GensRead
gens_read_of at rs =
    record { target = target_of at rs; dropped = dropped at rs; ranges = count_by needs_repair (kept at rs) }

-- ---- while they are read

abbrev pub entry_of : Generator → ℕ × ℕ
entry_of r = (r.operator, r.amount)

-- the allowed entries before the target, in file order
abbrev pub entries_in : Level → List Generator → List (ℕ × ℕ)
entries_in at rs = map entry_of (allowed_in at (before_target at rs))

abbrev pub one_if : Bool → ℕ
one_if b = if b then 1 else 0

-- the operator is set to a range that must be repaired
abbrev pub is_out_of_order : ℕ → Gens → Bool
is_out_of_order op gs = elim (get gs op) [ None ↦ false | Some w ↦ not (repaired_range w == w) ]

-- the map with this operator's range repaired
abbrev pub repaired_at : ℕ → Gens → Gens
repaired_at op gs = elim (get gs op) [ None ↦ gs | Some w ↦ insert gs op (repaired_range w) ]
