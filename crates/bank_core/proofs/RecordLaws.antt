-- The length of each list of records of a valid bank fits 32 bits.
use Rattle.std.proofs.Common.{◌≤◌, ◌<◌, ◌^◌, List, length, arith}
use Rattle.generators.specs.declared.level.Level.{Level}
use Rattle.generators.specs.declared.level.Level.TheVariants as level
use Rattle.bank_parts.specs.declared.parts.ZoneOwner.{ZoneOwner}
use Rattle.bank_parts.specs.declared.parts.Parts.{Parts}
use Rattle.bank_parts.specs.Valid.{owner_total, zone_count, gen_count, mod_count, IsValid}
use Rattle.bank_parts.specs.FlatLists.{lists_of, flat_of}
use Rattle.bank_parts.proofs.FlatListLaws.{first_bags_size, bags_size, gens_size, mods_size}
use Rattle.bank_core.specs.declared.records.Part.{Part}
use Rattle.bank_core.specs.declared.records.Part.TheVariants as part
use Rattle.bank_core.specs.Records.{record_count}

few : {H : Type 0} (at : Level) (owners : List (ZoneOwner H)) → length owners ≤ 65535
    → owner_total zone_count owners ≤ 65535 → owner_total gen_count owners ≤ 65535
    → owner_total mod_count owners ≤ 65535
    → (of : Part) → record_count (lists_of at owners) of < 2 ^ 32
few at owners heads bags gens mods part.Heads = let size = first_bags_size at owners in omega (arith, heads, size)
few at owners heads bags gens mods part.Bags = let size = bags_size at owners in omega (arith, bags, size)
few at owners heads bags gens mods part.Gens = let size = gens_size at owners in omega (arith, gens, size)
few at owners heads bags gens mods part.Mods = let size = mods_size at owners in omega (arith, mods, size)

pub few_records : (b : Parts) → IsValid b → (at : Level) (of : Part) → record_count (flat_of at b) of < 2 ^ 32
few_records b valid level.Preset of =
    let l = valid.limits in few level.Preset b.presets l.presets l.preset_zones l.preset_gens l.preset_mods of
few_records b valid level.Inst of =
    let l = valid.limits in
    few level.Inst b.instruments l.instruments l.instrument_zones l.instrument_gens l.instrument_mods of
