-- The remaining pairs of an iterator, and zones from the queries of a bank.
use Rattle.std.specs.Prelude.{ℕ, ◌+◌, Bool, false, List, [], ◌++◌, map, Option, None, Some, unwrap_or, slice_get}
use Rattle.std.specs.List.{flat_map}
use Rattle.std.specs.Option.{option_map_or}
use Rattle.script_notes.specs.Notes.{Numbers}
use Rattle.bank_changes.specs.declared.members.Owner.{Owner}
use Rattle.bank_changes.specs.declared.members.Owner.TheVariants as owner
use Rattle.bank_changes.specs.Members.{read_of_owner, owner_zone_count, target_of}
use Rattle.bank_parts.specs.declared.parts.Head.{Head}
use Rattle.bank_parts.specs.declared.parts.ZoneOwner.{ZoneOwner}
use Rattle.bank_parts.specs.declared.parts.Zone.{Zone}
use Rattle.bank_parts.specs.declared.parts.Parts.{Parts}
use Rattle.zone_select.specs.Pairs.{holds_at, held, held_inside, pairs_at}

-- how many zones an owner has; 0 if it doesn't exist
abbrev pub zones_in : Parts → Owner → ℕ
zones_in b o = unwrap_or (owner_zone_count b o) 0

-- an owner has zone k, and it contains the note
abbrev pub owner_holds : Parts → Numbers → Owner → ℕ → Bool
owner_holds b n o k =
    read_of_owner b o (λ H owners i.
    option_map_or (λ (x : ZoneOwner H). holds_at n x.global x.zones k) (slice_get owners i) false)

-- the numbers of an owner's zones that contain the note, from k on
abbrev pub owner_held : Parts → Numbers → Owner → ℕ → List ℕ
owner_held b n o k =
    read_of_owner b o (λ H owners i.
    option_map_or (λ (x : ZoneOwner H). held n x.global x.zones k) (slice_get owners i) [])

-- the pairs of zone k of a preset with an instrument's zone from l on, and those of the later zones
abbrev pub remaining_of : Parts → Numbers → ℕ → ℕ → ZoneOwner Head → List (ℕ × ℕ)
remaining_of b n k l p =
    option_map_or (λ (z : Zone). map (λ (m : ℕ). let q : ℕ × ℕ = (k, m) in q) (held_inside b n z.target l))
    (slice_get p.zones k) []
    ++ flat_map (pairs_at b n p.zones) (held n p.global p.zones (k + 1))

-- the same for a preset's number; none if no zone remains
abbrev pub remaining_pairs : Parts → Numbers → ℕ → Option ℕ → ℕ → List (ℕ × ℕ)
remaining_pairs b n p None l = []
remaining_pairs b n p (Some k) l = option_map_or (remaining_of b n k l) (slice_get b.presets p) []

-- the zones, from l on, of the instrument of zone k of a preset that contain the note
abbrev pub inside_held : Parts → Numbers → ℕ → ℕ → ℕ → List ℕ
inside_held b n p k l = option_map_or (λ (t : ℕ). held_inside b n t l) (target_of b (owner.Preset p) k) []
