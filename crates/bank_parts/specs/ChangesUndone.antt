-- The undo laws of edits of zones, generators and modulators, and what is read between an edit and its inverse.
use Rattle.std.specs.Prelude.{◌≡◌, ◌≤◌, ℕ, List, length, Some, None, IsSome, IsSomeAnd}
use Rattle.modulators.specs.declared.modulator.Modulator.{Modulator}
use Rattle.bank_parts.specs.declared.parts.Zone.{Zone}
use Rattle.bank_parts.specs.declared.parts.ZoneOwner.{ZoneOwner}
use Rattle.bank_parts.specs.declared.owners.ZonePlace.{ZonePlace}
use Rattle.bank_parts.specs.declared.owners.ZonePlace.TheVariants as place
use Rattle.bank_parts.specs.Owners.{HasPlace, zone_count_at, zone_at, target_at, mods_at, amount_at, mod_at}
use Rattle.bank_parts.specs.ZoneChanges.{zone_added, zone_removed, zone_moved, target_set, gen_set, gen_cleared}
use Rattle.bank_parts.specs.ZoneChanges.{mod_added, mod_removed, mod_set}

-- ---- zones

abbrev pub ZoneAddedUndone : Type 0 → Type 0
ZoneAddedUndone H =
    (owners : List (ZoneOwner H)) (i k : ℕ) (zone : Zone) → IsSomeAnd (zone_count_at owners i) (λ count. k ≤ count)
    → zone_removed (zone_added owners i k zone) i k ≡ owners

abbrev pub ZoneRemovedUndone : Type 0 → Type 0
ZoneRemovedUndone H = (owners : List (ZoneOwner H)) (i k : ℕ) (zone : Zone) → zone_at owners i k ≡ Some zone
    → zone_added (zone_removed owners i k) i k zone ≡ owners

abbrev pub ZoneMovedUndone : Type 0 → Type 0
ZoneMovedUndone H =
    (owners : List (ZoneOwner H)) (i from to : ℕ) → HasPlace owners i (place.Zone from)
    → HasPlace owners i (place.Zone to)
    → zone_moved (zone_moved owners i from to) i to from ≡ owners

abbrev pub TargetSetBack : Type 0 → Type 0
TargetSetBack H = (owners : List (ZoneOwner H)) (i k was target : ℕ) → target_at owners i k ≡ Some was
    → target_set (target_set owners i k target) i k was ≡ owners

-- ---- generators

abbrev pub GenSetBack : Type 0 → Type 0
GenSetBack H =
    (owners : List (ZoneOwner H)) (i : ℕ) (at : ZonePlace) (op was amount : ℕ) → amount_at owners i at op ≡ Some was
    → gen_set (gen_set owners i at op amount) i at op was ≡ owners

abbrev pub GenSetCleared : Type 0 → Type 0
GenSetCleared H =
    (owners : List (ZoneOwner H)) (i : ℕ) (at : ZonePlace) (op amount : ℕ) → HasPlace owners i at
    → amount_at owners i at op ≡ None
    → gen_cleared (gen_set owners i at op amount) i at op ≡ owners

abbrev pub GenClearedUndone : Type 0 → Type 0
GenClearedUndone H =
    (owners : List (ZoneOwner H)) (i : ℕ) (at : ZonePlace) (op was : ℕ) → amount_at owners i at op ≡ Some was
    → gen_set (gen_cleared owners i at op) i at op was ≡ owners

-- ---- modulators

abbrev pub ModAddedUndone : Type 0 → Type 0
ModAddedUndone H =
    (owners : List (ZoneOwner H)) (i : ℕ) (at : ZonePlace) (j : ℕ) (m : Modulator)
    → IsSomeAnd (mods_at owners i at) (λ mods. j ≤ length mods)
    → mod_removed (mod_added owners i at j m) i at j ≡ owners

abbrev pub ModRemovedUndone : Type 0 → Type 0
ModRemovedUndone H =
    (owners : List (ZoneOwner H)) (i : ℕ) (at : ZonePlace) (j : ℕ) (m : Modulator) → mod_at owners i at j ≡ Some m
    → mod_added (mod_removed owners i at j) i at j m ≡ owners

abbrev pub ModSetBack : Type 0 → Type 0
ModSetBack H =
    (owners : List (ZoneOwner H)) (i : ℕ) (at : ZonePlace) (j : ℕ) (was m : Modulator)
    → mod_at owners i at j ≡ Some was
    → mod_set (mod_set owners i at j m) i at j was ≡ owners

-- ---- what is read between an edit and its inverse

abbrev pub ZoneAddedRead : Type 0 → Type 0
ZoneAddedRead H =
    (owners : List (ZoneOwner H)) (i k : ℕ) (zone : Zone) → IsSomeAnd (zone_count_at owners i) (λ count. k ≤ count)
    → zone_at (zone_added owners i k zone) i k ≡ Some zone

abbrev pub ZoneMovedRead : Type 0 → Type 0
ZoneMovedRead H =
    (owners : List (ZoneOwner H)) (i from to : ℕ) → HasPlace owners i (place.Zone from)
    → HasPlace owners i (place.Zone to)
    → zone_at (zone_moved owners i from to) i to ≡ zone_at owners i from

abbrev pub TargetSetRead : Type 0 → Type 0
TargetSetRead H = (owners : List (ZoneOwner H)) (i k target : ℕ) → HasPlace owners i (place.Zone k)
    → target_at (target_set owners i k target) i k ≡ Some target

abbrev pub GenSetRead : Type 0 → Type 0
GenSetRead H = (owners : List (ZoneOwner H)) (i : ℕ) (at : ZonePlace) (op amount : ℕ) → HasPlace owners i at
    → amount_at (gen_set owners i at op amount) i at op ≡ Some amount

abbrev pub GenClearedRead : Type 0 → Type 0
GenClearedRead H = (owners : List (ZoneOwner H)) (i : ℕ) (at : ZonePlace) (op : ℕ)
    → amount_at (gen_cleared owners i at op) i at op ≡ None

abbrev pub ModAddedRead : Type 0 → Type 0
ModAddedRead H =
    (owners : List (ZoneOwner H)) (i : ℕ) (at : ZonePlace) (j : ℕ) (m : Modulator)
    → IsSomeAnd (mods_at owners i at) (λ mods. j ≤ length mods)
    → mod_at (mod_added owners i at j m) i at j ≡ Some m

abbrev pub ModSetRead : Type 0 → Type 0
ModSetRead H =
    (owners : List (ZoneOwner H)) (i : ℕ) (at : ZonePlace) (j : ℕ) (m : Modulator) → IsSome (mod_at owners i at j)
    → mod_at (mod_set owners i at j m) i at j ≡ Some m
