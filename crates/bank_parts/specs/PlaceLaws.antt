-- The laws of a change of one place, or of the zones of one owner, in a list of presets or instruments.
use Rattle.std.specs.Prelude.{◌≡◌, ◌≢◌, ℕ, List, Some, slice_get}
use Rattle.std.specs.Option.{option_map}
use Rattle.bank_parts.specs.declared.parts.Zone.{Zone}
use Rattle.bank_parts.specs.declared.parts.ZoneOwner.{ZoneOwner}
use Rattle.bank_parts.specs.declared.owners.ZonePlace.{ZonePlace}
use Rattle.bank_parts.specs.declared.owners.ZonePlace.TheVariants as place
use Rattle.bank_parts.specs.Owners.{head_at, target_at}
use Rattle.bank_parts.specs.Settings.{Settings, settings_at, place_changed, zones_at, zones_changed}

-- ---- what is read after a change

abbrev pub PlaceRead : Type 0 → Type 0
PlaceRead H = (owners : List (ZoneOwner H)) (i : ℕ) (at : ZonePlace) (f : Settings → Settings)
    → settings_at (place_changed owners i at f) i at ≡ option_map f (settings_at owners i at)

abbrev pub ZonesRead : Type 0 → Type 0
ZonesRead H = (owners : List (ZoneOwner H)) (i : ℕ) (f : List Zone → List Zone)
    → zones_at (zones_changed owners i f) i ≡ option_map f (zones_at owners i)

-- ---- a change and a change that undoes it

abbrev pub PlaceReturns : Type 0 → Type 0
PlaceReturns H =
    (owners : List (ZoneOwner H)) (i : ℕ) (at : ZonePlace) (f g : Settings → Settings) (s : Settings)
    → settings_at owners i at ≡ Some s → g (f s) ≡ s
    → place_changed (place_changed owners i at f) i at g ≡ owners

abbrev pub ZonesReturn : Type 0 → Type 0
ZonesReturn H =
    (owners : List (ZoneOwner H)) (i : ℕ) (f g : List Zone → List Zone) (zones : List Zone)
    → zones_at owners i ≡ Some zones → g (f zones) ≡ zones
    → zones_changed (zones_changed owners i f) i g ≡ owners

-- ---- a change that keeps the old value

abbrev pub PlaceKept : Type 0 → Type 0
PlaceKept H =
    (owners : List (ZoneOwner H)) (i : ℕ) (at : ZonePlace) (f : Settings → Settings) (s : Settings)
    → settings_at owners i at ≡ Some s → f s ≡ s
    → place_changed owners i at f ≡ owners

abbrev pub ZonesKept : Type 0 → Type 0
ZonesKept H =
    (owners : List (ZoneOwner H)) (i : ℕ) (f : List Zone → List Zone) (zones : List Zone)
    → zones_at owners i ≡ Some zones → f zones ≡ zones
    → zones_changed owners i f ≡ owners

-- ---- what a change keeps

-- the other owners
abbrev pub OthersStay : Type 0 → Type 0
OthersStay H = (owners : List (ZoneOwner H)) (i j : ℕ) (at : ZonePlace) (f : Settings → Settings) → j ≢ i
    → slice_get (place_changed owners i at f) j ≡ slice_get owners j

abbrev pub OthersKeepZones : Type 0 → Type 0
OthersKeepZones H = (owners : List (ZoneOwner H)) (i j : ℕ) (f : List Zone → List Zone) → j ≢ i
    → slice_get (zones_changed owners i f) j ≡ slice_get owners j

-- the other places of the owner
abbrev pub PlacesStay : Type 0 → Type 0
PlacesStay H = (owners : List (ZoneOwner H)) (i : ℕ) (at other : ZonePlace) (f : Settings → Settings) → other ≢ at
    → settings_at (place_changed owners i at f) i other ≡ settings_at owners i other

-- the global zone, if zones change
abbrev pub GlobalStays : Type 0 → Type 0
GlobalStays H = (owners : List (ZoneOwner H)) (i j : ℕ) (f : List Zone → List Zone)
    → settings_at (zones_changed owners i f) j place.Global ≡ settings_at owners j place.Global

-- heads and targets
abbrev pub HeadsStay : Type 0 → Type 0
HeadsStay H = (owners : List (ZoneOwner H)) (i j : ℕ) (at : ZonePlace) (f : Settings → Settings)
    → head_at (place_changed owners i at f) j ≡ head_at owners j

abbrev pub HeadsStayByZones : Type 0 → Type 0
HeadsStayByZones H = (owners : List (ZoneOwner H)) (i j : ℕ) (f : List Zone → List Zone)
    → head_at (zones_changed owners i f) j ≡ head_at owners j

abbrev pub TargetsStay : Type 0 → Type 0
TargetsStay H = (owners : List (ZoneOwner H)) (i j k : ℕ) (at : ZonePlace) (f : Settings → Settings)
    → target_at (place_changed owners i at f) j k ≡ target_at owners j k
