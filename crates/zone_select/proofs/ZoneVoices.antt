-- The voices of a preset's or an instrument's zones: with targets that have the same voices, with zones in another
-- order, and with two zones in place of one.
use Rattle.std.proofs.Common.{◌≡◌, ℕ, ◌+◌, ◌<◌, Bool, true, false, cond, Option, Some, None, List, [], ◌∷◌}
use Rattle.std.proofs.Common.{slice_get, refl, subst}
use Rattle.std.specs.List.{flat_map}
use Rattle.std.specs.List.Sorted.{IsPermutation}
use Rattle.std.specs.Option.{option_map_or}
use Rattle.std.proofs.lemmas.List.Sorted.{IsPermutation-refl, IsPermutation-append}
use Rattle.base_numbered_lists.specs.Moved.{moved}
use Rattle.script_notes.specs.Notes.{Numbers}
use Rattle.bank_parts.specs.declared.parts.GlobalZone.{GlobalZone}
use Rattle.bank_parts.specs.declared.parts.Zone.{Zone}
use Rattle.bank_zone_ranges.specs.declared.axes.Axis.{Axis}
use Rattle.bank_zone_ranges.specs.declared.axes.Keep.{Keep}
use Rattle.bank_zone_ranges.specs.Splits.{lower_zone, upper_zone, split_in_two, zones_split, joined, merged, zones_joined}
use Rattle.bank_zone_ranges.proofs.SplitLaws.{IsSplitAt}
use Rattle.zone_select.specs.Ranges.{holds}
use Rattle.zone_select.specs.ZoneSettings.{ZoneSettings, zone_settings}
use Rattle.zone_select.specs.Select.{voices_of}
use Rattle.zone_select.proofs.Flattened.{flat_map-moved, flat_map-split_in_two, flat_map-merged}
use Rattle.zone_select.proofs.Halves.{halves-give}
use Rattle.zone_select.proofs.Joins.{AreJoinedInOrder, joined_gives}

-- the voices, or their images, of a target
abbrev pub Inside : Type 0 → Type 0
Inside X = ZoneSettings → ℕ → List X

given_same : {X : Type 0} (t : Bool) (xs ys : List X) → IsPermutation xs ys
    → IsPermutation (cond t xs []) (cond t ys [])
given_same true xs ys h = h
given_same false xs ys h = IsPermutation-refl []

-- each target has the same voices
pub voices_of-same : {X : Type 0} (inside other : Inside X)
    → ((v : ZoneSettings) (t : ℕ) → IsPermutation (inside v t) (other v t))
    → (n : Numbers) (global : GlobalZone) (zones : List Zone)
    → IsPermutation (voices_of inside n global zones) (voices_of other n global zones)
unfolding voices_of
voices_of-same inside other h n global [] = IsPermutation-refl []
voices_of-same inside other h n global (z ∷ zones) =
    IsPermutation-append _ _ _ _ (given_same (holds n global z) _ _ (h (zone_settings global z) z.target))
    (voices_of-same inside other h n global zones)

-- ---- zones moved, split and joined

pub voices_of-moved : {X : Type 0} (inside : Inside X) (n : Numbers) (global : GlobalZone) (zones : List Zone) (i j : ℕ)
    → IsPermutation (voices_of inside n global zones) (voices_of inside n global (moved zones i j))
unfolding voices_of
voices_of-moved inside n global zones i j =
    flat_map-moved (λ (z : Zone). cond (holds n global z) (inside (zone_settings global z) z.target) []) zones i j

-- zone k can be split, if it exists
abbrev pub CanSplit : Axis → ℕ → GlobalZone → List Zone → ℕ → Type 0
CanSplit axis m global zones k = (z : Zone) → slice_get zones k ≡ Some z → IsSplitAt axis m global z

pub voices_of-split : {X : Type 0} (inside : Inside X) (n : Numbers) (axis : Axis) (m : ℕ) (global : GlobalZone)
    (zones : List Zone) (k : ℕ)
    → m < 256 → CanSplit axis m global zones k
    → IsPermutation (voices_of inside n global zones) (voices_of inside n global (zones_split axis m global zones k))
unfolding voices_of
voices_of-split {X} inside n axis m global zones k small h =
    let give : Zone → List X = λ z. cond (holds n global z) (inside (zone_settings global z) z.target) [] in
    let at : (o : Option Zone) → slice_get zones k ≡ o
    → flat_map give zones
    ≡ flat_map give
    (option_map_or (λ (z : Zone). split_in_two zones k (lower_zone axis m global z) (upper_zone axis m global z)) o
    zones)
    =
    elim [
      | None ↦ λ e. refl
      | Some z ↦ λ e.
          flat_map-split_in_two give zones k (lower_zone axis m global z) (upper_zone axis m global z) z e
          (halves-give inside n global z axis m (h z e) small)
    ] in
    subst (IsPermutation (flat_map give zones)) (at (slice_get zones k) refl) (IsPermutation-refl (flat_map give zones))

-- zones k and k + 1 can be joined, if they exist
abbrev pub CanJoin : Axis → Keep → GlobalZone → List Zone → ℕ → Type 0
CanJoin axis keep global zones k =
    (y z : Zone) → slice_get zones k ≡ Some y → slice_get zones (k + 1) ≡ Some z
    → AreJoinedInOrder axis keep global y z

pub voices_of-joined : {X : Type 0} (inside : Inside X) (n : Numbers) (axis : Axis) (keep : Keep) (global : GlobalZone)
    (zones : List Zone) (k : ℕ)
    → CanJoin axis keep global zones k
    → IsPermutation (voices_of inside n global zones) (voices_of inside n global (zones_joined axis keep zones k))
unfolding voices_of
voices_of-joined {X} inside n axis keep global zones k h =
    let give : Zone → List X = λ x. cond (holds n global x) (inside (zone_settings global x) x.target) [] in
    let at : (o p : Option Zone) → slice_get zones k ≡ o → slice_get zones (k + 1) ≡ p
    → flat_map give zones
    ≡ flat_map give
    (option_map_or (λ (y : Zone). option_map_or (λ (z : Zone). merged zones k (joined axis keep y z)) p zones) o
    zones)
    =
    elim [
      | None ↦ λ p e g. refl
      | Some y ↦ elim [
        | None ↦ λ e g. refl
        | Some z ↦ λ e g.
            flat_map-merged give zones k (joined axis keep y z) y z e g
            (joined_gives inside n global y z axis keep (h y z e g))
      ]
    ] in
    subst (IsPermutation (flat_map give zones)) (at (slice_get zones k) (slice_get zones (k + 1)) refl refl)
    (IsPermutation-refl (flat_map give zones))
