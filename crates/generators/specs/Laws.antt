-- Laws of the order of operators, of maps of generators, and of the operators of each level.
use Rattle.std.specs.Prelude.{◌≡◌, ◌≢◌, ◌<◌, ◌+◌, ◌^◌, ℕ, List, length, map, Some, None, false, IsTrue, IsSome}
use Rattle.std.specs.Prelude.{slice_get}
use Rattle.std.specs.List.Sorted.{IsPermutation, IsStrictlyIncreasing}
use Rattle.std.specs.declared.cmp.Ordering.TheVariants.{Less}
use Rattle.std.specs.Ordering.{nat_cmp}
use Rattle.std.specs.FinMap.{get, insert, remove, len, entries, from_entries}
use Rattle.generators.specs.declared.level.Level.{Level}
use Rattle.generators.specs.declared.level.Level.TheVariants.{Preset, Inst}
use Rattle.generators.specs.Levels.{is_allowed, target_operator}
use Rattle.generators.specs.Ranges.{is_range_operator}
use Rattle.generators.specs.Defaults.{default_of}
use Rattle.generators.specs.Gens.{rank, operator_cmp, Gens, no_gens, set_in_order, last_of_each, FitGens}
use Rattle.generators.specs.Indexes.{operator_at}

-- ---- the order

-- The key range is before all others.
abbrev pub KeyRangeIsFirst : Type 0
KeyRangeIsFirst = (op : ℕ) → op ≢ 43 → operator_cmp 43 op ≡ Less

-- The velocity range is before all others except the key range.
abbrev pub VelRangeIsSecond : Type 0
VelRangeIsSecond = (op : ℕ) → op ≢ 43 → op ≢ 44 → operator_cmp 44 op ≡ Less

-- The others are in the order of their numbers.
abbrev pub OthersGoByNumber : Type 0
OthersGoByNumber = (x y : ℕ) → x ≢ 43 → x ≢ 44 → y ≢ 43 → y ≢ 44 → operator_cmp x y ≡ nat_cmp x y

-- ---- the entries

-- The ranks of a map's entries are strictly increasing.
abbrev pub RanksRise : Type 0
RanksRise = (m : Gens) → IsStrictlyIncreasing (map (λ e. rank e.0) (entries m))

-- No operator is at two indexes.
abbrev pub EachOperatorOnce : Type 0
EachOperatorOnce =
    (m : Gens) (i j : ℕ) → i < len m → j < len m → operator_at (entries m) i ≡ operator_at (entries m) j → i ≡ j

-- The amount of an entry is the amount of its operator.
abbrev pub EntriesAreSet : Type 0
EntriesAreSet = (m : Gens) (j op w : ℕ) → slice_get (entries m) j ≡ Some (op, w) → get m op ≡ Some w

-- Each operator that is set has an entry with its amount.
abbrev pub SetIsEntry : Type 0
SetIsEntry = (m : Gens) (op w : ℕ) → get m op ≡ Some w → (j : ℕ) × (slice_get (entries m) j ≡ Some (op, w))

-- Two maps with the same amount for each operator are equal.
abbrev pub AlikeAreEqual : Type 0
AlikeAreEqual = (m n : Gens) → ((op : ℕ) → get m op ≡ get n op) → m ≡ n

-- A map's entries, in any order, make the map.
abbrev pub EntriesGiveTheMap : Type 0
EntriesGiveTheMap = (m : Gens) (es : List (ℕ × ℕ)) → IsPermutation (entries m) es → from_entries es ≡ m

-- ---- one edit and its inverse

-- Setting an operator that is set, then setting it back, restores the map.
abbrev pub SettingBackRestores : Type 0
SettingBackRestores = (m : Gens) (op was w : ℕ) → get m op ≡ Some was → insert (insert m op w) op was ≡ m

-- Setting an operator that is not set, then clearing it, restores the map.
abbrev pub ClearingRestores : Type 0
ClearingRestores = (m : Gens) (op w : ℕ) → get m op ≡ None → remove (insert m op w) op ≡ m

-- Clearing an operator that is set, then setting it again, restores the map.
abbrev pub SettingAgainRestores : Type 0
SettingAgainRestores = (m : Gens) (op was : ℕ) → get m op ≡ Some was → insert (remove m op) op was ≡ m

-- Clearing an operator that is not set changes nothing.
abbrev pub ClearingNoneKeeps : Type 0
ClearingNoneKeeps = (m : Gens) (op : ℕ) → get m op ≡ None → remove m op ≡ m

-- Setting an operator to its present amount changes nothing.
abbrev pub SettingSameKeeps : Type 0
SettingSameKeeps = (m : Gens) (op was : ℕ) → get m op ≡ Some was → insert m op was ≡ m

-- ---- two edits

-- The last of two settings of an operator counts.
abbrev pub LastSettingCounts : Type 0
LastSettingCounts = (m : Gens) (op v w : ℕ) → insert (insert m op v) op w ≡ insert m op w

-- Settings of two operators commute.
abbrev pub SettingsCommute : Type 0
SettingsCommute = (m : Gens) (a b v w : ℕ) → a ≢ b → insert (insert m a v) b w ≡ insert (insert m b w) a v

-- Clearings commute, and so do a setting and a clearing of two operators.
abbrev pub ClearingsCommute : Type 0
ClearingsCommute = (m : Gens) (a b : ℕ) → remove (remove m a) b ≡ remove (remove m b) a

abbrev pub SettingAndClearingCommute : Type 0
SettingAndClearingCommute = (m : Gens) (a b v : ℕ) → a ≢ b → remove (insert m a v) b ≡ insert (remove m b) a v

-- ---- many settings

-- Of entries that are set in order, the last of each operator counts.
abbrev pub LastOfEachCount : Type 0
LastOfEachCount = (es : List (ℕ × ℕ)) → set_in_order no_gens es ≡ from_entries (last_of_each es)

-- As many operators are set as there are last entries.
abbrev pub LastOfEachAreAll : Type 0
LastOfEachAreAll = (es : List (ℕ × ℕ)) → len (set_in_order no_gens es) ≡ length (last_of_each es)

-- ---- lengths

abbrev pub NewSettingAddsOne : Type 0
NewSettingAddsOne = (m : Gens) (op w : ℕ) → get m op ≡ None → len (insert m op w) ≡ len m + 1

abbrev pub SettingAnewAddsNone : Type 0
SettingAnewAddsNone = (m : Gens) (op w : ℕ) → IsSome (get m op) → len (insert m op w) ≡ len m

abbrev pub ClearingRemovesOne : Type 0
ClearingRemovesOne = (m : Gens) (op : ℕ) → IsSome (get m op) → len (remove m op) + 1 ≡ len m

-- ---- numbers that fit

abbrev pub NoneFit : Type 0
NoneFit = FitGens no_gens

abbrev pub SettingFits : Type 0
SettingFits = (m : Gens) (op w : ℕ) → FitGens m → op < 2 ^ 16 → w < 2 ^ 16 → FitGens (insert m op w)

abbrev pub ClearingFits : Type 0
ClearingFits = (m : Gens) (op : ℕ) → FitGens m → FitGens (remove m op)

-- ---- levels

-- No level's maps may have a target operator.
abbrev pub TargetsAreNotAllowed : Type 0
TargetsAreNotAllowed = (at other : Level) → is_allowed at (target_operator other) ≡ false

-- Both levels allow key and velocity ranges.
abbrev pub RangesAreAllowed : Type 0
RangesAreAllowed = (at : Level) (op : ℕ) → IsTrue (is_range_operator op) → IsTrue (is_allowed at op)

-- Instruments allow all operators that presets allow.
abbrev pub InstrumentsAllowMore : Type 0
InstrumentsAllowMore = (op : ℕ) → IsTrue (is_allowed Preset op) → IsTrue (is_allowed Inst op)

-- Each played operator is allowed in instruments.
abbrev pub PlayedIsAllowed : Type 0
PlayedIsAllowed = (op : ℕ) → IsSome (default_of op) → IsTrue (is_allowed Inst op)
