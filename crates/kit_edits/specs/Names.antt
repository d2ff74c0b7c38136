-- The names of a kit's samples: names of files, truncated, and kept distinct.
use Rattle.std.specs.Prelude.{◌≡◌, ◌-◌, ◌||◌, ◌==◌, not, ℕ, Bool, if◌then◌else◌, codes, decimal, unwrap_or}
use Rattle.std.specs.Prelude.{List, [], ◌∷◌, ◌++◌, length, map, take}
use Rattle.std.specs.List.{find, list_any, range_with_len}
use Rattle.std.specs.Str.{bytes_eq}
use Rattle.std.specs.HashSet.{contains}
use Rattle.sf_base.specs.declared.limits.TheConstants.{NAME_LENGTH}
use Rattle.sf_base.specs.Names.{before_zero, filled}
use Rattle.kit_edits.specs.declared.names.TheConstants.{OWN_LENGTH, CANDIDATES}
use Rattle.kit_edits.specs.declared.used_names.UsedNames.{UsedNames}

-- ---- the names of one recording

-- the most bytes of a recording's name; the names of stereo samples have two more
abbrev pub own_length : Bool → ℕ
own_length is_stereo = if is_stereo then OWN_LENGTH else NAME_LENGTH

-- the first n bytes, up to the first zero byte
abbrev pub truncated : ℕ → List ℕ → List ℕ
truncated n stem = before_zero (take n stem)

-- `~k`, the mark of candidate k
abbrev pub mark : ℕ → List ℕ
mark k = codes "~" ++ decimal k

-- Candidate k for a name of at most n bytes: the stem truncated to n bytes, and for k above 1 to so many that the mark
-- fits after it.
abbrev pub candidate : ℕ → List ℕ → ℕ → List ℕ
candidate n stem k =
    if k == 1 then truncated n stem else truncated (n - length (mark k)) stem ++ mark k

-- the candidates in order, from 1
unfoldable pub candidates : ℕ → List ℕ → List (List ℕ)
candidates n stem = map (candidate n stem) (range_with_len 1 CANDIDATES)

-- the names of the samples of a recording with this name
abbrev pub sample_names : Bool → List ℕ → List (List ℕ)
sample_names is_stereo name =
    if is_stereo then (name ++ codes " L") ∷ (name ++ codes " R") ∷ [] else name ∷ []

-- ---- names in use

-- one of the names fills its field with the same bytes
abbrev pub is_among : List (List ℕ) → List ℕ → Bool
is_among names name = list_any (λ (other : List ℕ). bytes_eq (filled other) (filled name)) names

-- no sample of a recording with this name has a name in use
abbrev pub is_free : (List ℕ → Bool) → Bool → List ℕ → Bool
is_free used is_stereo name = not (list_any used (sample_names is_stereo name))

-- the first candidate that is free, or candidate 1 if none is
abbrev pub free_name : (List ℕ → Bool) → Bool → List ℕ → List ℕ
free_name used is_stereo stem =
    unwrap_or (find (is_free used is_stereo) (candidates (own_length is_stereo) stem))
    (candidate (own_length is_stereo) stem 1)

-- the names in use after others are added
abbrev pub with_names : List (List ℕ) → (List ℕ → Bool) → List ℕ → Bool
with_names names used name = used name || is_among names name

-- ---- a set of them

-- a name is in the set
abbrev pub has_name : UsedNames → List ℕ → Bool
has_name set name = contains bytes_eq set.fields (filled name)

-- one name is added
abbrev pub AddsName : UsedNames → UsedNames → List ℕ → Type 0
AddsName old new name = (n : List ℕ) → has_name new n ≡ with_names (name ∷ []) (has_name old) n

-- some names are added
abbrev pub AddsNames : UsedNames → UsedNames → List (List ℕ) → Type 0
AddsNames old new names = (n : List ℕ) → has_name new n ≡ with_names names (has_name old) n
