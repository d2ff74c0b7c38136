-- The raw changes of one sample: of its points and with them its loop, of its loop alone, of its kind, and of its
-- tuning.
use Rattle.std.specs.Prelude.{ℕ, ℤ, ◌+◌, ◌-◌, ◌++◌, [], Option, List, length, slice_get, slice_range}
use Rattle.std.specs.Option.{option_map, option_map_or, option_and_then}
use Rattle.base_numbered_lists.specs.Moved.{changed}
use Rattle.bank_parts.specs.declared.parts.Kind.{Kind}
use Rattle.bank_parts.specs.declared.parts.Sample.{Sample}
use Rattle.bank_parts.specs.declared.parts.Parts.{Parts}

-- the points of a sample; no points if there is no such sample
abbrev pub points_of : Parts → ℕ → List ℕ
points_of b i = option_map_or (λ (s : Sample). s.points) (slice_get b.samples i) []

-- the loop of a sample; none if there is no loop or no such sample
abbrev pub loop_of : Parts → ℕ → Option (ℕ × ℕ)
loop_of b i = option_and_then (λ (s : Sample). s.looped) (slice_get b.samples i)

-- a sample without its first front and last back points; the loop moves with its points
abbrev pub trimmed : ℕ → ℕ → Sample → Sample
trimmed front back s = record s {
  points = slice_range s.points front (length s.points - back);
  looped = option_map (λ (ends : ℕ × ℕ). (ends.0 - front, ends.1 - front)) s.looped;
}

-- a sample with points added before and after its own; the loop moves with its points
abbrev pub extended : List ℕ → List ℕ → Sample → Sample
extended front back s = record s {
  points = front ++ s.points ++ back;
  looped = option_map (λ (ends : ℕ × ℕ). (ends.0 + length front, ends.1 + length front)) s.looped;
}

-- a sample with this loop
abbrev pub with_loop : Option (ℕ × ℕ) → Sample → Sample
with_loop looped s = record s { looped = looped }

-- a sample of this kind
abbrev pub with_kind : Kind → Sample → Sample
with_kind kind s = record s { kind = kind }

-- a sample with this rate, original key and correction
abbrev pub with_tune : ℕ → ℕ → ℤ → Sample → Sample
with_tune rate key correction s = record s { rate = rate; key = key; correction = correction }

-- the sample is changed by f, and nothing else changes
abbrev pub sample_changed : Parts → ℕ → (Sample → Sample) → Parts
sample_changed b i f = record b { samples = changed b.samples i f }

abbrev pub sample_trimmed : Parts → ℕ → ℕ → ℕ → Parts
sample_trimmed b i front back = sample_changed b i (trimmed front back)

abbrev pub sample_extended : Parts → ℕ → List ℕ → List ℕ → Parts
sample_extended b i front back = sample_changed b i (extended front back)

abbrev pub loop_set : Parts → ℕ → Option (ℕ × ℕ) → Parts
loop_set b i looped = sample_changed b i (with_loop looped)

abbrev pub kind_set : Parts → ℕ → Kind → Parts
kind_set b i kind = sample_changed b i (with_kind kind)

abbrev pub tune_set : Parts → ℕ → ℕ → ℕ → ℤ → Parts
tune_set b i rate key correction = sample_changed b i (with_tune rate key correction)
