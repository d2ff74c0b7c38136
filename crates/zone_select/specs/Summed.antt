-- The linear modulators of a pair are those that are summed, each once.
use Rattle.std.specs.Prelude.{◌==◌, ℕ}
use Rattle.std.specs.List.{Contains, IsDistinct}
use Rattle.modulators.specs.declared.modulator.Modulator.{Modulator}
use Rattle.modulators.specs.Modulators.{SameIdentity}
use Rattle.modulators.specs.Linear.{IsLinear, linear_destinations}
use Rattle.zone_select.specs.Amounts.{linear_sources, linear_from}

-- a linear modulator has one of the sources, and the identity that is summed for this source
abbrev pub LinearAreSummed : Type 0
LinearAreSummed =
    (m : Modulator) → IsLinear m → Contains linear_sources m.source × SameIdentity m (linear_from m.source m.dest)

-- there is a linear modulator from each source to each generator that may be modulated
abbrev pub SummedAreLinear : Type 0
SummedAreLinear =
    (source op : ℕ) → Contains linear_sources source → Contains linear_destinations op
    → IsLinear (linear_from source op)

-- no source is summed twice
abbrev pub SummedOnce : Type 0
SummedOnce = IsDistinct (λ x y. x == y) linear_sources
