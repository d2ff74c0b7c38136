-- The operators that each level allows.
use Rattle.std.proofs.Common.{◌≡◌, ◌≢◌, ℕ, true, true≢false, refl, sym, ap, ◌∙◌, arith}
use Rattle.std.proofs.lemmas.Bool.Decides.{nat_tests}
use Rattle.generators.specs.declared.level.Level.{Level}
use Rattle.generators.specs.declared.level.Level.TheVariants.{Preset, Inst}
use Rattle.generators.specs.Levels.{is_allowed, target_operator}
use Rattle.generators.specs.Defaults.{default_of}
use Rattle.generators.specs.Laws.{TargetsAreNotAllowed, RangesAreAllowed, InstrumentsAllowMore, PlayedIsAllowed}

pub targets_are_not_allowed : TargetsAreNotAllowed
unfolding is_allowed
targets_are_not_allowed Preset Preset = refl
targets_are_not_allowed Preset Inst = refl
targets_are_not_allowed Inst Preset = refl
targets_are_not_allowed Inst Inst = refl

-- An operator that a level allows is not a target.
pub allowed-≢-target : (at other : Level) (op : ℕ) → is_allowed at op ≡ true → op ≢ target_operator other
allowed-≢-target at other op h e = true≢false (sym h ∙ ap (is_allowed at) e ∙ targets_are_not_allowed at other)

pub ranges_are_allowed : RangesAreAllowed
unfolding is_allowed
ranges_are_allowed Preset op h = grind (arith, nat_tests)
ranges_are_allowed Inst op h = grind (arith, nat_tests)

pub instruments_allow_more : InstrumentsAllowMore
unfolding is_allowed
instruments_allow_more op h = grind (arith, nat_tests)

pub played_is_allowed : PlayedIsAllowed
unfolding is_allowed default_of
played_is_allowed op h = grind (arith, nat_tests)
