-- A sequence of checks, and the fault of the first that fails.
use Rattle.std.specs.Prelude.{◌≡◌, List, [], ◌∷◌, Bool, Option, Some, None, Result, Ok, Err, if◌then◌else◌}
use Rattle.sf_base.specs.declared.memory.Failure.{Failure}
use Rattle.sf_base.specs.declared.memory.Failure.TheVariants.{Fault, OutOfMemory}

-- a condition, and the fault if it does not hold
pub record Check (F : Type 0) : Type 0 where
  pub holds : Bool
  pub fault : F

abbrev pub check : {F : Type 0} → Bool → F → Check F
check holds fault = record { holds = holds; fault = fault }

abbrev pub first_fault : {F : Type 0} → List (Check F) → Option F
first_fault [] = None
first_fault (s ∷ checks) = if s.holds then first_fault checks else Some s.fault

-- A function of the reader makes these checks: it returns the value (as `view` sees it) if all hold, and otherwise
-- the fault of the first that fails.
abbrev pub Passes : {X Y F : Type 0} → (X → Y) → Result X F → List (Check F) → Y → Type 0
Passes view (Ok x) checks value = (first_fault checks ≡ None) × (view x ≡ value)
Passes view (Err fault) checks value = first_fault checks ≡ Some fault

-- the first failing check's fault, or `OutOfMemory`, which any call that allocates may return
abbrev pub Fails : {F : Type 0} → Failure F → Option F → Type 0
Fails (Fault fault) broken = broken ≡ Some fault
Fails OutOfMemory broken = Unit {0}

-- The same for a function that allocates.
abbrev pub PassesOrOutOfMemory : {X Y F : Type 0} → (X → Y) → Result X (Failure F) → List (Check F) → Y → Type 0
PassesOrOutOfMemory view (Ok x) checks value = (first_fault checks ≡ None) × (view x ≡ value)
PassesOrOutOfMemory view (Err failure) checks value = Fails failure (first_fault checks)
