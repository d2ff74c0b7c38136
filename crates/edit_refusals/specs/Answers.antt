-- The results of one test, and of all tests of a step.
use Rattle.std.specs.Prelude.{◌≡◌, true, false, Option, Some, None, Result, Ok, Err}
use Rattle.edit_forms.specs.declared.cause.Cause.{Cause}
use Rattle.edit_forms.specs.Causes.{Test}

-- `Ok` if the test does not apply, otherwise its cause
abbrev pub IsTestResult : Test → Result (Unit {0}) Cause → Type 0
IsTestResult t (Ok done) = t.applies ≡ false
IsTestResult t (Err cause) = (t.applies ≡ true) × (cause ≡ t.cause)

-- `Ok` if the step is accepted, otherwise the cause
abbrev pub IsRefuseResult : Option Cause → Result (Unit {0}) Cause → Type 0
IsRefuseResult why (Ok done) = why ≡ None
IsRefuseResult why (Err cause) = why ≡ Some cause
