-- Checks in sequence.
use Rattle.std.proofs.Common.{◌≡◌, Bool, true, false, cond, List, [], ◌∷◌, ◌++◌, Option, Some, None, Result, Ok, Err}
use Rattle.std.proofs.Common.{refl, sym, ap, ◌∙◌}
use Rattle.std.specs.List.{AllByRecursion}
use Rattle.std.specs.Prelude.{flat_map}
use Rattle.std.specs.Result.{IsErrAnd}
use Rattle.bank_format.specs.FaultChecks.{Check, first_fault, Passes}

-- if nothing fails, the first check holds and the rest have no fault
pub split_none : {A : Type 0} (b : Bool) (rest : Option A) (fault : A) → cond b rest (Some fault) ≡ None
    → (b ≡ true) × (rest ≡ None)
split_none true rest fault h = (refl, h)
split_none false rest fault h = absurd cc

fault_either : {A : Type 0} (b : Bool) (x y : Option A) (w f : A) → (x ≡ Some f → y ≡ Some f)
    → cond b x (Some w) ≡ Some f → cond b y (Some w) ≡ Some f
fault_either true x y w f g h = g h
fault_either false x y w f g h = h

module _ {F : Type 0} where
  -- appending checks after checks that hold
  pub first_fault-append : (xs ys : List (Check F)) → first_fault xs ≡ None → first_fault (xs ++ ys) ≡ first_fault ys
  first_fault-append [] ys h = refl
  first_fault-append (x ∷ xs) ys h =
      let both = split_none x.holds (first_fault xs) x.fault h in
      rw both.0 (first_fault-append xs ys both.1)

  pub then_none : (xs ys : List (Check F)) → first_fault xs ≡ None → first_fault ys ≡ None
      → first_fault (xs ++ ys) ≡ None
  then_none xs ys h k = first_fault-append xs ys h ∙ k

  -- the first fault of a list is the first fault of any extension of it
  pub first_fault-front : (xs ys : List (Check F)) (f : F) → first_fault xs ≡ Some f → first_fault (xs ++ ys) ≡ Some f
  first_fault-front [] ys f h = absurd cc
  first_fault-front (x ∷ xs) ys f h =
      fault_either x.holds (first_fault xs) (first_fault (xs ++ ys)) x.fault f (λ e. first_fault-front xs ys f e) h

  -- if an appended list has no fault, neither part has one
  pub both_none : (xs ys : List (Check F)) → first_fault (xs ++ ys) ≡ None
      → (first_fault xs ≡ None) × (first_fault ys ≡ None)
  both_none [] ys h = (refl, h)
  both_none (x ∷ xs) ys h =
      let both = split_none x.holds (first_fault (xs ++ ys)) x.fault h in
      let rest = both_none xs ys both.1 in
      (rw both.0 rest.0, rest.1)

  -- if a flat map has no fault, no list in it has one
  pub all_none : {X : Type 0} (f : X → List (Check F)) (xs : List X) → first_fault (flat_map f xs) ≡ None
      → AllByRecursion (λ x. first_fault (f x) ≡ None) xs
  all_none f [] h = tt
  all_none f (x ∷ xs) h = let both = both_none (f x) (flat_map f xs) h in (both.0, all_none f xs both.1)

  -- ---- functions of the reader, called in sequence

  -- a fault that is passed on
  pub passes_by : {X Y : Type 0} (view : X → Y) (value : Y) (r : Result X F) (f : F) (xs : List (Check F))
      → IsErrAnd r (λ e. e ≡ f) → first_fault xs ≡ Some f → Passes view r xs value
  passes_by view value (Ok x) f xs is h = absurd is
  passes_by view value (Err e) f xs is h = h ∙ ap Some (sym is)

  -- the first function fails
  pub passes_front : {X Y : Type 0} (view : X → Y) (value : Y) (r : Result X F) (f : F) (xs ys : List (Check F))
      → IsErrAnd r (λ e. e ≡ f) → first_fault xs ≡ Some f → Passes view r (xs ++ ys) value
  passes_front view value r f xs ys is h = passes_by view value r f (xs ++ ys) is (first_fault-front xs ys f h)

  -- a function after one that succeeds
  pub passes_after : {X Y : Type 0} (view : X → Y) (value : Y) (r : Result X F) (xs ys : List (Check F))
      → first_fault xs ≡ None → Passes view r ys value → Passes view r (xs ++ ys) value
  passes_after view value (Ok x) xs ys h k = (then_none xs ys h k.0, k.1)
  passes_after view value (Err e) xs ys h k = first_fault-append xs ys h ∙ k
