-- Functions of the reader that allocate, called in sequence; and checks with one fault.
use Rattle.std.proofs.Common.{◌≡◌, ◌&&◌, Bool, true, false, cond, List, [], ◌∷◌, ◌++◌, map, Option, Some, None}
use Rattle.std.proofs.Common.{Result, Ok, Err, refl, sym, subst, ◌∙◌}
use Rattle.std.specs.Result.{IsErrAnd, IfErr, OnOk}
use Rattle.std.specs.List.{list_all}
use Rattle.sf_base.specs.declared.memory.Failure.{Failure}
use Rattle.sf_base.specs.declared.memory.Failure.TheVariants.{Fault, OutOfMemory}
use Rattle.bank_format.specs.declared.fault.ReadFault.{ReadFault}
use Rattle.bank_format.specs.FaultChecks.{Check, check, first_fault, Fails, PassesOrOutOfMemory}
use Rattle.bank_format.proofs.CheckLaws.{first_fault-append, first_fault-front, then_none}

pub fails_front : (e : Failure ReadFault) (xs ys : List (Check ReadFault)) → Fails e (first_fault xs)
    → Fails e (first_fault (xs ++ ys))
fails_front OutOfMemory xs ys h = tt
fails_front (Fault f) xs ys h = first_fault-front xs ys f h

pub fails_after : (e : Failure ReadFault) (xs ys : List (Check ReadFault)) → first_fault xs ≡ None
    → Fails e (first_fault ys) → Fails e (first_fault (xs ++ ys))
fails_after OutOfMemory xs ys h k = tt
fails_after (Fault f) xs ys h k = first_fault-append xs ys h ∙ k

-- a failure that is passed on
pub fails_by : {X : Type 0} (r : Result X (Failure ReadFault)) (e : Failure ReadFault) (broken : Option ReadFault)
    → IsErrAnd r (λ d. d ≡ e) → Fails e broken → IfErr r (λ d. Fails d broken)
fails_by (Ok x) e broken is h = tt
fails_by (Err d) e broken is h = subst (λ (c : Failure ReadFault). Fails c broken) (sym is) h

-- the same, if the caller makes more checks
pub given_by : {X Y : Type 0} (view : X → Y) (value : Y) (r : Result X (Failure ReadFault)) (e : Failure ReadFault)
    (xs : List (Check ReadFault))
    → IsErrAnd r (λ d. d ≡ e) → Fails e (first_fault xs) → PassesOrOutOfMemory view r xs value
given_by view value (Ok x) e xs is h = absurd is
given_by view value (Err d) e xs is h = subst (λ (c : Failure ReadFault). Fails c (first_fault xs)) (sym is) h

-- the first function fails
pub given_front : {X Y : Type 0} (view : X → Y) (value : Y) (r : Result X (Failure ReadFault))
    (e : Failure ReadFault) (xs ys : List (Check ReadFault))
    → IsErrAnd r (λ d. d ≡ e) → Fails e (first_fault xs) → PassesOrOutOfMemory view r (xs ++ ys) value
given_front view value r e xs ys is h = given_by view value r e (xs ++ ys) is (fails_front e xs ys h)

-- a function after one that succeeds
pub given_after : {X Y : Type 0} (view : X → Y) (value : Y) (r : Result X (Failure ReadFault))
    (xs ys : List (Check ReadFault))
    → first_fault xs ≡ None → PassesOrOutOfMemory view r ys value → PassesOrOutOfMemory view r (xs ++ ys) value
given_after view value (Ok x) xs ys h k = (then_none xs ys h k.0, k.1)
given_after view value (Err e) xs ys h k = fails_after e xs ys h k

-- ---- checks with one fault

hold_on : {A : Type 0} (b c : Bool) (x : Option A) (w : A) → x ≡ cond c None (Some w)
    → cond b x (Some w) ≡ cond (b && c) None (Some w)
hold_on true c x w h = h
hold_on false c x w h = refl

-- the fault is returned if any check fails
pub same_fault : {X : Type 0} (p : X → Bool) (fault : ReadFault) (xs : List X)
    → first_fault (map (λ x. check (p x) fault) xs) ≡ cond (list_all p xs) None (Some fault)
same_fault p fault [] = refl
same_fault p fault (x ∷ xs) =
    hold_on (p x) (list_all p xs) (first_fault (map (λ y. check (p y) fault) xs)) fault (same_fault p fault xs)

-- consequences of success
pub on_ok : {X E : Type 0} (r : Result X E) (P Q : Type 0) → (P → Q) → OnOk r P → OnOk r Q
on_ok (Ok x) P Q f p = f p
on_ok (Err e) P Q f p = tt
