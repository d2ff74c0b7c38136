-- Tests in the order of the numbers of their causes.
use Rattle.std.proofs.Common.{◌≡◌, ◌≤◌, ℕ, nat_le, ◌&&◌, Bool, true, List, [], ◌∷◌, arith}
use Rattle.std.proofs.lemmas.Bool.Decides.{nat_tests}
use Rattle.bank_parts.specs.declared.parts.Parts.{Parts}
use Rattle.bank_changes.specs.declared.members.Owner.{Owner}
use Rattle.bank_changes.specs.declared.members.Owner.TheVariants as owner
use Rattle.bank_changes.specs.declared.members.Place.{Place}
use Rattle.bank_changes.specs.declared.members.Place.TheVariants as place
use Rattle.edit_forms.specs.CauseNames.{number_of}
use Rattle.edit_forms.specs.Causes.{Test, no_such_owner, no_such_zone_at}

-- no number is below n, or below the number before it
abbrev pub rises : ℕ → List Test → Bool
rises n [] = true
rises n (t ∷ ts) = nat_le n (number_of t.cause) && rises (number_of t.cause) ts

also_above : (n m k : ℕ) (rest : Bool) → n ≤ m → (nat_le m k && rest) ≡ true → (nat_le n k && rest) ≡ true
also_above n m k rest le h = grind (arith, nat_tests)

from_below : (n m : ℕ) (ts : List Test) → n ≤ m → rises m ts ≡ true → rises n ts ≡ true
from_below n m [] le h = h
from_below n m (t ∷ ts) le h = also_above n m (number_of t.cause) (rises (number_of t.cause) ts) le h

-- after the tests that the owner, and the place, exist
pub after_owner : (b : Parts) (o : Owner) (ts : List Test) → rises 21 ts ≡ true
    → rises 0 (no_such_owner b o ∷ ts) ≡ true
after_owner b (owner.Preset p) ts h = from_below 20 21 ts (omega arith) h
after_owner b (owner.Inst i) ts h = h

pub after_place : (b : Parts) (o : Owner) (at : Place) (ts : List Test) → rises 23 ts ≡ true
    → rises 21 (no_such_zone_at b o at ∷ ts) ≡ true
after_place b o place.Global ts h = h
after_place b o (place.Zone k) ts h = h
