-- What crashes leave while calls run.
use Rattle.std.proofs.Common.{◌≡◌, ◌≢◌, ℕ, List, Option, Some, None, Err, Bool, true, false, refl, sym, ap, subst, ◌∙◌}
use Rattle.std.proofs.Common.{inl, inr, string_bytes}
use Rattle.std.specs.Prelude.{⊤}
use Rattle.file_host.specs.declared.input_fault.InputFault.TheVariants.{NotFound}
use Rattle.file_host.specs.World.{Paths, World, place_of, held_at}
use Rattle.file_disk.specs.declared.target.StoredFile.{StoredFile}
use Rattle.file_disk.specs.Devices.{IsNew, IsOpen, IsTarget, LeadsTo}
use Rattle.file_disk.specs.Frames.{IfKnown}
use Rattle.file_disk.specs.Crashes.{FromKnown, HasSameFiles, IsOneOf, KeepsFiles, Leaves, Passes, Since}
use Rattle.file_disk.specs.Pairs.{IsThere}

-- ---- properties of what crashes leave

-- a property of a world, as far as the world is known
abbrev pub Known : (World → Type 0) → Option World → Type 0
Known P None = ⊤
Known P (Some world) = P world

pub since_then : (a b c P : World → Type 0) → Since a b P → Since b c P → Since a c P
since_then a b c P s t left now none not = t left now (λ before. s left before none not) not

pub since_as : (a b P Q : World → Type 0) → ((left : World) → P left → Q left) → Since a b P → Since a b Q
since_as a b P Q f s left now none not = s left now none (λ p. not (f left p))

pub since_any : (a b P : World → Type 0) → ((left : World) → P left) → Since a b P
since_any a b P f left now none not = not (f left)

pub since_self : (a P : World → Type 0) → Since a a P
since_self a P left now none not = none now

known_as : (P : World → Type 0) (world : Option World) (left : World) → Known P world → world ≡ Some left → P left
known_as P world left k e = subst (λ (x : Option World). Known P x) e k

pub known_same : (P : World → Type 0) (old new : Option World) → new ≡ old → Known P old → Known P new
known_same P old new e k = subst (λ (x : Option World). Known P x) (sym e) k

pub known_map : (P Q : World → Type 0) (world : Option World) → ((left : World) → P left → Q left) → Known P world
    → Known Q world
known_map P Q None f k = tt
known_map P Q (Some w) f k = f w k

one_of : (P : World → Type 0) (old new : Option World) → Known P old → Known P new → (left : World) → IsOneOf old new left
    → P left
one_of P old new k l left (inl e) = known_as P old left k e
one_of P old new k l left (inr e) = known_as P new left l e

-- a call before and after which a crash leaves what has this property
pub passes_as : (a b P : World → Type 0) (old new : Option World) → Known P old → Known P new → Passes a b old new
    → Since a b P
passes_as a b P old new k l p = since_as a b (IsOneOf old new) P (one_of P old new k l) p.crash

-- one call more
pub goes_on : (a b c P : World → Type 0) (old new : Option World) → Since a b P → Known P old → Known P new
    → Passes b c old new → Since a c P
goes_on a b c P old new s k l p = since_then a b c P s (passes_as b c P old new k l p)

pub known_any : (P : World → Type 0) (world : Option World) → ((left : World) → P left) → Known P world
known_any P None f = tt
known_any P (Some w) f = f w

pub by_flag : {X : Type 0} (b : Bool) → (b ≡ true → X) → (b ≡ false → X) → X
by_flag true f g = f refl
by_flag false f g = g refl

-- ---- relations of what crashes leave

pub known_of : (R : World → World → Type 0) (base now : Option World) → IfKnown R base now → Known (FromKnown R base) now
known_of R None None k = tt
known_of R None (Some n) k = absurd k
known_of R (Some b) None k = absurd k
known_of R (Some b) (Some n) k = k

pub if_same : (R : World → World → Type 0) (base old now : Option World) → now ≡ old → IfKnown R base old → IfKnown R base now
if_same R base old now e k = subst (λ (x : Option World). IfKnown R base x) (sym e) k

pub leaves_call : (R : World → World → Type 0) (a b c : World → Type 0) (base old new : Option World)
    → Leaves R a b base old → IfKnown R base new → Passes b c old new → Leaves R a c base new
leaves_call R a b c base old new l k p = record {
  left = k;
  crash = goes_on a b c (FromKnown R base) old new l.crash (known_of R base old l.left) (known_of R base new k) p;
}

pub leaves_same : (R : World → World → Type 0) (a b c : World → Type 0) (base old new : Option World)
    → Leaves R a b base old → new ≡ old → Passes b c old new → Leaves R a c base new
leaves_same R a b c base old new l e p = leaves_call R a b c base old new l (if_same R base old new e l.left) p

-- these relations in turn are one
abbrev pub InTurn : (R S T : World → World → Type 0) → Type 0
InTurn R S T = (b m n : World) → R b m → S m n → T b n

from_then : (R S T : World → World → Type 0) (base mid : Option World) → InTurn R S T → IfKnown R base mid → (left : World)
    → FromKnown S mid left → FromKnown T base left
from_then R S T None None f k left h = tt
from_then R S T None (Some m) f k left h = absurd k
from_then R S T (Some b) None f k left h = absurd k
from_then R S T (Some b) (Some m) f k left h = f b m left k h

if_then : (R S T : World → World → Type 0) (base mid now : Option World) → InTurn R S T → IfKnown R base mid
    → IfKnown S mid now → IfKnown T base now
if_then R S T None None None f k h = tt
if_then R S T None None (Some n) f k h = absurd h
if_then R S T None (Some m) now f k h = absurd k
if_then R S T (Some b) None now f k h = absurd k
if_then R S T (Some b) (Some m) None f k h = absurd h
if_then R S T (Some b) (Some m) (Some n) f k h = f b m n k h

from_as : (R S : World → World → Type 0) (base : Option World) → ((b n : World) → R b n → S b n) → (left : World)
    → FromKnown R base left → FromKnown S base left
from_as R S None f left h = tt
from_as R S (Some b) f left h = f b left h

if_as : (R S : World → World → Type 0) (base now : Option World) → ((b n : World) → R b n → S b n) → IfKnown R base now
    → IfKnown S base now
if_as R S None None f k = tt
if_as R S None (Some n) f k = absurd k
if_as R S (Some b) None f k = absurd k
if_as R S (Some b) (Some n) f k = f b n k

pub leaves_as : (R S : World → World → Type 0) (a b : World → Type 0) (base now : Option World)
    → ((v w : World) → R v w → S v w) → Leaves R a b base now → Leaves S a b base now
leaves_as R S a b base now f l = record {
  left = if_as R S base now f l.left;
  crash = since_as a b (FromKnown R base) (FromKnown S base) (from_as R S base f) l.crash;
}

pub leaves_then : (R S T : World → World → Type 0) (a b c : World → Type 0) (base mid now : Option World) → InTurn R S T
    → ((v w : World) → R v w → T v w) → Leaves R a b base mid → Leaves S b c mid now → Leaves T a c base now
leaves_then R S T a b c base mid now f g l m = record {
  left = if_then R S T base mid now f l.left m.left;
  crash = since_then a b c (FromKnown T base)
      (since_as a b (FromKnown R base) (FromKnown T base) (from_as R T base g) l.crash)
      (since_as b c (FromKnown S mid) (FromKnown T base) (from_then R S T base mid f l.left) m.crash);
}

-- ---- the files that were there

pub keeps_then : InTurn KeepsFiles KeepsFiles KeepsFiles
keeps_then b m n k l = record {
  paths = l.paths ∙ k.paths;
  files = λ place there. l.files place (λ none. there (sym (k.files place there) ∙ none)) ∙ k.files place there;
}

-- a file that was there, at any path to it
pub kept_at : (old left : World) (path : List ℕ) → KeepsFiles old left → held_at old path ≢ Err NotFound
    → held_at left path ≡ held_at old path
kept_at old left path k there = ap (λ (p : Paths). left.files (p.place path)) k.paths ∙ k.files (place_of old path) there

-- ---- what is known of a world, of what a crash leaves

pub new_too : (world durable : Option World) (path : List ℕ) → IfKnown HasSameFiles world durable → IsNew world path
    → IsNew durable path
new_too None None path a n = tt
new_too None (Some d) path a n = absurd a
new_too (Some w) None path a n = absurd a
new_too (Some w) (Some d) path a n =
    let same : place_of d path ≡ place_of w path = ap (λ (p : Paths). p.place path) a.paths in record {
      nothing = ap d.files same ∙ a.nothing (place_of w path) n.nothing;
      stores = ap (λ (p : Paths). p.stores (p.place path)) a.paths ∙ n.stores;
      direct = ap (λ (p : Paths). p.is_link path) a.paths ∙ n.direct;
    }

pub open_too : (world durable : Option World) (output path : Option (List ℕ)) → IfKnown HasSameFiles world durable
    → IsOpen world output path → IsOpen durable output path
open_too None None output path a o = refl
open_too None (Some d) output path a o = absurd a
open_too (Some w) None output path a o = absurd a
open_too (Some w) (Some d) output path a o = o

target_known : (w d : World) (path : List ℕ) (is_there : Bool) → HasSameFiles w d → LeadsTo w path path is_there
    → LeadsTo d path path is_there
target_known w d path is_there a t =
    let same : (p : List ℕ) → place_of d p ≡ place_of w p = λ p. ap (λ (x : Paths). x.place p) a.paths in record {
      place = refl;
      stores = ap (λ (x : Paths). x.stores (x.place path)) a.paths ∙ t.stores;
      direct = ap (λ (x : Paths). x.is_link path) a.paths ∙ t.direct;
      apart = λ other named e. t.apart other named (sym (same other) ∙ e ∙ same path);
      there = λ e none. t.there e (a.there (place_of w path) (ap d.files (sym (same path)) ∙ none));
      nothing = λ e. ap d.files (same path) ∙ a.nothing (place_of w path) (t.nothing e);
    }

pub target_too : (world durable : Option World) (file : StoredFile) → IfKnown HasSameFiles world durable
    → IsTarget world file → IsTarget durable file
target_too None None file a t = tt
target_too None (Some d) file a t = absurd a
target_too (Some w) None file a t = absurd a
target_too (Some w) (Some d) file a t = target_known w d (string_bytes file.path) file.is_there a t

pub there_too : (world durable : Option World) (path : List ℕ) → IfKnown HasSameFiles world durable → IsThere world path
    → IsThere durable path
there_too None None path a t = tt
there_too None (Some d) path a t = absurd a
there_too (Some w) None path a t = absurd a
there_too (Some w) (Some d) path a t =
    λ none. t (a.there (place_of w path) (ap d.files (sym (ap (λ (p : Paths). p.place path) a.paths)) ∙ none))
