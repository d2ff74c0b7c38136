-- What crashes leave while an old file is kept.
use Rattle.std.proofs.Common.{◌≡◌, ◌≢◌, ℕ, List, Option, Some, None, Result, Ok, Err, refl, sym, ap, subst, ◌∙◌}
use Rattle.std.proofs.Common.{inl, inr, string_bytes}
use Rattle.std.specs.Prelude.{⊤}
use Rattle.std.specs.Option.{option_map}
use Rattle.file_host.specs.declared.input_fault.InputFault.{InputFault}
use Rattle.file_host.specs.declared.input_fault.InputFault.TheVariants.{NotFound}
use Rattle.file_host.specs.World.{Paths, World, place_of, held_at, with_file, without_file}
use Rattle.file_disk.specs.declared.target.StoredFile.{StoredFile}
use Rattle.file_disk.specs.Devices.{IsNew, IsTarget, IsTemporary, linked, moved}
use Rattle.file_disk.specs.Frames.{IfKnown, MayLose}
use Rattle.file_disk.specs.Crashes.{ChangesIfOk, FromKnown, HasMoved, KeepsFilesBut, Leaves, Passes}
use Rattle.file_disk.specs.Pairs.{IsThere}
use Rattle.file_host.proofs.FileLaws.{put_beside}
use Rattle.file_disk.proofs.WorldLaws.{holds}
use Rattle.file_disk.proofs.CrashLaws.{if_same, leaves_call, leaves_same, leaves_then, since_self}

-- ---- an old file that is kept

-- A path at whose place no file was, or that of one of two paths.
abbrev IsSpareIn : List ℕ → List ℕ → World → List ℕ → Type 0
IsSpareIn one other base path =
    (place : List ℕ) → place ≢ place_of base one → place ≢ place_of base other → base.files place ≢ Err NotFound
    → place ≢ place_of base path

-- the same, as far as is known
abbrev pub IsSpare : List ℕ → List ℕ → Option World → List ℕ → Type 0
IsSpare one other None path = ⊤
IsSpare one other (Some base) path = IsSpareIn one other base path

pub spare_first : (one other : List ℕ) (base : Option World) → IsSpare one other base one
spare_first one other None = tt
spare_first one other (Some b) = λ place a c there. a

pub spare_second : (one other : List ℕ) (base : Option World) → IsSpare one other base other
spare_second one other None = tt
spare_second one other (Some b) = λ place a c there. c

pub spare_new : (one other : List ℕ) (base : Option World) (path : List ℕ) → IsNew base path → IsSpare one other base path
spare_new one other None path n = tt
spare_new one other (Some b) path n = λ place a c there e. there (ap b.files e ∙ n.nothing)

but_put : (one other : List ℕ) (b w : World) (path : List ℕ) (left : Result (List ℕ) InputFault)
    → KeepsFilesBut one other b w → IsSpareIn one other b path → KeepsFilesBut one other b (with_file path left w)
but_put one other b w path left k spare = record {
  paths = k.paths;
  files = λ place a c there.
      put_beside w.files (place_of w path) left place
      (λ e. spare place a c there (e ∙ ap (λ (p : Paths). p.place path) k.paths))
      ∙ k.files place a c there;
}

-- any change of a world at spare paths only
but_changed : (one other : List ℕ) (base old now : Option World) (change : World → World)
    → ((b w : World) → base ≡ Some b → KeepsFilesBut one other b w → KeepsFilesBut one other b (change w))
    → IfKnown (KeepsFilesBut one other) base old → now ≡ option_map change old
    → IfKnown (KeepsFilesBut one other) base now
but_changed one other None None now change f k e =
    subst (λ (x : Option World). IfKnown (KeepsFilesBut one other) None x) (sym e) tt
but_changed one other None (Some w) now change f k e = absurd k
but_changed one other (Some b) None now change f k e = absurd k
but_changed one other (Some b) (Some w) now change f k e =
    subst (λ (x : Option World). IfKnown (KeepsFilesBut one other) (Some b) x) (sym e) (f b w refl k)

spare_in : (one other : List ℕ) (base : Option World) (b : World) (path : List ℕ) → base ≡ Some b → IsSpare one other base path
    → IsSpareIn one other b path
spare_in one other base b path e s = subst (λ (x : Option World). IsSpare one other x path) e s

but_none : (one other : List ℕ) (base : Option World) → IfKnown (KeepsFilesBut one other) base base
but_none one other None = tt
but_none one other (Some b) = record { paths = refl; files = λ place a c there. refl }

-- before a call
pub but_self : (one other : List ℕ) (a : World → Type 0) (base : Option World) → Leaves (KeepsFilesBut one other) a a base base
but_self one other a base =
    record { left = but_none one other base; crash = since_self a (FromKnown (KeepsFilesBut one other) base) }

but_made : (one other : List ℕ) (base old now : Option World) (path : List ℕ) (left : Result (List ℕ) InputFault)
    → IsSpare one other base path → IfKnown (KeepsFilesBut one other) base old
    → now ≡ option_map (with_file path left) old → IfKnown (KeepsFilesBut one other) base now
but_made one other base old now path left s k e =
    but_changed one other base old now (with_file path left)
    (λ b w is h. but_put one other b w path left h (spare_in one other base b path is s)) k e

but_moved : (one other : List ℕ) (base old now : Option World) (from to : List ℕ) → IsSpare one other base from
    → IsSpare one other base to → IfKnown (KeepsFilesBut one other) base old
    → now ≡ option_map (moved from to) old → IfKnown (KeepsFilesBut one other) base now
but_moved one other base old now from to s t k e =
    but_changed one other base old now (moved from to)
    (λ b w is h. but_put one other b (without_file from w) to (held_at w from)
    (but_put one other b w from (Err NotFound) h (spare_in one other base b from is s))
    (spare_in one other base b to is t)) k e

but_linked : (one other : List ℕ) (base old now : Option World) (from to : List ℕ) → IsSpare one other base to
    → IfKnown (KeepsFilesBut one other) base old
    → now ≡ option_map (linked from to) old → IfKnown (KeepsFilesBut one other) base now
but_linked one other base old now from to t k e =
    but_changed one other base old now (linked from to)
    (λ b w is h. but_put one other b w to (held_at w from) h (spare_in one other base b to is t)) k e

but_lost : (one other : List ℕ) (base old now : Option World) (path : List ℕ) → IsSpare one other base path
    → IfKnown (KeepsFilesBut one other) base old → MayLose old now path
    → IfKnown (KeepsFilesBut one other) base now
but_lost one other base old now path s k (inl same) = if_same (KeepsFilesBut one other) base old now same k
but_lost one other base old now path s k (inr gone) = but_made one other base old now path (Err NotFound) s k gone

-- ---- calls that change spare paths only

pub then_made : (one other : List ℕ) (a b c : World → Type 0) (base old now : Option World) (path : List ℕ)
    (left : Result (List ℕ) InputFault) → IsSpare one other base path → Leaves (KeepsFilesBut one other) a b base old
    → now ≡ option_map (with_file path left) old → Passes b c old now → Leaves (KeepsFilesBut one other) a c base now
then_made one other a b c base old now path left s l e p =
    leaves_call (KeepsFilesBut one other) a b c base old now l (but_made one other base old now path left s l.left e) p

pub then_moved : (one other : List ℕ) (a b c : World → Type 0) (base old now : Option World) (from to : List ℕ)
    → IsSpare one other base from → IsSpare one other base to → Leaves (KeepsFilesBut one other) a b base old
    → now ≡ option_map (moved from to) old → Passes b c old now → Leaves (KeepsFilesBut one other) a c base now
then_moved one other a b c base old now from to s t l e p =
    leaves_call (KeepsFilesBut one other) a b c base old now l (but_moved one other base old now from to s t l.left e) p

-- the same for a move that may fail
pub then_may_move : {U E : Type 0} (one other : List ℕ) (a b c : World → Type 0) (base old now : Option World)
    (from to : List ℕ) (r : Result U E) → IsSpare one other base from → IsSpare one other base to
    → Leaves (KeepsFilesBut one other) a b base old → ChangesIfOk r (moved from to) old now → Passes b c old now
    → Leaves (KeepsFilesBut one other) a c base now
then_may_move one other a b c base old now from to (Ok u) s t l e p = then_moved one other a b c base old now from to s t l e p
then_may_move one other a b c base old now from to (Err u) s t l e p =
    leaves_same (KeepsFilesBut one other) a b c base old now l e p

pub then_linked : (one other : List ℕ) (a b c : World → Type 0) (base old now : Option World) (from to : List ℕ)
    → IsSpare one other base to → Leaves (KeepsFilesBut one other) a b base old
    → now ≡ option_map (linked from to) old → Passes b c old now → Leaves (KeepsFilesBut one other) a c base now
then_linked one other a b c base old now from to t l e p =
    leaves_call (KeepsFilesBut one other) a b c base old now l (but_linked one other base old now from to t l.left e) p

pub then_lost : (one other : List ℕ) (a b c : World → Type 0) (base old now : Option World) (path : List ℕ)
    → IsSpare one other base path → Leaves (KeepsFilesBut one other) a b base old → MayLose old now path → Passes b c old now
    → Leaves (KeepsFilesBut one other) a c base now
then_lost one other a b c base old now path s l e p =
    leaves_call (KeepsFilesBut one other) a b c base old now l (but_lost one other base old now path s l.left e) p

pub but_in_turn : (one other : List ℕ) (b m n : World) → KeepsFilesBut one other b m → KeepsFilesBut one other m n
    → KeepsFilesBut one other b n
but_in_turn one other b m n k l = record {
  paths = l.paths ∙ k.paths;
  files = λ place a c there.
      l.files place (λ e. a (e ∙ ap (λ (p : Paths). p.place one) k.paths))
      (λ e. c (e ∙ ap (λ (p : Paths). p.place other) k.paths)) (λ none. there (sym (k.files place a c there) ∙ none))
      ∙ k.files place a c there;
}

pub but_then : (one other : List ℕ) (a b c : World → Type 0) (base mid now : Option World)
    → Leaves (KeepsFilesBut one other) a b base mid → Leaves (KeepsFilesBut one other) b c mid now
    → Leaves (KeepsFilesBut one other) a c base now
but_then one other a b c base mid now l m =
    leaves_then (KeepsFilesBut one other) (KeepsFilesBut one other) (KeepsFilesBut one other) a b c base mid now
    (but_in_turn one other) (λ v w h. h) l m

pub but_more : (one other : List ℕ) (v w : World) → KeepsFilesBut one one v w → KeepsFilesBut one other v w
but_more one other v w k = record { paths = k.paths; files = λ place a c there. k.files place a a there }

-- the file at another path, which was there
pub but_at : (one other : List ℕ) (b w : World) (path : List ℕ) → KeepsFilesBut one other b w → place_of b path ≢ place_of b one
    → place_of b path ≢ place_of b other → held_at b path ≢ Err NotFound → held_at w path ≡ held_at b path
but_at one other b w path k a c there =
    ap (λ (p : Paths). w.files (p.place path)) k.paths ∙ k.files (place_of b path) a c there

-- the new file is in place of the one that was kept
pub has_moved : (base mid now : Option World) (file : StoredFile) (new : List ℕ) → IsTarget base file → IsTemporary new
    → IsThere base new → IfKnown (KeepsFilesBut (string_bytes file.path) (string_bytes file.path)) base mid
    → now ≡ option_map (moved new (string_bytes file.path)) mid → IfKnown (HasMoved new (string_bytes file.path)) base now
has_moved None None now file new t named there k e =
    subst (λ (x : Option World). IfKnown (HasMoved new (string_bytes file.path)) None x) (sym e) tt
has_moved None (Some m) now file new t named there k e = absurd k
has_moved (Some b) None now file new t named there k e = absurd k
has_moved (Some b) (Some m) now file new t named there k e =
    let path = string_bytes file.path in
    subst (λ (x : Option World). IfKnown (HasMoved new path) (Some b) x) (sym e)
    (holds (without_file new m) path (held_at m new)
    ∙ but_at path path b m new k (t.apart new named) (t.apart new named) there)
