-- What crashes leave while two new files are put in place.
use Rattle.std.proofs.Common.{◌≡◌, ◌≢◌, ℕ, List, Option, Some, None, Result, Ok, Err, Bool, true, false, refl, sym, ap, ◌∙◌}
use Rattle.std.proofs.Common.{inl, inr, string_bytes}
use Rattle.std.specs.Option.{option_map}
use Rattle.file_host.specs.declared.input_fault.InputFault.{InputFault}
use Rattle.file_host.specs.declared.input_fault.InputFault.TheVariants.{NotFound}
use Rattle.file_host.specs.World.{Paths, World, place_of, held_at, without_file}
use Rattle.file_disk.specs.declared.target.StoredFile.{StoredFile}
use Rattle.file_disk.specs.declared.target.Target.TheVariants.{Stores}
use Rattle.file_disk.specs.Devices.{IsLasting, IsTarget, IsTemporary, Leads, dropped, moved}
use Rattle.file_disk.specs.Frames.{IfKnown, MayLose}
use Rattle.file_disk.specs.Pairs.{AreApart, IsThere, MayPutBack, put_back}
use Rattle.file_disk.specs.Crashes.{ChangesIfOk, FromKnown, HasMoved, HasSameFiles, HoldsText, KeepsFiles, KeepsFilesBut}
use Rattle.file_disk.specs.Crashes.{Leaves, LeavesBoth, LeavesPair, Passes, Since}
use Rattle.file_disk.proofs.WorldLaws.{holds, holds_beside}
use Rattle.file_disk.proofs.PairLaws.{back_to, held_over, or_else}
use Rattle.file_disk.proofs.CrashLaws.{Known, by_flag, goes_on, keeps_then, kept_at, known_any, known_map, known_of}
use Rattle.file_disk.proofs.CrashLaws.{known_same, leaves_then, since_any, since_as, since_then}
use Rattle.file_disk.proofs.CrashSaveLaws.{beside_new}
use Rattle.file_disk.proofs.CrashKeepLaws.{but_at}

-- ---- what is known of a world, of what a crash leaves

pub lasting_too : (world durable : Option World) (path : List ℕ) → IfKnown HasSameFiles world durable
    → IsLasting world path → IsLasting durable path
lasting_too None None path a l = tt
lasting_too None (Some d) path a l = absurd a
lasting_too (Some w) None path a l = absurd a
lasting_too (Some w) (Some d) path a l = λ other named e.
    l other named (sym (ap (λ (p : Paths). p.place other) a.paths) ∙ e ∙ ap (λ (p : Paths). p.place path) a.paths)

pub lasting_of : (world : Option World) (file : StoredFile) → IsTarget world file → IsLasting world (string_bytes file.path)
lasting_of None file t = tt
lasting_of (Some w) file t = t.apart

pub apart_too : (world durable : Option World) (one other : List ℕ) → IfKnown HasSameFiles world durable
    → AreApart world one other → AreApart durable one other
apart_too None None one other a l = tt
apart_too None (Some d) one other a l = absurd a
apart_too (Some w) None one other a l = absurd a
apart_too (Some w) (Some d) one other a l = λ e.
    l (sym (ap (λ (p : Paths). p.place one) a.paths) ∙ e ∙ ap (λ (p : Paths). p.place other) a.paths)

-- ---- the text that is put in place, whose undo script is in place

pub both_self : (undo_path new_undo path new_text : List ℕ) (base : Option World)
    → Known (FromKnown (LeavesBoth undo_path new_undo path new_text) base) base
both_self undo_path new_undo path new_text None = tt
both_self undo_path new_undo path new_text (Some b) = λ apart there. record { paths = refl; here = inl refl }

both_by : (undo_path new_undo path new_text : List ℕ) (base : Option World) (now world : Option World) → now ≡ world
    → Known (FromKnown (LeavesBoth undo_path new_undo path new_text) base) world
    → Known (FromKnown (LeavesBoth undo_path new_undo path new_text) base) now
both_by undo_path new_undo path new_text base now world e k =
    known_same (FromKnown (LeavesBoth undo_path new_undo path new_text) base) world now e k

-- the text is in place
pub both_moved : (undo_path path new_text : List ℕ) (base now : Option World) → IsLasting base undo_path
    → IsTemporary new_text → now ≡ option_map (moved new_text path) base
    → Known (FromKnown (LeavesBoth undo_path undo_path path new_text) base) now
both_moved undo_path path new_text None now l named e =
    both_by undo_path undo_path path new_text None now None e tt
both_moved undo_path path new_text (Some b) now l named e =
    both_by undo_path undo_path path new_text (Some b) now (Some (moved new_text path b)) e
    (λ apart there. record {
      paths = refl;
      here = inr (
        holds (without_file new_text b) path (held_at b new_text),
        held_over b new_text path undo_path (back_to (l new_text named)) apart,
      );
    })

-- a temporary file is gone
both_without : (undo_path new_undo path new_text : List ℕ) (b w : World) (gone : List ℕ)
    → place_of b gone ≢ place_of b undo_path → place_of b gone ≢ place_of b path
    → LeavesBoth undo_path new_undo path new_text b w → LeavesBoth undo_path new_undo path new_text b (without_file gone w)
both_without undo_path new_undo path new_text b w gone off_undo off_path h = λ apart there.
    let k = h apart there in
    let same = beside_new b w gone path k.paths off_path in
    let undo_same = beside_new b w gone undo_path k.paths off_undo in record {
      paths = k.paths;
      here = or_else (λ e. same ∙ e) (λ p. (same ∙ p.0, undo_same ∙ p.1)) k.here;
    }

pub both_gone : (undo_path new_undo path new_text : List ℕ) (base old now : Option World) (gone : List ℕ)
    → IsLasting base undo_path → IsLasting base path → IsTemporary gone
    → Known (FromKnown (LeavesBoth undo_path new_undo path new_text) base) old
    → now ≡ option_map (without_file gone) old → Known (FromKnown (LeavesBoth undo_path new_undo path new_text) base) now
both_gone undo_path new_undo path new_text None old now gone l m named k e =
    known_any (FromKnown (LeavesBoth undo_path new_undo path new_text) None) now (λ left. tt)
both_gone undo_path new_undo path new_text (Some b) None now gone l m named k e =
    both_by undo_path new_undo path new_text (Some b) now None e tt
both_gone undo_path new_undo path new_text (Some b) (Some w) now gone l m named k e =
    both_by undo_path new_undo path new_text (Some b) now (Some (without_file gone w)) e
    (both_without undo_path new_undo path new_text b w gone (l gone named) (m gone named) k)

pub both_lost : (undo_path new_undo path new_text : List ℕ) (base old now : Option World) (gone : List ℕ)
    → IsLasting base undo_path → IsLasting base path → IsTemporary gone
    → Known (FromKnown (LeavesBoth undo_path new_undo path new_text) base) old → MayLose old now gone
    → Known (FromKnown (LeavesBoth undo_path new_undo path new_text) base) now
both_lost undo_path new_undo path new_text base old now gone l m named k (inl same) =
    both_by undo_path new_undo path new_text base now old same k
both_lost undo_path new_undo path new_text base old now gone l m named k (inr e) =
    both_gone undo_path new_undo path new_text base old now gone l m named k e

-- the old undo script is gone, where one was kept
pub both_dropped : {U E : Type 0} (undo_path new_undo path new_text : List ℕ) (base old now : Option World) (kept : List ℕ)
    (is_there : Bool) (r : Result U E) → IsLasting base undo_path → IsLasting base path
    → (is_there ≡ true → IsTemporary kept) → Known (FromKnown (LeavesBoth undo_path new_undo path new_text) base) old
    → ChangesIfOk r (dropped is_there kept) old now
    → Known (FromKnown (LeavesBoth undo_path new_undo path new_text) base) now
both_dropped undo_path new_undo path new_text base old now kept is_there (Err u) l m named k e =
    both_by undo_path new_undo path new_text base now old e k
both_dropped undo_path new_undo path new_text base old now kept true (Ok u) l m named k e =
    both_gone undo_path new_undo path new_text base old now kept l m (named refl) k e
both_dropped undo_path new_undo path new_text base None now kept false (Ok u) l m named k e =
    both_by undo_path new_undo path new_text base now None e k
both_dropped undo_path new_undo path new_text base (Some w) now kept false (Ok u) l m named k e =
    both_by undo_path new_undo path new_text base now (Some w) e k

back_at : (b : World) (is_there : Bool) (undo_path kept path : List ℕ) → (is_there ≡ true → place_of b kept ≢ place_of b path)
    → place_of b undo_path ≢ place_of b path → held_at (put_back is_there undo_path kept b) path ≡ held_at b path
back_at b true undo_path kept path off apart =
    held_over b kept undo_path path (back_to (off refl)) (back_to apart)
back_at b false undo_path kept path off apart = holds_beside b undo_path path (Err NotFound) (back_to apart)

paths_at : (b : World) (is_there : Bool) (undo_path kept : List ℕ) → (put_back is_there undo_path kept b).paths ≡ b.paths
paths_at b true undo_path kept = refl
paths_at b false undo_path kept = refl

-- the old undo script is back
pub both_back : (undo_path new_undo path new_text : List ℕ) (base now : Option World) (kept : List ℕ) (is_there : Bool)
    → IsLasting base path → (is_there ≡ true → IsTemporary kept) → MayPutBack is_there undo_path kept base now
    → Known (FromKnown (LeavesBoth undo_path new_undo path new_text) base) now
both_back undo_path new_undo path new_text base now kept is_there m named (inl same) =
    both_by undo_path new_undo path new_text base now base same (both_self undo_path new_undo path new_text base)
both_back undo_path new_undo path new_text None now kept is_there m named (inr e) =
    both_by undo_path new_undo path new_text None now None e tt
both_back undo_path new_undo path new_text (Some b) now kept is_there m named (inr e) =
    both_by undo_path new_undo path new_text (Some b) now (Some (put_back is_there undo_path kept b)) e
    (λ apart there. record {
      paths = paths_at b is_there undo_path kept;
      here = inl (back_at b is_there undo_path kept path (λ t. m kept (named t)) apart);
    })

-- ---- both that are put in place

-- while the undo script is put in place
pub both_kept : (undo_path new_undo path new_text : List ℕ) (base : Option World) → IsLasting base path → IsTemporary new_undo
    → (left : World) → FromKnown (KeepsFilesBut undo_path new_undo) base left
    → FromKnown (LeavesBoth undo_path new_undo path new_text) base left
both_kept undo_path new_undo path new_text None m named left k = tt
both_kept undo_path new_undo path new_text (Some b) m named left k = λ apart there. record {
  paths = k.paths;
  here = inl (but_at undo_path new_undo b left path k (back_to apart) (back_to (m new_undo named)) there);
}

both_after_at : (undo_path new_undo path new_text : List ℕ) (b m left : World)
    → ((other : List ℕ) → IsTemporary other → place_of b other ≢ place_of b undo_path)
    → ((other : List ℕ) → IsTemporary other → place_of b other ≢ place_of b path)
    → IsTemporary new_undo → IsTemporary new_text → held_at b new_text ≢ Err NotFound
    → place_of b new_undo ≢ place_of b new_text → KeepsFilesBut undo_path new_undo b m → HasMoved new_undo undo_path b m
    → LeavesBoth undo_path undo_path path new_text m left → LeavesBoth undo_path new_undo path new_text b left
both_after_at undo_path new_undo path new_text b m left off_undo off_path undo_named text_named text_there apart_new k h f =
    λ apart there.
    let was : held_at m path ≡ held_at b path =
    but_at undo_path new_undo b m path k (back_to apart) (back_to (off_path new_undo undo_named)) there in
    let text_was : held_at m new_text ≡ held_at b new_text =
    but_at undo_path new_undo b m new_text k (off_undo new_text text_named) (back_to apart_new) text_there in
    let still : place_of m undo_path ≢ place_of m path =
    λ e. apart (sym (ap (λ (p : Paths). p.place undo_path) k.paths) ∙ e ∙ ap (λ (p : Paths). p.place path) k.paths) in
    let l = f still (λ none. there (sym was ∙ none)) in record {
      paths = l.paths ∙ k.paths;
      here = or_else (λ e. e ∙ was) (λ p. (p.0 ∙ text_was, p.1 ∙ h)) l.here;
    }

-- the undo script is in place
pub both_after : (undo_path new_undo path new_text : List ℕ) (base mid : Option World) → IsLasting base undo_path
    → IsLasting base path → IsTemporary new_undo → IsTemporary new_text → IsThere base new_text
    → AreApart base new_undo new_text → IfKnown (KeepsFilesBut undo_path new_undo) base mid
    → IfKnown (HasMoved new_undo undo_path) base mid → (left : World)
    → FromKnown (LeavesBoth undo_path undo_path path new_text) mid left
    → FromKnown (LeavesBoth undo_path new_undo path new_text) base left
both_after undo_path new_undo path new_text None mid l m n o t a k h left f = tt
both_after undo_path new_undo path new_text (Some b) None l m n o t a k h left f = absurd k
both_after undo_path new_undo path new_text (Some b) (Some w) l m n o t a k h left f =
    both_after_at undo_path new_undo path new_text b w left l m n o t a k h f

-- ---- an undo script and a text

pub pair_kept : (undo_path undo path text : List ℕ) (base : Option World) (left : World) → FromKnown KeepsFiles base left
    → FromKnown (LeavesPair undo_path undo path text) base left
pair_kept undo_path undo path text None left k = tt
pair_kept undo_path undo path text (Some b) left k = λ apart stores also there.
    record { paths = k.paths; here = inl (kept_at b left path k there) }

-- no file was there
pub pair_none : (undo_path undo text : List ℕ) (base : Option World) (file : StoredFile) → IsTarget base file
    → file.is_there ≡ false → (left : World) → FromKnown (LeavesPair undo_path undo (string_bytes file.path) text) base left
pair_none undo_path undo text None file t e left = tt
pair_none undo_path undo text (Some b) file t e left = λ apart stores also there. absurd (there (t.nothing e))

pub pair_self : (undo_path undo path text : List ℕ) (base : Option World)
    → Known (FromKnown (LeavesPair undo_path undo path text) base) base
pair_self undo_path undo path text None = tt
pair_self undo_path undo path text (Some b) = λ apart stores also there. record { paths = refl; here = inl refl }

-- the new file of the undo script was removed, or it could not be
pub pair_lost : (undo_path new_undo undo text : List ℕ) (base old now : Option World) (file : StoredFile) → IsTarget base file
    → IsTemporary new_undo → IfKnown KeepsFiles base old → MayLose old now new_undo
    → Known (FromKnown (LeavesPair undo_path undo (string_bytes file.path) text) base) now
pair_lost undo_path new_undo undo text None old now file t named k lost =
    known_any (FromKnown (LeavesPair undo_path undo (string_bytes file.path) text) None) now (λ left. tt)
pair_lost undo_path new_undo undo text (Some b) None now file t named k lost = absurd k
pair_lost undo_path new_undo undo text (Some b) (Some w) now file t named k (inl e) =
    known_same (FromKnown (LeavesPair undo_path undo (string_bytes file.path) text) (Some b)) (Some w) now e
    (pair_kept undo_path undo (string_bytes file.path) text (Some b) w k)
pair_lost undo_path new_undo undo text (Some b) (Some w) now file t named k (inr e) =
    let path = string_bytes file.path in
    known_same (FromKnown (LeavesPair undo_path undo path text) (Some b)) (Some (without_file new_undo w)) now e
    (λ apart stores also there. record {
      paths = k.paths;
      here = inl (beside_new b w new_undo path k.paths (t.apart new_undo named) ∙ kept_at b w path k there);
    })

is_there_text : {bytes : List ℕ} {held : Result (List ℕ) InputFault} → held ≡ Ok bytes → held ≢ Err NotFound
is_there_text e none = let no = sym e ∙ none in cc

pair_both_at : (undo_path new_undo undo path new_text text : List ℕ) (b m n left : World) → KeepsFiles b m
    → held_at m new_undo ≡ Ok undo → KeepsFiles m n → held_at n new_text ≡ Ok text
    → LeavesBoth undo_path new_undo path new_text n left → LeavesPair undo_path undo path text b left
pair_both_at undo_path new_undo undo path new_text text b m n left k undo_is l text_is f =
    λ apart stores also there.
    let first = kept_at b m path k there in
    let was : held_at n path ≡ held_at b path = kept_at m n path l (λ none. there (sym first ∙ none)) ∙ first in
    let same = l.paths ∙ k.paths in
    let still : place_of n undo_path ≢ place_of n path =
    λ e. apart (sym (ap (λ (p : Paths). p.place undo_path) same) ∙ e ∙ ap (λ (p : Paths). p.place path) same) in
    let h = f still (λ none. there (sym was ∙ none)) in
    let undo_still : held_at n new_undo ≡ Ok undo = kept_at m n new_undo l (is_there_text undo_is) ∙ undo_is in record {
      paths = h.paths ∙ same;
      here = or_else (λ e. e ∙ was) (λ p. (p.0 ∙ text_is, p.1 ∙ undo_still)) h.here;
    }

-- both new files are synced
pub pair_both : (undo_path new_undo undo path new_text text : List ℕ) (base mid made : Option World)
    → IfKnown KeepsFiles base mid → HoldsText mid new_undo undo → IfKnown KeepsFiles mid made → HoldsText made new_text text
    → (left : World) → FromKnown (LeavesBoth undo_path new_undo path new_text) made left
    → FromKnown (LeavesPair undo_path undo path text) base left
pair_both undo_path new_undo undo path new_text text None mid made k h l i left f = tt
pair_both undo_path new_undo undo path new_text text (Some b) None made k h l i left f = absurd k
pair_both undo_path new_undo undo path new_text text (Some b) (Some m) None k h l i left f = absurd l
pair_both undo_path new_undo undo path new_text text (Some b) (Some m) (Some n) k h l i left f =
    pair_both_at undo_path new_undo undo path new_text text b m n left k h l i f

-- both new files are written, and put in place or not
pub pair_done : (a b c d : World → Type 0) (base mid made : Option World) (undo_path new_undo undo new_text text : List ℕ)
    (file : StoredFile) (is_synced : Bool) → IsTarget base file → (file.is_there ≡ true → is_synced ≡ true)
    → Leaves KeepsFiles a b base mid → (is_synced ≡ true → HoldsText mid new_undo undo)
    → Leaves KeepsFiles b c mid made → (is_synced ≡ true → HoldsText made new_text text)
    → Since c d (FromKnown (LeavesBoth undo_path new_undo (string_bytes file.path) new_text) made)
    → Since a d (FromKnown (LeavesPair undo_path undo (string_bytes file.path) text) base)
pair_done a b c d base mid made undo_path new_undo undo new_text text file is_synced t s k h l i f =
    let path = string_bytes file.path in
    let P = FromKnown (LeavesPair undo_path undo path text) base in
    by_flag file.is_there
    (λ there.
    since_then a c d P
    (since_as a c (FromKnown KeepsFiles base) P (pair_kept undo_path undo path text base)
    (leaves_then KeepsFiles KeepsFiles KeepsFiles a b c base mid made keeps_then (λ v w e. e) k l).crash)
    (since_as c d (FromKnown (LeavesBoth undo_path new_undo path new_text) made) P
    (pair_both undo_path new_undo undo path new_text text base mid made k.left (h (s there)) l.left (i (s there))) f))
    (λ none. since_any a d P (pair_none undo_path undo text base file t none))

-- the second new file could not be written
pub second_lost : (a b c d : World → Type 0) (base mid failed now : Option World) (undo_path new_undo undo text : List ℕ)
    (file : StoredFile) → IsTarget base file → IsTemporary new_undo → Leaves KeepsFiles a b base mid
    → Leaves KeepsFiles b c mid failed → MayLose failed now new_undo → Passes c d failed now
    → Since a d (FromKnown (LeavesPair undo_path undo (string_bytes file.path) text) base)
second_lost a b c d base mid failed now undo_path new_undo undo text file t named k l lost p =
    let path = string_bytes file.path in
    let R = FromKnown KeepsFiles base in
    let P = FromKnown (LeavesPair undo_path undo path text) base in
    let both = leaves_then KeepsFiles KeepsFiles KeepsFiles a b c base mid failed keeps_then (λ v w e. e) k l in
    goes_on a c d P failed now (since_as a c R P (pair_kept undo_path undo path text base) both.crash)
    (known_map R P failed (pair_kept undo_path undo path text base) (known_of KeepsFiles base failed both.left))
    (pair_lost undo_path new_undo undo text base failed now file t named both.left lost) p

-- ---- by any path to the files

pair_at : (b left : World) (undo_path undo_real undo path real text : List ℕ) → place_of b undo_real ≡ place_of b undo_path
    → place_of b real ≡ place_of b path → LeavesPair undo_real undo real text b left → LeavesPair undo_path undo path text b left
pair_at b left undo_path undo_real undo path real text u e h = λ apart stores also there.
    let k = h (λ same. apart (sym u ∙ same ∙ e)) (ap b.paths.stores u ∙ stores) (ap b.paths.stores e ∙ also)
    (λ none. there (ap b.files (sym e) ∙ none)) in
    let same : (one other : List ℕ) → place_of b one ≡ place_of b other → held_at left one ≡ held_at left other =
    λ one other i. ap (λ (p : Paths). left.files (p.place one)) k.paths ∙ ap left.files i
    ∙ sym (ap (λ (p : Paths). left.files (p.place other)) k.paths) in
    let here = same real path e in
    let undo_here = same undo_real undo_path u in record {
      paths = k.paths;
      here = or_else (λ kept. sym here ∙ kept ∙ ap b.files e) (λ p. (sym here ∙ p.0, sym undo_here ∙ p.1)) k.here;
    }

place_too : (w d : World) (path real : List ℕ) → HasSameFiles w d → place_of w real ≡ place_of w path
    → place_of d real ≡ place_of d path
place_too w d path real a e =
    ap (λ (p : Paths). p.place real) a.paths ∙ e ∙ sym (ap (λ (p : Paths). p.place path) a.paths)

pub pair_by : (world base : Option World) (undo_path undo path text : List ℕ) (undo_file file : StoredFile)
    → IfKnown HasSameFiles world base → Leads world undo_path (Stores undo_file) → Leads world path (Stores file)
    → (left : World)
    → FromKnown (LeavesPair (string_bytes undo_file.path) undo (string_bytes file.path) text) base left
    → FromKnown (LeavesPair undo_path undo path text) base left
pair_by None None undo_path undo path text undo_file file a u l left h = tt
pair_by None (Some d) undo_path undo path text undo_file file a u l left h = absurd a
pair_by (Some w) None undo_path undo path text undo_file file a u l left h = tt
pair_by (Some w) (Some d) undo_path undo path text undo_file file a u l left h =
    pair_at d left undo_path (string_bytes undo_file.path) undo path (string_bytes file.path) text
    (place_too w d undo_path (string_bytes undo_file.path) a u.place) (place_too w d path (string_bytes file.path) a l.place) h
