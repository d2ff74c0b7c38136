-- What crashes leave while one file is saved.
use Rattle.std.proofs.Common.{◌≡◌, ◌≢◌, ℕ, List, Option, Some, None, Result, Err, Bool, true, false, refl, sym, ap, subst, ◌∙◌}
use Rattle.std.proofs.Common.{inl, inr, string_bytes}
use Rattle.std.specs.Option.{option_map}
use Rattle.file_host.specs.declared.input_fault.InputFault.{InputFault}
use Rattle.file_host.specs.declared.input_fault.InputFault.TheVariants.{NotFound, Unreadable}
use Rattle.file_host.specs.World.{Paths, World, place_of, held_at, with_file, without_file}
use Rattle.file_disk.specs.declared.target.StoredFile.{StoredFile}
use Rattle.file_disk.specs.declared.target.Target.TheVariants.{Stores}
use Rattle.file_disk.specs.Devices.{IsNew, IsOpen, IsTarget, IsTemporary, Leads, moved}
use Rattle.file_disk.specs.Frames.{Frame, IfKnown, MayLose, held_of}
use Rattle.file_disk.specs.Crashes.{FromKnown, HasSameFiles, LeavesText, HoldsText, IsBeside, KeepsFiles, KeepsOrHolds, Leaves, MayChange, Passes, Since}
use Rattle.file_disk.specs.Crashes.{synced, synced_if, unsynced}
use Rattle.file_host.proofs.FileLaws.{put_beside}
use Rattle.file_disk.proofs.PairLaws.{or_else}
use Rattle.file_disk.proofs.WorldLaws.{holds, holds_beside}
use Rattle.file_disk.proofs.FrameLaws.{frame_lost, frame_same, frame_self, frame_then, framed}
use Rattle.file_disk.proofs.CrashLaws.{Known, goes_on, kept_at, known_any, open_too, since_as, since_self, since_then}

-- ---- all but the open file is as it was

frame_written : (old : Option World) (output : Option (List ℕ)) (path : List ℕ) → IsOpen old output (Some path)
    → Frame old (option_map (unsynced output) old) path
frame_written None output path o = refl
frame_written (Some w) output path o =
    subst (λ (x : Option (List ℕ)). Frame (Some w) (Some (unsynced x w)) path) (sym o) (framed w path (Err Unreadable))

-- a write to the open file
pub frame_grown : (base world old now : Option World) (output : Option (List ℕ)) (path : List ℕ)
    → IfKnown HasSameFiles world old → IsOpen world output (Some path) → Frame base old path
    → MayChange (unsynced output) old now → Frame base now path
frame_grown base world old now output path a o f (inl e) = frame_same base old now path f e
frame_grown base world old now output path a o f (inr e) =
    frame_then base old now path f
    (subst (λ (x : Option World). Frame old x path) (sym e)
    (frame_written old output path (open_too world old output (Some path) a o)))

frame_known_synced : (old : Option World) (is_synced : Bool) (world : Option World) (output : Option (List ℕ)) (path : List ℕ)
    → IsOpen old output (Some path) → Frame old (option_map (synced_if is_synced output world) old) path
frame_known_synced None is_synced world output path o = refl
frame_known_synced (Some w) false world output path o = frame_self (Some w) path
frame_known_synced (Some w) true world output path o =
    subst (λ (x : Option (List ℕ)). Frame (Some w) (Some (synced x world w)) path) (sym o)
    (framed w path (held_of world path))

-- the open file was synced, or not
pub frame_synced : (base world old now : Option World) (is_synced : Bool) (output : Option (List ℕ)) (path : List ℕ)
    → IfKnown HasSameFiles world old → IsOpen world output (Some path) → Frame base old path
    → now ≡ option_map (synced_if is_synced output world) old → Frame base now path
frame_synced base world old now is_synced output path a o f e =
    frame_then base old now path f
    (subst (λ (x : Option World). Frame old x path) (sym e)
    (frame_known_synced old is_synced world output path (open_too world old output (Some path) a o)))

-- what a crash leaves is framed where the world is
pub beside_of : (base now : Option World) (path : List ℕ) → Frame base now path → Known (IsBeside base path) now
beside_of base None path f = tt
beside_of base (Some n) path f = f

-- ---- the files that were there

keeps_put : (w : World) (path : List ℕ) (left : Result (List ℕ) InputFault) → held_at w path ≡ Err NotFound
    → KeepsFiles w (with_file path left w)
keeps_put w path left free = record {
  paths = refl;
  files = λ place there. put_beside w.files (place_of w path) left place (λ e. there (ap w.files e ∙ free));
}

some_of : (a b : World) → Some a ≡ Some b → a ≡ b
some_of a b e = cc

-- a temporary file where nothing was
pub stays_beside : (base : Option World) (path : List ℕ) → IsNew base path → (left : World) → IsBeside base path left
    → FromKnown KeepsFiles base left
stays_beside None path n left f = tt
stays_beside (Some b) path n left f =
    subst (λ (x : World). KeepsFiles b x) (sym (some_of left (with_file path (held_at left path) b) f))
    (keeps_put b path (held_at left path) n.nothing)

keeps_beside : (base now : Option World) (path : List ℕ) → IsNew base path → Frame base now path → IfKnown KeepsFiles base now
keeps_beside None None path n f = tt
keeps_beside None (Some w) path n f = cc
keeps_beside (Some b) None path n f = cc
keeps_beside (Some b) (Some w) path n f = stays_beside (Some b) path n w f

-- ---- a new file that is written

-- All but the file at this path is as it was, and was so in each crash since then.
pub record Writes (before now : World → Type 0) (base durable : Option World) (path : List ℕ) : Type 0 where
  pub frame : Frame base durable path
  pub crash : Since before now (IsBeside base path)

-- before a call
pub writes_self : (a : World → Type 0) (base : Option World) (path : List ℕ) → Writes a a base base path
writes_self a base path = record { frame = frame_self base path; crash = since_self a (IsBeside base path) }

-- one call more
pub writes_call : (a b c : World → Type 0) (base old new : Option World) (path : List ℕ) → Writes a b base old path
    → Frame base new path → Passes b c old new → Writes a c base new path
writes_call a b c base old new path w f p = record {
  frame = f;
  crash = goes_on a b c (IsBeside base path) old new w.crash (beside_of base old path w.frame) (beside_of base new path f) p;
}

-- more calls
pub writes_then : (a b c : World → Type 0) (base old new : Option World) (path : List ℕ) → Writes a b base old path
    → Frame old new path → Since b c (IsBeside old path) → Writes a c base new path
writes_then a b c base old new path w f s = record {
  frame = frame_then base old new path w.frame f;
  crash = since_then a b c (IsBeside base path) w.crash
      (since_as b c (IsBeside old path) (IsBeside base path)
      (λ left h. frame_then base old (Some left) path w.frame h) s);
}

-- the file was removed, or it could not be
pub writes_lost : (a b c : World → Type 0) (base old new : Option World) (path : List ℕ) → Writes a b base old path
    → MayLose old new path → Passes b c old new → Writes a c base new path
writes_lost a b c base old new path w lost p =
    writes_call a b c base old new path w (frame_then base old new path w.frame (frame_lost old new path lost)) p

-- the files that were there stay
pub written_leaves : (a b : World → Type 0) (base durable : Option World) (path : List ℕ) → IsNew base path
    → Writes a b base durable path → Leaves KeepsFiles a b base durable
written_leaves a b base durable path n w = record {
  left = keeps_beside base durable path n w.frame;
  crash = since_as a b (IsBeside base path) (FromKnown KeepsFiles base) (stays_beside base path n) w.crash;
}

-- ---- a text

kept_text : (old left : World) (path text : List ℕ) → KeepsFiles old left → held_at old path ≢ Err NotFound
    → KeepsOrHolds path text old left
kept_text old left path text k there = record { paths = k.paths; here = inl (kept_at old left path k there) }

pub text_kept : (path text : List ℕ) (base : Option World) (left : World) → FromKnown KeepsFiles base left
    → FromKnown (LeavesText path text) base left
text_kept path text None left k = tt
text_kept path text (Some b) left k = λ stores there. kept_text b left path text k there

-- no file was there
pub text_none : (text : List ℕ) (base : Option World) (file : StoredFile) → IsTarget base file → file.is_there ≡ false
    → (left : World) → FromKnown (LeavesText (string_bytes file.path) text) base left
text_none text None file t e left = tt
text_none text (Some b) file t e left = λ stores there. absurd (there (t.nothing e))

-- the new file was put in place
pub text_moved : (new path text : List ℕ) (base old now : Option World) → IfKnown KeepsFiles base old
    → HoldsText old new text → now ≡ option_map (moved new path) old → Known (FromKnown (LeavesText path text) base) now
text_moved new path text None old now k h e = known_any (FromKnown (LeavesText path text) None) now (λ left. tt)
text_moved new path text (Some b) None now k h e = absurd k
text_moved new path text (Some b) (Some w) now k h e =
    subst (λ (x : Option World). Known (FromKnown (LeavesText path text) (Some b)) x) (sym e)
    (λ stores there. record { paths = k.paths; here = inr (holds (without_file new w) path (held_at w new) ∙ h) })

-- a file stays where a temporary one is removed
pub beside_new : (b w : World) (new path : List ℕ) → w.paths ≡ b.paths → place_of b new ≢ place_of b path
    → held_at (without_file new w) path ≡ held_at w path
beside_new b w new path e apart =
    holds_beside w new path (Err NotFound)
    (λ same. apart (sym (ap (λ (p : Paths). p.place new) e) ∙ sym same ∙ ap (λ (p : Paths). p.place path) e))

pub text_lost : (new text : List ℕ) (base old now : Option World) (file : StoredFile) → IsTarget base file
    → IsTemporary new → IfKnown KeepsFiles base old → MayLose old now new
    → Known (FromKnown (LeavesText (string_bytes file.path) text) base) now
text_lost new text None old now file t named k lost =
    known_any (FromKnown (LeavesText (string_bytes file.path) text) None) now (λ left. tt)
text_lost new text (Some b) None now file t named k lost = absurd k
text_lost new text (Some b) (Some w) now file t named k (inl e) =
    subst (λ (x : Option World). Known (FromKnown (LeavesText (string_bytes file.path) text) (Some b)) x) (sym e)
    (λ stores there. kept_text b w (string_bytes file.path) text k there)
text_lost new text (Some b) (Some w) now file t named k (inr e) =
    let path = string_bytes file.path in
    subst (λ (x : Option World). Known (FromKnown (LeavesText path text) (Some b)) x) (sym e)
    (λ stores there. record {
      paths = k.paths;
      here = inl (beside_new b w new path k.paths (t.apart new named) ∙ kept_at b w path k there);
    })

-- by any path to the file
text_at : (b left : World) (path real text : List ℕ) → place_of b real ≡ place_of b path → LeavesText real text b left
    → LeavesText path text b left
text_at b left path real text e h stores there =
    let k = h (ap b.paths.stores e ∙ stores) (λ none. there (ap b.files (sym e) ∙ none)) in
    let same : held_at left real ≡ held_at left path =
    ap (λ (p : Paths). left.files (p.place real)) k.paths ∙ ap left.files e
    ∙ sym (ap (λ (p : Paths). left.files (p.place path)) k.paths) in record {
      paths = k.paths;
      here = or_else (λ kept. sym same ∙ kept ∙ ap b.files e) (λ held. sym same ∙ held) k.here;
    }

pub text_by : (world base : Option World) (path text : List ℕ) (file : StoredFile) → IfKnown HasSameFiles world base
    → Leads world path (Stores file) → (left : World) → FromKnown (LeavesText (string_bytes file.path) text) base left
    → FromKnown (LeavesText path text) base left
text_by None None path text file a l left h = tt
text_by None (Some d) path text file a l left h = absurd a
text_by (Some w) None path text file a l left h = tt
text_by (Some w) (Some d) path text file a l left h =
    text_at d left path (string_bytes file.path) text
    (ap (λ (p : Paths). p.place (string_bytes file.path)) a.paths ∙ l.place ∙ sym (ap (λ (p : Paths). p.place path) a.paths)) h

-- before anything is written
pub text_self : (path text : List ℕ) (base : Option World) → Known (FromKnown (LeavesText path text) base) base
text_self path text None = tt
text_self path text (Some b) = λ stores there. record { paths = refl; here = inl refl }
