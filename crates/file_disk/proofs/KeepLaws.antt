-- An old file that is kept while a new one takes its place.
use Rattle.std.proofs.Common.{◌≡◌, ◌≢◌, ℕ, List, [], Option, Some, None, Result, Ok, Err, Bool, true, false, refl, sym, ap, subst, ◌∙◌}
use Rattle.std.proofs.Common.{inl, inr, string_bytes}
use Rattle.std.specs.Prelude.{OnOk, OnErr}
use Rattle.std.specs.Option.{option_map}
use Rattle.file_host.specs.declared.input_fault.InputFault.{InputFault}
use Rattle.file_host.specs.declared.input_fault.InputFault.TheVariants.{NotFound}
use Rattle.file_host.specs.World.{Paths, World, place_of, held_at, with_file, without_file}
use Rattle.file_disk.specs.declared.target.StoredFile.{StoredFile}
use Rattle.file_disk.specs.Devices.{IsNew, IsTarget, IsTemporary, moved, linked, kept_as, kept_moved}
use Rattle.file_disk.specs.Frames.{Frame, IfKnown, IsFileOrLasting, Litters, MayLose, held_of}
use Rattle.file_disk.specs.Pairs.{IsThere, UndoFails}
use Rattle.file_host.proofs.FileLaws.{put_beside}
use Rattle.file_disk.proofs.FrameLaws.{frame_lost, frame_put, frame_then}
use Rattle.file_disk.proofs.WorldLaws.{overwrites, swaps, keeps, holds, holds_beside, apart_by}

-- a place that a temporary file was put at is neither that of a file nor a lasting one
pub off_new : (w : World) (new place : List ℕ) → held_at w new ≡ Err NotFound → IsTemporary new → IsFileOrLasting w place
    → place ≢ place_of w new
off_new w new place free named (inl there) = λ e. there (ap w.files e ∙ free)
off_new w new place free named (inr lasting) = λ e. lasting new named (sym e)

litters_self : (w : World) → Litters w w
litters_self w = record { paths = refl; files = λ place keeps. refl }

litters_put : (w : World) (new : List ℕ) (left : Result (List ℕ) InputFault) → held_at w new ≡ Err NotFound
    → IsTemporary new → Litters w (with_file new left w)
litters_put w new left free named = record {
  paths = refl;
  files = λ place keeps. put_beside w.files (place_of w new) left place (off_new w new place free named keeps);
}

-- a world of which nothing is known stays so
pub none_stays : (R : World → World → Type 0) (now : Option World) → now ≡ None → IfKnown R None now
none_stays R now e = subst (λ (x : Option World). IfKnown R None x) (sym e) tt

pub none_lost : (before now : Option World) (path : List ℕ) → before ≡ None → MayLose before now path → now ≡ None
none_lost before now path e (inl same) = same ∙ e
none_lost before now path e (inr gone) = gone ∙ ap (option_map (without_file path)) e

-- ---- a move

-- the empty file that takes the name first is gone after the move
move_over : (w : World) (path old : List ℕ) (left : Result (List ℕ) InputFault) → place_of w path ≢ place_of w old
    → moved path old (with_file old left w) ≡ moved path old w
move_over w path old left apart =
    ap (λ (x : Result (List ℕ) InputFault). with_file old x (without_file path (with_file old left w)))
    (holds_beside w old path left apart)
    ∙ ap (with_file old (held_at w path)) (swaps w path old (Err NotFound) left apart)
    ∙ overwrites (without_file path w) old left (held_at w path)

pub move_done : (before made now : Option World) (path old : List ℕ) → IsNew before old
    → IfKnown (λ v w. held_at v path ≢ Err NotFound) before before
    → made ≡ option_map (with_file old (Ok [])) before → now ≡ option_map (moved path old) made
    → now ≡ option_map (moved path old) before
move_done None made now path old free there e f = f ∙ ap (option_map (moved path old)) e
move_done (Some w) made now path old free there e f =
    f ∙ ap (option_map (moved path old)) e
    ∙ ap (λ (x : World). Some x) (move_over w path old (Ok []) (apart_by w path old there free.nothing))

-- only a new file changed
pub new_left : (before now : Option World) (new : List ℕ) → IsNew before new → IsTemporary new → Frame before now new
    → IfKnown Litters before now
new_left None now new free named f = none_stays Litters now f
new_left (Some w) now new free named f =
    subst (λ (x : Option World). IfKnown Litters (Some w) x) (sym f) (litters_put w new (held_of now new) free.nothing named)

-- it was removed, or it could not be
pub new_failed : (before made now : Option World) (new : List ℕ) (left : Result (List ℕ) InputFault) → IsNew before new
    → IsTemporary new → made ≡ option_map (with_file new left) before → MayLose made now new → IfKnown Litters before now
new_failed before made now new left free named e lost =
    new_left before now new free named
    (frame_then before made now new (frame_put before made new left e) (frame_lost made now new lost))

-- ---- a new file in the place of one that is kept

after_link : (w : World) (new path old : List ℕ) → place_of w new ≢ place_of w old → place_of w path ≢ place_of w old
    → moved new path (linked path old w) ≡ with_file old (held_at w path) (moved new path w)
after_link w new path old new_apart path_apart =
    let kept = held_at w path in
    ap (λ (x : Result (List ℕ) InputFault). with_file path x (without_file new (with_file old kept w)))
    (holds_beside w old new kept new_apart)
    ∙ ap (with_file path (held_at w new)) (swaps w new old (Err NotFound) kept new_apart)
    ∙ swaps (without_file new w) path old (held_at w new) kept path_apart

after_move : (w : World) (new path old : List ℕ) → place_of w new ≢ place_of w old → place_of w path ≢ place_of w old
    → place_of w new ≢ place_of w path
    → moved new path (moved path old w) ≡ with_file old (held_at w path) (moved new path w)
after_move w new path old new_apart path_apart apart =
    let kept = held_at w path in
    let gone = without_file path w in
    ap (λ (x : Result (List ℕ) InputFault). with_file path x (without_file new (with_file old kept gone)))
    (holds_beside gone old new kept new_apart ∙ holds_beside w path new (Err NotFound) apart)
    ∙ ap (with_file path (held_at w new))
    (swaps gone new old (Err NotFound) kept new_apart
    ∙ ap (with_file old kept) (swaps w new path (Err NotFound) (Err NotFound) apart))
    ∙ swaps (without_file path (without_file new w)) path old (held_at w new) kept path_apart
    ∙ ap (with_file old kept) (overwrites (without_file new w) path (Err NotFound) (held_at w new))

after_keep : (w : World) (is_linked : Bool) (new path old : List ℕ) → place_of w new ≢ place_of w old
    → place_of w path ≢ place_of w old → place_of w new ≢ place_of w path
    → moved new path (kept_as is_linked path old w) ≡ with_file old (held_at w path) (moved new path w)
after_keep w true new path old n p a = after_link w new path old n p
after_keep w false new path old n p a = after_move w new path old n p a

by_flag : (w : World) (is_there : Bool) (new path old : List ℕ) → is_there ≡ true
    → with_file old (held_at w path) (moved new path w) ≡ kept_moved is_there new path old w
by_flag w true new path old e = refl
by_flag w false new path old e = cc

-- what a new file needs to be put in the place of one that is kept
pub record Puts (w : World) (new path old : List ℕ) : Type 0 where
  pub new_there : held_at w new ≢ Err NotFound
  pub path_there : held_at w path ≢ Err NotFound
  pub old_free : held_at w old ≡ Err NotFound
  pub apart : place_of w new ≢ place_of w path

pub put_done : (before kept now : Option World) (is_linked is_there : Bool) (new path old : List ℕ) → is_there ≡ true
    → IfKnown (λ v w. Puts v new path old) before before → kept ≡ option_map (kept_as is_linked path old) before
    → now ≡ option_map (moved new path) kept → now ≡ option_map (kept_moved is_there new path old) before
put_done None kept now is_linked is_there new path old t p e f = f ∙ ap (option_map (moved new path)) e
put_done (Some w) kept now is_linked is_there new path old t p e f =
    f ∙ ap (option_map (moved new path)) e
    ∙ ap (λ (x : World). Some x)
    (after_keep w is_linked new path old (apart_by w new old p.new_there p.old_free)
    (apart_by w path old p.path_there p.old_free) p.apart
    ∙ by_flag w is_there new path old t)

-- ---- where that fails

-- the file at the path is as it was, whatever a new name holds
undo_same : (w : World) (path old : List ℕ) (left : Result (List ℕ) InputFault) → held_at w path ≢ Err NotFound
    → held_at w old ≡ Err NotFound → IsTemporary old → UndoFails path w (with_file old left w)
undo_same w path old left there free named = record {
  paths = refl;
  here = inl (holds_beside w old path left (apart_by w path old there free));
  others = λ place apart keeps. put_beside w.files (place_of w old) left place (off_new w old place free named keeps);
}

undo_gone : (w : World) (path old : List ℕ) → held_at w path ≢ Err NotFound → held_at w old ≡ Err NotFound
    → IsTemporary old → UndoFails path w (moved path old w)
undo_gone w path old there free named =
    let kept = held_at w path in
    let gone = without_file path w in record {
      paths = refl;
      here = inr record {
        gone = holds_beside gone old path kept (apart_by w path old there free) ∙ holds w path (Err NotFound);
        kept = place_of w old;
        free = free;
        holds = holds gone old kept;
      };
      others = λ place apart keeps.
          put_beside gone.files (place_of w old) kept place (off_new w old place free named keeps)
          ∙ put_beside w.files (place_of w path) (Err NotFound) place apart;
    }

-- moved away, and back
there_and_back : (w : World) (path old : List ℕ) → place_of w path ≢ place_of w old → held_at w old ≡ Err NotFound
    → moved old path (moved path old w) ≡ w
there_and_back w path old apart free =
    let kept = held_at w path in
    let gone = without_file path w in
    let back : place_of w old ≢ place_of w path = λ e. apart (sym e) in
    ap (λ (x : Result (List ℕ) InputFault). with_file path x (without_file old (with_file old kept gone)))
    (holds gone old kept)
    ∙ ap (with_file path kept)
    (overwrites gone old kept (Err NotFound)
    ∙ keeps gone old (Err NotFound) (sym (holds_beside w path old (Err NotFound) back ∙ free)))
    ∙ overwrites w path (Err NotFound) kept ∙ keeps w path kept refl

undo_self : (w : World) (path : List ℕ) → UndoFails path w w
undo_self w path = record {
  paths = refl;
  here = inl refl;
  others = λ place apart keeps. refl;
}

-- what is needed of a file that is to be kept
pub record Keeps (w : World) (path old : List ℕ) : Type 0 where
  pub there : held_at w path ≢ Err NotFound
  pub free : held_at w old ≡ Err NotFound
  pub named : IsTemporary old

link_undone : (before kept now : Option World) (path old : List ℕ)
    → IfKnown (λ v w. Keeps v path old) before before → kept ≡ option_map (linked path old) before
    → MayLose kept now old → IfKnown (UndoFails path) before now
link_undone None kept now path old k e lost = none_stays (UndoFails path) now (none_lost kept now old e lost)
link_undone (Some w) kept now path old k e (inl same) =
    subst (λ (x : Option World). IfKnown (UndoFails path) (Some w) x) (sym (same ∙ e))
    (undo_same w path old (held_at w path) k.there k.free k.named)
link_undone (Some w) kept now path old k e (inr gone) =
    subst (λ (x : Option World). IfKnown (UndoFails path) (Some w) x)
    (sym (gone ∙ ap (option_map (without_file old)) e
    ∙ ap (λ (x : World). Some x) (overwrites w old (held_at w path) (Err NotFound))))
    (undo_same w path old (Err NotFound) k.there k.free k.named)

move_undone : {U E : Type 0} (before kept now : Option World) (path old : List ℕ) (r : Result U E)
    → IfKnown (λ v w. Keeps v path old) before before → kept ≡ option_map (moved path old) before
    → OnOk r (now ≡ option_map (moved old path) kept) → OnErr r (now ≡ kept)
    → IfKnown (UndoFails path) before now
move_undone None kept now path old (Ok u) k e f h =
    none_stays (UndoFails path) now (f ∙ ap (option_map (moved old path)) e)
move_undone None kept now path old (Err u) k e f h = none_stays (UndoFails path) now (h ∙ e)
move_undone (Some w) kept now path old (Ok u) k e f h =
    subst (λ (x : Option World). IfKnown (UndoFails path) (Some w) x)
    (sym (f ∙ ap (option_map (moved old path)) e
    ∙ ap (λ (x : World). Some x) (there_and_back w path old (apart_by w path old k.there k.free) k.free)))
    (undo_self w path)
move_undone (Some w) kept now path old (Err u) k e f h =
    subst (λ (x : Option World). IfKnown (UndoFails path) (Some w) x) (sym (h ∙ e))
    (undo_gone w path old k.there k.free k.named)

-- nothing but a new name changed
undo_littered : (w n : World) (path : List ℕ) → held_at w path ≢ Err NotFound → Litters w n → UndoFails path w n
undo_littered w n path there l = record {
  paths = l.paths;
  here = inl (ap (λ (p : Paths). n.files (p.place path)) l.paths ∙ l.files (place_of w path) (inl there));
  others = λ place apart keeps. l.files place keeps;
}

pub keep_failed : {U E : Type 0} (before now : Option World) (path : List ℕ) (r : Result U E)
    → IfKnown (λ v w. held_at v path ≢ Err NotFound) before before → IfKnown Litters before now
    → OnErr r (IfKnown (UndoFails path) before now)
keep_failed before now path (Ok u) there l = tt
keep_failed None None path (Err u) there l = tt
keep_failed None (Some n) path (Err u) there l = absurd l
keep_failed (Some w) None path (Err u) there l = absurd l
keep_failed (Some w) (Some n) path (Err u) there l = undo_littered w n path there l

-- ---- what is known of a file and its names

pub there_of : (world : Option World) (file : StoredFile) → IsTarget world file → file.is_there ≡ true
    → IfKnown (λ v w. held_at v (string_bytes file.path) ≢ Err NotFound) world world
there_of None file t e = tt
there_of (Some w) file t e = t.there e

pub keeps_of : (world : Option World) (file : StoredFile) (old : List ℕ) → IsTarget world file → file.is_there ≡ true
    → IsNew world old → IsTemporary old → IfKnown (λ v w. Keeps v (string_bytes file.path) old) world world
keeps_of None file old t e free named = tt
keeps_of (Some w) file old t e free named = record { there = t.there e; free = free.nothing; named = named }

pub puts_of : (world : Option World) (file : StoredFile) (new old : List ℕ) → IsTarget world file → file.is_there ≡ true
    → IsNew world old → IsTemporary new → IsThere world new
    → IfKnown (λ v w. Puts v new (string_bytes file.path) old) world world
puts_of None file new old t e free named there = tt
puts_of (Some w) file new old t e free named there =
    record { new_there = there; path_there = t.there e; old_free = free.nothing; apart = t.apart new named }

by_flag_as : (before kept : Option World) (is_linked flag : Bool) (path old : List ℕ) → is_linked ≡ flag
    → kept ≡ option_map (kept_as is_linked path old) before → kept ≡ option_map (kept_as flag path old) before
by_flag_as before kept is_linked flag path old e h =
    subst (λ (b : Bool). kept ≡ option_map (kept_as b path old) before) e h

pub linked_undone : (before kept now : Option World) (is_linked : Bool) (path old : List ℕ) → is_linked ≡ true
    → IfKnown (λ v w. Keeps v path old) before before → kept ≡ option_map (kept_as is_linked path old) before
    → MayLose kept now old → IfKnown (UndoFails path) before now
linked_undone before kept now is_linked path old e k h lost =
    link_undone before kept now path old k (by_flag_as before kept is_linked true path old e h) lost

pub moved_undone : {U E : Type 0} (before kept now : Option World) (is_linked : Bool) (path old : List ℕ) (r : Result U E)
    → is_linked ≡ false → IfKnown (λ v w. Keeps v path old) before before
    → kept ≡ option_map (kept_as is_linked path old) before → OnOk r (now ≡ option_map (moved old path) kept)
    → OnErr r (now ≡ kept) → IfKnown (UndoFails path) before now
moved_undone before kept now is_linked path old r e k h f s =
    move_undone before kept now path old r k (by_flag_as before kept is_linked false path old e h) f s
