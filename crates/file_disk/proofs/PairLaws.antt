-- Two new files that are put in place together.
use Rattle.std.proofs.Common.{◌≡◌, ◌≢◌, ℕ, List, Option, Some, None, Result, Ok, Err, Bool, true, false, refl, sym, ap, subst, ◌∙◌}
use Rattle.std.proofs.Common.{inl, inr, string_bytes, if◌then◌else◌}
use Rattle.std.specs.Prelude.{OnOk, OnErr, ◌⊎◌}
use Rattle.std.specs.Option.{option_map}
use Rattle.file_host.specs.declared.input_fault.InputFault.{InputFault}
use Rattle.file_host.specs.declared.input_fault.InputFault.TheVariants.{NotFound}
use Rattle.file_host.specs.World.{Paths, World, place_of, held_at, with_file, without_file}
use Rattle.file_host.specs.Saving.{IsMovedAway}
use Rattle.file_disk.specs.declared.target.StoredFile.{StoredFile}
use Rattle.file_disk.specs.Devices.{IsNew, IsDirect, IsTarget, IsTemporary, moved, kept_moved}
use Rattle.file_disk.specs.Frames.{IfKnown, IsFileOrLasting, MayLose}
use Rattle.file_disk.specs.Pairs.{AreApart, BothFail, IsThere, MayPutBack, PutsBack, TextFails, UndoFails, put_back, puts_both, text_put}
use Rattle.file_host.proofs.FileLaws.{put_beside}
use Rattle.file_disk.proofs.WorldLaws.{overwrites, swaps, keeps, holds, holds_beside, apart_by}
use Rattle.file_disk.proofs.KeepLaws.{off_new, none_stays, none_lost}

-- ---- files that may be gone

-- All but the file at this path is as it was.
pub record Loses (path : List ℕ) (old new : World) : Type 0 where
  pub paths : new.paths ≡ old.paths
  pub files : (place : List ℕ) → place ≢ place_of old path → new.files place ≡ old.files place

loses_self : (w : World) (path : List ℕ) → Loses path w w
loses_self w path = record { paths = refl; files = λ place apart. refl }

loses_file : (w : World) (path : List ℕ) → Loses path w (without_file path w)
loses_file w path = record {
  paths = refl;
  files = λ place apart. put_beside w.files (place_of w path) (Err NotFound) place apart;
}

pub loses_of : (w : World) (now : Option World) (path : List ℕ) → MayLose (Some w) now path
    → IfKnown (Loses path) (Some w) now
loses_of w now path (inl same) = subst (λ (x : Option World). IfKnown (Loses path) (Some w) x) (sym same) (loses_self w path)
loses_of w now path (inr gone) = subst (λ (x : Option World). IfKnown (Loses path) (Some w) x) (sym gone) (loses_file w path)

-- a path stays no link
pub direct_after : (before now : Option World) (path asked : List ℕ) → MayLose before now path → IsDirect before asked
    → IsDirect now asked
direct_after None now path asked (inl same) d = subst (λ (x : Option World). IsDirect x asked) (sym same) tt
direct_after None now path asked (inr gone) d = subst (λ (x : Option World). IsDirect x asked) (sym gone) tt
direct_after (Some w) now path asked (inl same) d = subst (λ (x : Option World). IsDirect x asked) (sym same) d
direct_after (Some w) now path asked (inr gone) d = subst (λ (x : Option World). IsDirect x asked) (sym gone) d

-- ---- the text that could not be put in place

back_self : (w : World) (is_there : Bool) (path kept new_text : List ℕ) → PutsBack is_there path kept new_text w w
back_self w is_there path kept new_text = record {
  paths = refl;
  here = inl refl;
  others = λ place apart other third. refl;
}

back_put : (w : World) (is_there : Bool) (path kept new_text : List ℕ)
    → PutsBack is_there path kept new_text w (put_back is_there path kept w)
back_put w true path kept new_text = record {
  paths = refl;
  here = inr (holds (without_file kept w) path (held_at w kept));
  others = λ place apart other third.
      put_beside (without_file kept w).files (place_of w path) (held_at w kept) place apart
      ∙ put_beside w.files (place_of w kept) (Err NotFound) place (other refl);
}
back_put w false path kept new_text = record {
  paths = refl;
  here = inr (holds w path (Err NotFound));
  others = λ place apart other third. put_beside w.files (place_of w path) (Err NotFound) place apart;
}

pub or_else : {A B C D : Type 0} → (A → C) → (B → D) → A ⊎ B → C ⊎ D
or_else f g (inl a) = inl (f a)
or_else f g (inr b) = inr (g b)

back_lost : (w m n : World) (is_there : Bool) (path kept new_text : List ℕ) → place_of w new_text ≢ place_of w path
    → PutsBack is_there path kept new_text w m → Loses new_text m n → PutsBack is_there path kept new_text w n
back_lost w m n is_there path kept new_text apart t l =
    let same : held_at n path ≡ held_at m path =
    ap (λ (p : Paths). n.files (p.place path)) l.paths
    ∙ l.files (place_of m path)
    (λ e. apart (sym (ap (λ (p : Paths). p.place new_text) t.paths) ∙ sym e
    ∙ ap (λ (p : Paths). p.place path) t.paths)) in
    record {
      paths = l.paths ∙ t.paths;
      here = or_else (λ e. same ∙ e) (λ e. same ∙ e) t.here;
      others = λ place a b c.
          l.files place (λ e. c (e ∙ ap (λ (p : Paths). p.place new_text) t.paths)) ∙ t.others place a b c;
    }

back_by : (w : World) (mid : Option World) (is_there : Bool) (path kept new_text : List ℕ)
    → MayPutBack is_there path kept (Some w) mid → IfKnown (PutsBack is_there path kept new_text) (Some w) mid
back_by w mid is_there path kept new_text (inl same) =
    subst (λ (x : Option World). IfKnown (PutsBack is_there path kept new_text) (Some w) x) (sym same)
    (back_self w is_there path kept new_text)
back_by w mid is_there path kept new_text (inr back) =
    subst (λ (x : Option World). IfKnown (PutsBack is_there path kept new_text) (Some w) x) (sym back)
    (back_put w is_there path kept new_text)

back_then_known : (w m : World) (now : Option World) (is_there : Bool) (path kept new_text : List ℕ)
    → place_of w new_text ≢ place_of w path → PutsBack is_there path kept new_text w m
    → IfKnown (Loses new_text) (Some m) now → IfKnown (PutsBack is_there path kept new_text) (Some w) now
back_then_known w m None is_there path kept new_text apart t l = absurd l
back_then_known w m (Some n) is_there path kept new_text apart t l =
    back_lost w m n is_there path kept new_text apart t l

back_then : (w : World) (mid now : Option World) (is_there : Bool) (path kept new_text : List ℕ)
    → place_of w new_text ≢ place_of w path → IfKnown (PutsBack is_there path kept new_text) (Some w) mid
    → MayLose mid now new_text → IfKnown (PutsBack is_there path kept new_text) (Some w) now
back_then w None now is_there path kept new_text apart t lost = absurd t
back_then w (Some m) now is_there path kept new_text apart t lost =
    back_then_known w m now is_there path kept new_text apart t (loses_of m now new_text lost)

as_text_fails : (w : World) (now : Option World) (is_there : Bool) (undo_path kept path new_text : List ℕ)
    → IfKnown (PutsBack is_there undo_path kept new_text) (Some w) now
    → IfKnown (TextFails is_there undo_path kept path new_text) (Some w) now
as_text_fails w None is_there undo_path kept path new_text t = absurd t
as_text_fails w (Some n) is_there undo_path kept path new_text t = inr t

none_back : (mid : Option World) (is_there : Bool) (path kept : List ℕ) → MayPutBack is_there path kept None mid
    → mid ≡ None
none_back mid is_there path kept (inl same) = same
none_back mid is_there path kept (inr back) = back

pub text_failed : (before mid now : Option World) (is_there : Bool) (undo_path kept path new_text : List ℕ)
    → AreApart before new_text undo_path → MayPutBack is_there undo_path kept before mid → MayLose mid now new_text
    → IfKnown (TextFails is_there undo_path kept path new_text) before now
text_failed None mid now is_there undo_path kept path new_text apart back lost =
    none_stays (TextFails is_there undo_path kept path new_text) now
    (none_lost mid now new_text (none_back mid is_there undo_path kept back) lost)
text_failed (Some w) mid now is_there undo_path kept path new_text apart back lost =
    as_text_fails w now is_there undo_path kept path new_text
    (back_then w mid now is_there undo_path kept new_text apart (back_by w mid is_there undo_path kept new_text back) lost)

-- ---- both put in place

-- what is known before both new files are put in place, of which the old undo script is kept at a third path
pub record Ready (w : World) (is_there : Bool) (undo_path new_undo path new_text kept : List ℕ) : Type 0 where
  pub undo_apart : (other : List ℕ) → IsTemporary other → place_of w other ≢ place_of w undo_path
  pub path_apart : (other : List ℕ) → IsTemporary other → place_of w other ≢ place_of w path
  pub undo_named : IsTemporary new_undo
  pub text_named : IsTemporary new_text
  pub undo_there : held_at w new_undo ≢ Err NotFound
  pub text_there : held_at w new_text ≢ Err NotFound
  pub apart : place_of w new_undo ≢ place_of w new_text
  pub nothing : is_there ≡ false → held_at w undo_path ≡ Err NotFound
  pub kept_named : is_there ≡ true → IsTemporary kept
  pub kept_free : is_there ≡ true → held_at w kept ≡ Err NotFound

pub back_to : {x y : List ℕ} → x ≢ y → y ≢ x
back_to apart e = apart (sym e)

pub moved_beside : (w : World) (from to other : List ℕ) (left : Result (List ℕ) InputFault) → place_of w from ≢ place_of w other
    → place_of w to ≢ place_of w other → moved from to (with_file other left w) ≡ with_file other left (moved from to w)
moved_beside w from to other left from_apart to_apart =
    ap (λ (x : Result (List ℕ) InputFault). with_file to x (without_file from (with_file other left w)))
    (holds_beside w other from left from_apart)
    ∙ ap (with_file to (held_at w from)) (swaps w from other (Err NotFound) left from_apart)
    ∙ swaps (without_file from w) to other (held_at w from) left to_apart

-- a file elsewhere stays over a move
pub held_over : (w : World) (from to asked : List ℕ) → place_of w asked ≢ place_of w from → place_of w asked ≢ place_of w to
    → held_at (moved from to w) asked ≡ held_at w asked
held_over w from to asked from_apart to_apart =
    holds_beside (without_file from w) to asked (held_at w from) to_apart
    ∙ holds_beside w from asked (Err NotFound) from_apart

both_put : (w : World) (is_there : Bool) (undo_path new_undo path new_text kept : List ℕ)
    → Ready w is_there undo_path new_undo path new_text kept
    → text_put is_there kept path new_text (kept_moved is_there new_undo undo_path kept w)
    ≡ puts_both undo_path new_undo path new_text w
both_put w false undo_path new_undo path new_text kept r = refl
both_put w true undo_path new_undo path new_text kept r =
    let free = r.kept_free refl in
    let named = r.kept_named refl in
    let x = moved new_undo undo_path w in
    let y = moved new_text path x in
    let old = held_at w undo_path in
    let off_text = apart_by w new_text kept r.text_there free in
    let off_undo = apart_by w new_undo kept r.undo_there free in
    let still_free : held_at y kept ≡ Err NotFound =
    held_over x new_text path kept (back_to off_text) (r.path_apart kept named)
    ∙ held_over w new_undo undo_path kept (back_to off_undo) (r.undo_apart kept named) ∙ free in
    ap (without_file kept) (moved_beside x new_text path kept old off_text (back_to (r.path_apart kept named)))
    ∙ overwrites y kept old (Err NotFound) ∙ keeps y kept (Err NotFound) (sym still_free)

pub both_done : {U E : Type 0} (before mid now : Option World) (is_there : Bool)
    (undo_path new_undo path new_text kept : List ℕ) (r : Result U E)
    → IfKnown (λ v w. Ready v is_there undo_path new_undo path new_text kept) before before
    → mid ≡ option_map (kept_moved is_there new_undo undo_path kept) before
    → OnOk r (now ≡ option_map (text_put is_there kept path new_text) mid)
    → OnOk r (now ≡ option_map (puts_both undo_path new_undo path new_text) before)
both_done before mid now is_there undo_path new_undo path new_text kept (Err e) ready put done = done
both_done None mid now is_there undo_path new_undo path new_text kept (Ok u) ready put done =
    done ∙ ap (option_map (text_put is_there kept path new_text)) put
both_done (Some w) mid now is_there undo_path new_undo path new_text kept (Ok u) ready put done =
    done ∙ ap (option_map (text_put is_there kept path new_text)) put
    ∙ ap (λ (x : World). Some x) (both_put w is_there undo_path new_undo path new_text kept ready)

-- ---- where the text could not be put in place

-- the world with the undo script in place
record Mid (w m : World) (is_there : Bool) (undo_path new_undo kept : List ℕ) : Type 0 where
  pub paths : m.paths ≡ w.paths
  pub undo : m.files (place_of w undo_path) ≡ held_at w new_undo
  pub old : is_there ≡ true → m.files (place_of w kept) ≡ held_at w undo_path
  pub others : (place : List ℕ) → place ≢ place_of w undo_path → place ≢ place_of w new_undo
      → (is_there ≡ true → place ≢ place_of w kept) → m.files place ≡ w.files place

mid_of : (w : World) (is_there : Bool) (undo_path new_undo kept : List ℕ)
    → (is_there ≡ true → place_of w kept ≢ place_of w undo_path)
    → Mid w (kept_moved is_there new_undo undo_path kept w) is_there undo_path new_undo kept
mid_of w true undo_path new_undo kept apart =
    let x = moved new_undo undo_path w in
    let old = held_at w undo_path in record {
      paths = refl;
      undo = holds_beside x kept undo_path old (back_to (apart refl)) ∙ holds (without_file new_undo w) undo_path (held_at w new_undo);
      old = λ e. holds x kept old;
      others = λ place a b c.
          put_beside x.files (place_of w kept) old place (c refl)
          ∙ put_beside (without_file new_undo w).files (place_of w undo_path) (held_at w new_undo) place a
          ∙ put_beside w.files (place_of w new_undo) (Err NotFound) place b;
    }
mid_of w false undo_path new_undo kept apart = record {
  paths = refl;
  undo = holds (without_file new_undo w) undo_path (held_at w new_undo);
  old = λ e. cc;
  others = λ place a b c.
      put_beside (without_file new_undo w).files (place_of w undo_path) (held_at w new_undo) place a
      ∙ put_beside w.files (place_of w new_undo) (Err NotFound) place b;
}

pub at_place : (v w : World) (path : List ℕ) → v.paths ≡ w.paths → held_at v path ≡ v.files (place_of w path)
at_place v w path e = ap (λ (p : Paths). v.files (p.place path)) e

shift : (v w : World) (a b : List ℕ) → v.paths ≡ w.paths → place_of w a ≢ place_of w b → place_of v a ≢ place_of v b
shift v w a b e apart same =
    apart (sym (ap (λ (p : Paths). p.place a) e) ∙ same ∙ ap (λ (p : Paths). p.place b) e)

pub shift_place : (v w : World) (place a : List ℕ) → v.paths ≡ w.paths → place ≢ place_of w a → place ≢ place_of v a
shift_place v w place a e apart same = apart (same ∙ ap (λ (p : Paths). p.place a) e)

-- the place of a kept file is neither that of a file nor a lasting one
off_kept : (w : World) (is_there : Bool) (undo_path new_undo path new_text kept place : List ℕ)
    → Ready w is_there undo_path new_undo path new_text kept → IsFileOrLasting w place → is_there ≡ true
    → place ≢ place_of w kept
off_kept w is_there undo_path new_undo path new_text kept place r keeps e =
    off_new w kept place (r.kept_free e) (r.kept_named e) keeps

-- the new text is in place, and the old undo script could not be removed
both_in_place : (w m : World) (is_there : Bool) (undo_path new_undo path new_text kept : List ℕ)
    → Ready w is_there undo_path new_undo path new_text kept → Mid w m is_there undo_path new_undo kept
    → BothFail undo_path new_undo path new_text w (moved new_text path m)
both_in_place w m is_there undo_path new_undo path new_text kept r k =
    let text_held : held_at m new_text ≡ held_at w new_text =
    at_place m w new_text k.paths
    ∙ k.others (place_of w new_text) (r.undo_apart new_text r.text_named) (back_to r.apart)
    (off_kept w is_there undo_path new_undo path new_text kept (place_of w new_text) r (inl r.text_there)) in
    let undo_held : place_of w undo_path ≢ place_of w path → held_at (moved new_text path m) undo_path ≡ held_at w new_undo =
    λ apart.
    held_over m new_text path undo_path
    (shift m w undo_path new_text k.paths (back_to (r.undo_apart new_text r.text_named)))
    (shift m w undo_path path k.paths apart)
    ∙ at_place m w undo_path k.paths ∙ k.undo in record {
      paths = k.paths;
      undo_here = λ apart. inr (inl (undo_held apart));
      text_here = λ apart.
          inr (holds (without_file new_text m) path (held_at m new_text) ∙ text_held, undo_held apart);
      others = λ place a b c d keeps.
          put_beside (without_file new_text m).files (place_of m path) (held_at m new_text) place
          (shift_place m w place path k.paths b)
          ∙ put_beside m.files (place_of m new_text) (Err NotFound) place (shift_place m w place new_text k.paths d)
          ∙ k.others place a c
          (off_kept w is_there undo_path new_undo path new_text kept place r keeps);
    }

undo_or : {A B C D : Type 0} → A ⊎ B → (A → D) → (B → C) → C ⊎ D
undo_or (inl a) f g = inr (f a)
undo_or (inr b) f g = inl (g b)

back_here : (w m n : World) (is_there : Bool) (undo_path new_undo path new_text kept : List ℕ)
    → Ready w is_there undo_path new_undo path new_text kept → Mid w m is_there undo_path new_undo kept
    → held_at n undo_path ≡ (if is_there then held_at m kept else Err NotFound)
    → held_at n undo_path ≡ held_at w undo_path
back_here w m n true undo_path new_undo path new_text kept r k e =
    e ∙ at_place m w kept k.paths ∙ k.old refl
back_here w m n false undo_path new_undo path new_text kept r k e = e ∙ sym (r.nothing refl)

-- the old undo script is back, or the new one stays
put_back_fails : (w m n : World) (is_there : Bool) (undo_path new_undo path new_text kept : List ℕ)
    → Ready w is_there undo_path new_undo path new_text kept → Mid w m is_there undo_path new_undo kept
    → PutsBack is_there undo_path kept new_text m n → BothFail undo_path new_undo path new_text w n
put_back_fails w m n is_there undo_path new_undo path new_text kept r k t =
    let paths = t.paths ∙ k.paths in
    let here : (held_at n undo_path ≡ held_at w undo_path) ⊎ (held_at n undo_path ≡ held_at w new_undo) =
    undo_or t.here
    (λ e. e ∙ at_place m w undo_path k.paths ∙ k.undo)
    (λ e. back_here w m n is_there undo_path new_undo path new_text kept r k e) in record {
      paths = paths;
      undo_here = λ apart. or_else (λ e. e) (λ e. inl e) here;
      text_here = λ apart. inl
          (at_place n w path paths
          ∙ t.others (place_of w path) (shift_place m w (place_of w path) undo_path k.paths (back_to apart))
          (λ e. shift_place m w (place_of w path) kept k.paths (back_to (r.path_apart kept (r.kept_named e))))
          (shift_place m w (place_of w path) new_text k.paths (back_to (r.path_apart new_text r.text_named)))
          ∙ k.others (place_of w path) (back_to apart) (back_to (r.path_apart new_undo r.undo_named))
          (λ e. back_to (r.path_apart kept (r.kept_named e))));
      others = λ place a b c d keeps.
          t.others place (shift_place m w place undo_path k.paths a)
          (λ e. shift_place m w place kept k.paths
          (off_kept w is_there undo_path new_undo path new_text kept place r keeps e))
          (shift_place m w place new_text k.paths d)
          ∙ k.others place a c (off_kept w is_there undo_path new_undo path new_text kept place r keeps);
    }

both_failed_known : (w m n : World) (is_there : Bool) (undo_path new_undo path new_text kept : List ℕ)
    → Ready w is_there undo_path new_undo path new_text kept → Mid w m is_there undo_path new_undo kept
    → TextFails is_there undo_path kept path new_text m n → BothFail undo_path new_undo path new_text w n
both_failed_known w m n is_there undo_path new_undo path new_text kept r k (inl e) =
    subst (λ (x : World). BothFail undo_path new_undo path new_text w x) (sym e)
    (both_in_place w m is_there undo_path new_undo path new_text kept r k)
both_failed_known w m n is_there undo_path new_undo path new_text kept r k (inr t) =
    put_back_fails w m n is_there undo_path new_undo path new_text kept r k t

both_failed_at : (w m : World) (now : Option World) (is_there : Bool) (undo_path new_undo path new_text kept : List ℕ)
    → Ready w is_there undo_path new_undo path new_text kept → Mid w m is_there undo_path new_undo kept
    → IfKnown (TextFails is_there undo_path kept path new_text) (Some m) now
    → IfKnown (BothFail undo_path new_undo path new_text) (Some w) now
both_failed_at w m None is_there undo_path new_undo path new_text kept r k f = absurd f
both_failed_at w m (Some n) is_there undo_path new_undo path new_text kept r k f =
    both_failed_known w m n is_there undo_path new_undo path new_text kept r k f

none_fails : (now : Option World) (R S : World → World → Type 0) → IfKnown R None now → IfKnown S None now
none_fails None R S f = tt
none_fails (Some n) R S f = absurd f

pub both_failed : {U E : Type 0} (before mid now : Option World) (is_there : Bool)
    (undo_path new_undo path new_text kept : List ℕ) (r : Result U E)
    → IfKnown (λ v w. Ready v is_there undo_path new_undo path new_text kept) before before
    → mid ≡ option_map (kept_moved is_there new_undo undo_path kept) before
    → OnErr r (IfKnown (TextFails is_there undo_path kept path new_text) mid now)
    → OnErr r (IfKnown (BothFail undo_path new_undo path new_text) before now)
both_failed before mid now is_there undo_path new_undo path new_text kept (Ok u) ready put f = f
both_failed None mid now is_there undo_path new_undo path new_text kept (Err e) ready put f =
    none_fails now (TextFails is_there undo_path kept path new_text) (BothFail undo_path new_undo path new_text)
    (subst (λ (x : Option World). IfKnown (TextFails is_there undo_path kept path new_text) x now) put f)
both_failed (Some w) mid now is_there undo_path new_undo path new_text kept (Err e) ready put f =
    both_failed_at w (kept_moved is_there new_undo undo_path kept w) now is_there undo_path new_undo path new_text kept
    ready
    (mid_of w is_there undo_path new_undo kept (λ t. ready.undo_apart kept (ready.kept_named t)))
    (subst (λ (x : Option World). IfKnown (TextFails is_there undo_path kept path new_text) x now) put f)

-- ---- where the undo script could not be put in place

-- All but the files at these two paths is as it was.
record LosesTwo (one other : List ℕ) (old new : World) : Type 0 where
  pub paths : new.paths ≡ old.paths
  pub files : (place : List ℕ) → place ≢ place_of old one → place ≢ place_of old other → new.files place ≡ old.files place

lose_then : (m v n : World) (one other : List ℕ) → Loses one m v → Loses other v n → LosesTwo one other m n
lose_then m v n one other l k = record {
  paths = k.paths ∙ l.paths;
  files = λ place a b. k.files place (shift_place v m place other l.paths b) ∙ l.files place a;
}

lose_second : (m v : World) (now : Option World) (one other : List ℕ) → Loses one m v
    → IfKnown (Loses other) (Some v) now → IfKnown (LosesTwo one other) (Some m) now
lose_second m v None one other l k = absurd k
lose_second m v (Some n) one other l k = lose_then m v n one other l k

lose_first : (m : World) (mid now : Option World) (one other : List ℕ) → IfKnown (Loses one) (Some m) mid
    → MayLose mid now other → IfKnown (LosesTwo one other) (Some m) now
lose_first m None now one other l lost = absurd l
lose_first m (Some v) now one other l lost = lose_second m v now one other l (loses_of v now other lost)

gone_still : (w m n : World) (undo_path new_undo new_text : List ℕ) → place_of w new_undo ≢ place_of w undo_path
    → place_of w new_text ≢ place_of w undo_path → held_at w new_undo ≢ Err NotFound → held_at w new_text ≢ Err NotFound
    → m.paths ≡ w.paths → LosesTwo new_undo new_text m n → IsMovedAway w m undo_path → IsMovedAway w n undo_path
gone_still w m n undo_path new_undo new_text a b there also e l g = record {
  gone = at_place n m undo_path l.paths
      ∙ l.files (place_of m undo_path) (shift m w undo_path new_undo e (back_to a)) (shift m w undo_path new_text e (back_to b))
      ∙ g.gone;
  kept = g.kept;
  free = g.free;
  holds = l.files g.kept
      (shift_place m w g.kept new_undo e (λ same. there (ap w.files (sym same) ∙ g.free)))
      (shift_place m w g.kept new_text e (λ same. also (ap w.files (sym same) ∙ g.free)))
      ∙ g.holds;
}

undo_failed_known : (w m n : World) (undo_path new_undo path new_text : List ℕ)
    → ((other : List ℕ) → IsTemporary other → place_of w other ≢ place_of w undo_path)
    → ((other : List ℕ) → IsTemporary other → place_of w other ≢ place_of w path)
    → IsTemporary new_undo → IsTemporary new_text
    → held_at w new_undo ≢ Err NotFound → held_at w new_text ≢ Err NotFound → UndoFails undo_path w m
    → LosesTwo new_undo new_text m n → BothFail undo_path new_undo path new_text w n
undo_failed_known w m n undo_path new_undo path new_text off_undo off_path named also_named there also f l =
    let same : held_at n undo_path ≡ held_at m undo_path =
    at_place n m undo_path l.paths
    ∙ l.files (place_of m undo_path) (shift m w undo_path new_undo f.paths (back_to (off_undo new_undo named)))
    (shift m w undo_path new_text f.paths (back_to (off_undo new_text also_named))) in record {
      paths = l.paths ∙ f.paths;
      undo_here = λ apart. or_else (λ e. same ∙ e)
          (λ g. inr (gone_still w m n undo_path new_undo new_text (off_undo new_undo named)
          (off_undo new_text also_named) there also f.paths l g))
          f.here;
      text_here = λ apart. inl
          (at_place n w path (l.paths ∙ f.paths)
          ∙ l.files (place_of w path) (shift_place m w (place_of w path) new_undo f.paths (back_to (off_path new_undo named)))
          (shift_place m w (place_of w path) new_text f.paths (back_to (off_path new_text also_named)))
          ∙ f.others (place_of w path) (back_to apart) (inr off_path));
      others = λ place a b c d keeps.
          l.files place (shift_place m w place new_undo f.paths c) (shift_place m w place new_text f.paths d)
          ∙ f.others place a keeps;
    }

undo_failed_at : (w m : World) (now : Option World) (undo_path new_undo path new_text : List ℕ)
    → ((other : List ℕ) → IsTemporary other → place_of w other ≢ place_of w undo_path)
    → ((other : List ℕ) → IsTemporary other → place_of w other ≢ place_of w path)
    → IsTemporary new_undo → IsTemporary new_text
    → held_at w new_undo ≢ Err NotFound → held_at w new_text ≢ Err NotFound → UndoFails undo_path w m
    → IfKnown (LosesTwo new_undo new_text) (Some m) now
    → IfKnown (BothFail undo_path new_undo path new_text) (Some w) now
undo_failed_at w m None undo_path new_undo path new_text a b c d e f g l = absurd l
undo_failed_at w m (Some n) undo_path new_undo path new_text a b c d e f g l =
    undo_failed_known w m n undo_path new_undo path new_text a b c d e f g l

pub undo_failed : (before failed mid now : Option World) (undo_file file : StoredFile) (new_undo new_text : List ℕ)
    → IsTarget before undo_file → IsTarget before file → IsTemporary new_undo → IsTemporary new_text
    → IsThere before new_undo → IsThere before new_text
    → IfKnown (UndoFails (string_bytes undo_file.path)) before failed → MayLose failed mid new_undo
    → MayLose mid now new_text
    → IfKnown (BothFail (string_bytes undo_file.path) new_undo (string_bytes file.path) new_text) before now
undo_failed None None mid now undo_file file new_undo new_text t u a b c d f one two =
    none_stays (BothFail (string_bytes undo_file.path) new_undo (string_bytes file.path) new_text) now
    (none_lost mid now new_text (none_lost None mid new_undo refl one) two)
undo_failed None (Some m) mid now undo_file file new_undo new_text t u a b c d f one two = absurd f
undo_failed (Some w) None mid now undo_file file new_undo new_text t u a b c d f one two = absurd f
undo_failed (Some w) (Some m) mid now undo_file file new_undo new_text t u a b c d f one two =
    undo_failed_at w m now (string_bytes undo_file.path) new_undo (string_bytes file.path) new_text t.apart u.apart a b c d
    f (lose_first m mid now new_undo new_text (loses_of m mid new_undo one) two)

-- links stay, as far as is known
pub direct_still : (before failed : Option World) (path asked : List ℕ) → IfKnown (UndoFails path) before failed
    → IsDirect before asked → IsDirect failed asked
direct_still before None path asked f d = tt
direct_still None (Some m) path asked f d = absurd f
direct_still (Some w) (Some m) path asked f d = ap (λ (p : Paths). p.is_link asked) f.paths ∙ d

-- what is known before both are put in place
pub ready_of : (before : Option World) (undo_file file : StoredFile) (new_undo new_text kept : List ℕ)
    → IsTarget before undo_file → IsTarget before file → IsTemporary new_undo → IsTemporary new_text
    → IsThere before new_undo → IsThere before new_text → AreApart before new_undo new_text
    → (undo_file.is_there ≡ true → IsTemporary kept) → (undo_file.is_there ≡ true → IsNew before kept)
    → IfKnown
    (λ v w. Ready v undo_file.is_there (string_bytes undo_file.path) new_undo (string_bytes file.path) new_text kept)
    before before
ready_of None undo_file file new_undo new_text kept t u a b c d e f g = tt
ready_of (Some w) undo_file file new_undo new_text kept t u a b c d e f g = record {
  undo_apart = t.apart;
  path_apart = u.apart;
  undo_named = a;
  text_named = b;
  undo_there = c;
  text_there = d;
  apart = e;
  nothing = t.nothing;
  kept_named = f;
  kept_free = λ is. (g is).nothing;
}
