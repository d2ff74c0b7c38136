-- Whole saves, from what their steps leave.
use Rattle.std.proofs.Common.{◌≡◌, ◌≢◌, ℕ, List, Option, Some, None, Result, Ok, Err, Bool, true, refl, sym, ap, subst, ◌∙◌}
use Rattle.std.proofs.Common.{inl, inr, string_bytes}
use Rattle.std.specs.Prelude.{OnOk, IfErr, ◌⊎◌}
use Rattle.std.specs.Option.{option_map}
use Rattle.file_host.specs.declared.input_fault.InputFault.{InputFault}
use Rattle.file_host.specs.declared.input_fault.InputFault.TheVariants.{NotFound}
use Rattle.file_host.specs.World.{World, place_of, held_at, stores_at, with_file, with_text, with_pair}
use Rattle.file_host.specs.declared.faults.PairFault.{PairFault}
use Rattle.file_host.specs.declared.faults.PairFault.TheVariants as pair
use Rattle.file_host.specs.Saving.{IsMovedAway, PairFails, SpoilsPair, SpoilsTwo}
use Rattle.file_disk.specs.declared.target.StoredFile.{StoredFile}
use Rattle.file_disk.specs.declared.target.Target.TheVariants.{Stores}
use Rattle.file_disk.specs.Devices.{IsNew, IsTarget, IsTemporary, Leads, LeadsTo, moved}
use Rattle.file_disk.specs.Frames.{IfKnown, IsFileOrLasting, Litters, Makes, MayLose}
use Rattle.file_disk.specs.Pairs.{BothFail, both_saved, puts_both}
use Rattle.file_host.proofs.FileLaws.{put_beside}
use Rattle.file_disk.proofs.WorldLaws.{holds, holds_beside, apart_by, is_with_text, put_in_place}
use Rattle.file_disk.proofs.PairLaws.{Loses, loses_of, back_to, at_place, moved_beside, shift_place}
use Rattle.file_disk.proofs.KeepLaws.{off_new}

-- ---- a file is where it was after a temporary one is made

target_put : (w : World) (new real : List ℕ) (left : Result (List ℕ) InputFault) (is_there : Bool)
    → IsTemporary new → LeadsTo w real real is_there → LeadsTo (with_file new left w) real real is_there
target_put w new real left is_there named t =
    let same : held_at (with_file new left w) real ≡ held_at w real =
    holds_beside w new real left (back_to (t.apart new named)) in record {
      place = refl;
      stores = t.stores;
      direct = t.direct;
      apart = t.apart;
      there = λ e none. t.there e (sym same ∙ none);
      nothing = λ e. same ∙ t.nothing e;
    }

pub target_after : (before now : Option World) (new text : List ℕ) (file : StoredFile) → Makes before now new text
    → IsTarget before file → IsTarget now file
target_after None now new text file made t = subst (λ (x : Option World). IsTarget x file) (sym made.world) tt
target_after (Some w) now new text file made t =
    subst (λ (x : Option World). IsTarget x file) (sym made.world)
    (target_put w new (string_bytes file.path) (Ok text) file.is_there made.named t)

-- ---- one file

pub replaced : (before made now : Option World) (new real text : List ℕ) → Makes before made new text
    → now ≡ option_map (moved new real) made → now ≡ option_map (with_file real (Ok text)) before
replaced None made now new real text m e = e ∙ ap (option_map (moved new real)) m.world
replaced (Some w) made now new real text m e =
    e ∙ ap (option_map (moved new real)) m.world
    ∙ ap (λ (x : World). Some x) (put_in_place w new real (Ok text) m.free.nothing)

-- ---- only temporary files are left

spoils_none : (w n : World) (undo_path undo path text : List ℕ) (is_there also_there : Bool)
    → LeadsTo w undo_path undo_path is_there → LeadsTo w path path also_there → Litters w n
    → SpoilsTwo w n undo_path undo path text
spoils_none w n undo_path undo path text is_there also_there t u l = record {
  paths = l.paths;
  undo_here = λ apart stores. inl (at_place n w undo_path l.paths ∙ l.files (place_of w undo_path) (inr t.apart));
  text_here = λ apart stores. inl (at_place n w path l.paths ∙ l.files (place_of w path) (inr u.apart));
  others = λ place a b there. l.files place (inl there);
}

stays_listed : (w : World) (new place : List ℕ) (left : Result (List ℕ) InputFault) → place ≢ place_of w new
    → IsFileOrLasting w place → IsFileOrLasting (with_file new left w) place
stays_listed w new place left apart (inl there) =
    inl (λ none. there (sym (put_beside w.files (place_of w new) left place apart) ∙ none))
stays_listed w new place left apart (inr lasting) = inr lasting

-- a temporary file was made, others were left, and it was removed or not
littered_over : (w m n : World) (new text : List ℕ) → held_at w new ≡ Err NotFound → IsTemporary new
    → Litters (with_file new (Ok text) w) m → Loses new m n → Litters w n
littered_over w m n new text free named l k = record {
  paths = k.paths ∙ l.paths;
  files = λ place keeps.
      let apart = off_new w new place free named keeps in
      k.files place (shift_place m w place new l.paths apart)
      ∙ l.files place (stays_listed w new place (Ok text) apart keeps)
      ∙ put_beside w.files (place_of w new) (Ok text) place apart;
}

second_at : (w m : World) (now : Option World) (new text : List ℕ) → held_at w new ≡ Err NotFound → IsTemporary new
    → Litters (with_file new (Ok text) w) m → IfKnown (Loses new) (Some m) now → IfKnown Litters (Some w) now
second_at w m None new text free named l k = absurd k
second_at w m (Some n) new text free named l k = littered_over w m n new text free named l k

second_by : (w : World) (failed now : Option World) (new text : List ℕ) → held_at w new ≡ Err NotFound → IsTemporary new
    → IfKnown Litters (Some (with_file new (Ok text) w)) failed → MayLose failed now new → IfKnown Litters (Some w) now
second_by w None now new text free named l lost = absurd l
second_by w (Some m) now new text free named l lost = second_at w m now new text free named l (loses_of m now new lost)

pub spoils_as_littered : (before now : Option World) (undo_file file : StoredFile) (undo text : List ℕ)
    → IsTarget before undo_file → IsTarget before file → IfKnown Litters before now
    → SpoilsPair before now (string_bytes undo_file.path) undo (string_bytes file.path) text
spoils_as_littered None now undo_file file undo text t u l = tt
spoils_as_littered (Some w) None undo_file file undo text t u l = absurd l
spoils_as_littered (Some w) (Some n) undo_file file undo text t u l =
    spoils_none w n (string_bytes undo_file.path) undo (string_bytes file.path) text undo_file.is_there file.is_there t u l

-- the second new file could not be written
pub second_failed : (before made failed now : Option World) (undo_file file : StoredFile) (new undo text : List ℕ)
    → IsTarget before undo_file → IsTarget before file → Makes before made new undo → IfKnown Litters made failed
    → MayLose failed now new
    → SpoilsPair before now (string_bytes undo_file.path) undo (string_bytes file.path) text
second_failed None made failed now undo_file file new undo text t u m l lost = tt
second_failed (Some w) made failed now undo_file file new undo text t u m l lost =
    spoils_as_littered (Some w) now undo_file file undo text t u
    (second_by w failed now new undo m.free.nothing m.named
    (subst (λ (x : Option World). IfKnown Litters x failed) m.world l) lost)

-- ---- both new files could not be put in place

-- two new files were made
pub record Made (w : World) (undo_path new_undo path new_text undo : List ℕ) : Type 0 where
  pub undo_apart : (other : List ℕ) → IsTemporary other → place_of w other ≢ place_of w undo_path
  pub path_apart : (other : List ℕ) → IsTemporary other → place_of w other ≢ place_of w path
  pub undo_named : IsTemporary new_undo
  pub text_named : IsTemporary new_text
  pub undo_free : held_at w new_undo ≡ Err NotFound
  pub text_free : held_at (with_file new_undo (Ok undo) w) new_text ≡ Err NotFound

is_some_file : {bytes : List ℕ} {held : Result (List ℕ) InputFault} → held ≡ Ok bytes → held ≢ Err NotFound
is_some_file e none = let no = sym e ∙ none in cc

two_apart : (w : World) (undo_path new_undo path new_text undo : List ℕ) → Made w undo_path new_undo path new_text undo
    → place_of w new_undo ≢ place_of w new_text
two_apart w undo_path new_undo path new_text undo k =
    let v = with_file new_undo (Ok undo) w in
    apart_by v new_undo new_text (is_some_file (holds w new_undo (Ok undo))) k.text_free

made_beside : (w : World) (new_undo new_text undo text place : List ℕ) → place ≢ place_of w new_undo
    → place ≢ place_of w new_text
    → (with_file new_text (Ok text) (with_file new_undo (Ok undo) w)).files place ≡ w.files place
made_beside w new_undo new_text undo text place a b =
    put_beside (with_file new_undo (Ok undo) w).files (place_of w new_text) (Ok text) place b
    ∙ put_beside w.files (place_of w new_undo) (Ok undo) place a

-- a place with no file among both new ones
none_made : (w : World) (undo_path new_undo path new_text undo text place : List ℕ)
    → Made w undo_path new_undo path new_text undo
    → (with_file new_text (Ok text) (with_file new_undo (Ok undo) w)).files place ≡ Err NotFound
    → w.files place ≡ Err NotFound
none_made w undo_path new_undo path new_text undo text place k none =
    let v = with_file new_undo (Ok undo) w in
    let m = with_file new_text (Ok text) v in
    let off_text : place ≢ place_of w new_text =
    λ e. is_some_file (ap m.files e ∙ holds v new_text (Ok text)) none in
    let off_undo : place ≢ place_of w new_undo =
    λ e. is_some_file
    (ap m.files e ∙ holds_beside v new_text new_undo (Ok text) (two_apart w undo_path new_undo path new_text undo k)
    ∙ holds w new_undo (Ok undo)) none in
    sym (made_beside w new_undo new_text undo text place off_undo off_text) ∙ none

-- nothing was at the place of the second new file
none_there : (w : World) (undo_path new_undo path new_text undo : List ℕ) → Made w undo_path new_undo path new_text undo
    → held_at w new_text ≡ Err NotFound
none_there w undo_path new_undo path new_text undo k =
    sym (holds_beside w new_undo new_text (Ok undo) (back_to (two_apart w undo_path new_undo path new_text undo k)))
    ∙ k.text_free

gone_before : (w n : World) (undo_path new_undo path new_text undo text : List ℕ)
    → Made w undo_path new_undo path new_text undo
    → held_at (with_file new_text (Ok text) (with_file new_undo (Ok undo) w)) undo_path ≡ held_at w undo_path
    → IsMovedAway (with_file new_text (Ok text) (with_file new_undo (Ok undo) w)) n undo_path
    → IsMovedAway w n undo_path
gone_before w n undo_path new_undo path new_text undo text k was g = record {
  gone = g.gone;
  kept = g.kept;
  free = none_made w undo_path new_undo path new_text undo text g.kept k g.free;
  holds = g.holds ∙ was;
}

undo_left : (w n : World) (undo_path new_undo path new_text undo text : List ℕ)
    → Made w undo_path new_undo path new_text undo
    → held_at (with_file new_text (Ok text) (with_file new_undo (Ok undo) w)) new_undo ≡ Ok undo
    → held_at (with_file new_text (Ok text) (with_file new_undo (Ok undo) w)) undo_path ≡ held_at w undo_path
    → (held_at n undo_path ≡ held_at (with_file new_text (Ok text) (with_file new_undo (Ok undo) w)) undo_path)
    ⊎ (held_at n undo_path ≡ held_at (with_file new_text (Ok text) (with_file new_undo (Ok undo) w)) new_undo)
    ⊎ IsMovedAway (with_file new_text (Ok text) (with_file new_undo (Ok undo) w)) n undo_path
    → (held_at n undo_path ≡ held_at w undo_path) ⊎ (held_at n undo_path ≡ Ok undo) ⊎ IsMovedAway w n undo_path
undo_left w n undo_path new_undo path new_text undo text k is was (inl e) = inl (e ∙ was)
undo_left w n undo_path new_undo path new_text undo text k is was (inr (inl e)) = inr (inl (e ∙ is))
undo_left w n undo_path new_undo path new_text undo text k is was (inr (inr g)) =
    inr (inr (gone_before w n undo_path new_undo path new_text undo text k was g))

text_left : (w n : World) (undo_path new_undo path new_text undo text : List ℕ)
    → held_at (with_file new_text (Ok text) (with_file new_undo (Ok undo) w)) new_undo ≡ Ok undo
    → held_at (with_file new_text (Ok text) (with_file new_undo (Ok undo) w)) new_text ≡ Ok text
    → held_at (with_file new_text (Ok text) (with_file new_undo (Ok undo) w)) path ≡ held_at w path
    → (held_at n path ≡ held_at (with_file new_text (Ok text) (with_file new_undo (Ok undo) w)) path)
    ⊎ ((held_at n path ≡ held_at (with_file new_text (Ok text) (with_file new_undo (Ok undo) w)) new_text)
    × (held_at n undo_path ≡ held_at (with_file new_text (Ok text) (with_file new_undo (Ok undo) w)) new_undo))
    → (held_at n path ≡ held_at w path)
    ⊎ ((held_at n path ≡ Ok text) × (stores_at w undo_path ≡ true → held_at n undo_path ≡ Ok undo))
text_left w n undo_path new_undo path new_text undo text undo_is text_is was (inl e) = inl (e ∙ was)
text_left w n undo_path new_undo path new_text undo text undo_is text_is was (inr p) =
    inr (p.0 ∙ text_is, λ stores. p.1 ∙ undo_is)

both_spoil : (w n : World) (undo_path new_undo path new_text undo text : List ℕ)
    → Made w undo_path new_undo path new_text undo
    → BothFail undo_path new_undo path new_text (with_file new_text (Ok text) (with_file new_undo (Ok undo) w)) n
    → SpoilsTwo w n undo_path undo path text
both_spoil w n undo_path new_undo path new_text undo text k f =
    let v = with_file new_undo (Ok undo) w in
    let m = with_file new_text (Ok text) v in
    let undo_is : held_at m new_undo ≡ Ok undo =
    holds_beside v new_text new_undo (Ok text) (two_apart w undo_path new_undo path new_text undo k)
    ∙ holds w new_undo (Ok undo) in
    let text_is : held_at m new_text ≡ Ok text = holds v new_text (Ok text) in
    let undo_was : held_at m undo_path ≡ held_at w undo_path =
    made_beside w new_undo new_text undo text (place_of w undo_path) (back_to (k.undo_apart new_undo k.undo_named))
    (back_to (k.undo_apart new_text k.text_named)) in
    let text_was : held_at m path ≡ held_at w path =
    made_beside w new_undo new_text undo text (place_of w path) (back_to (k.path_apart new_undo k.undo_named))
    (back_to (k.path_apart new_text k.text_named)) in record {
      paths = f.paths;
      undo_here = λ apart stores. undo_left w n undo_path new_undo path new_text undo text k undo_is undo_was (f.undo_here apart);
      text_here = λ apart stores. text_left w n undo_path new_undo path new_text undo text undo_is text_is text_was (f.text_here apart);
      others = λ place a b there.
          let off_undo : place ≢ place_of w new_undo = λ e. there (ap w.files e ∙ k.undo_free) in
          let off_text : place ≢ place_of w new_text =
          λ e. there (ap w.files e ∙ none_there w undo_path new_undo path new_text undo k) in
          let same = made_beside w new_undo new_text undo text place off_undo off_text in
          f.others place a b off_undo off_text (inl (λ none. there (sym same ∙ none))) ∙ same;
    }

both_spoil_at : (w : World) (now : Option World) (undo_path new_undo path new_text undo text : List ℕ)
    → Made w undo_path new_undo path new_text undo
    → IfKnown (BothFail undo_path new_undo path new_text)
    (Some (with_file new_text (Ok text) (with_file new_undo (Ok undo) w))) now
    → SpoilsPair (Some w) now undo_path undo path text
both_spoil_at w None undo_path new_undo path new_text undo text k f = absurd f
both_spoil_at w (Some n) undo_path new_undo path new_text undo text k f =
    both_spoil w n undo_path new_undo path new_text undo text k f

free_after : (w : World) (mid : Option World) (new_undo new_text undo : List ℕ)
    → mid ≡ Some (with_file new_undo (Ok undo) w) → IsNew mid new_text
    → held_at (with_file new_undo (Ok undo) w) new_text ≡ Err NotFound
free_after w mid new_undo new_text undo e free =
    (subst (λ (x : Option World). IsNew x new_text) e free).nothing

pub both_spoiled : (before mid made now : Option World) (undo_file file : StoredFile) (new_undo new_text undo text : List ℕ)
    → IsTarget before undo_file → IsTarget before file → Makes before mid new_undo undo → Makes mid made new_text text
    → IfKnown (BothFail (string_bytes undo_file.path) new_undo (string_bytes file.path) new_text) made now
    → SpoilsPair before now (string_bytes undo_file.path) undo (string_bytes file.path) text
both_spoiled None mid made now undo_file file new_undo new_text undo text t u p q f = tt
both_spoiled (Some w) mid made now undo_file file new_undo new_text undo text t u p q f =
    both_spoil_at w now (string_bytes undo_file.path) new_undo (string_bytes file.path) new_text undo text
    (record {
      undo_apart = t.apart;
      path_apart = u.apart;
      undo_named = p.named;
      text_named = q.named;
      undo_free = p.free.nothing;
      text_free = free_after w mid new_undo new_text undo p.world q.free;
    })
    (subst (λ (x : Option World). IfKnown (BothFail (string_bytes undo_file.path) new_undo (string_bytes file.path) new_text) x now)
    (q.world ∙ ap (option_map (with_file new_text (Ok text))) p.world) f)

-- ---- both new files are put in place

both_put : (w : World) (undo_path new_undo path new_text undo text : List ℕ) → Made w undo_path new_undo path new_text undo
    → puts_both undo_path new_undo path new_text (with_file new_text (Ok text) (with_file new_undo (Ok undo) w))
    ≡ both_saved undo_path undo path text w
both_put w undo_path new_undo path new_text undo text k =
    let v = with_file new_undo (Ok undo) w in
    let x = with_file undo_path (Ok undo) w in
    let off = k.undo_apart new_text k.text_named in
    let undo_put : moved new_undo undo_path (with_file new_text (Ok text) v) ≡ with_file new_text (Ok text) x =
    moved_beside v new_undo undo_path new_text (Ok text) (two_apart w undo_path new_undo path new_text undo k) (back_to off)
    ∙ ap (with_file new_text (Ok text)) (put_in_place w new_undo undo_path (Ok undo) k.undo_free) in
    ap (moved new_text path) undo_put
    ∙ put_in_place x new_text path (Ok text)
    (holds_beside w undo_path new_text (Ok undo) off ∙ none_there w undo_path new_undo path new_text undo k)

pub both_in_place : (before mid made now : Option World) (undo_file file : StoredFile) (new_undo new_text undo text : List ℕ)
    → IsTarget before undo_file → IsTarget before file → Makes before mid new_undo undo → Makes mid made new_text text
    → now ≡ option_map (puts_both (string_bytes undo_file.path) new_undo (string_bytes file.path) new_text) made
    → now ≡ option_map (both_saved (string_bytes undo_file.path) undo (string_bytes file.path) text) before
both_in_place None mid made now undo_file file new_undo new_text undo text t u p q e =
    e ∙ ap (option_map (puts_both (string_bytes undo_file.path) new_undo (string_bytes file.path) new_text))
    (q.world ∙ ap (option_map (with_file new_text (Ok text))) p.world)
both_in_place (Some w) mid made now undo_file file new_undo new_text undo text t u p q e =
    e ∙ ap (option_map (puts_both (string_bytes undo_file.path) new_undo (string_bytes file.path) new_text))
    (q.world ∙ ap (option_map (with_file new_text (Ok text))) p.world)
    ∙ ap (λ (x : World). Some x)
    (both_put w (string_bytes undo_file.path) new_undo (string_bytes file.path) new_text undo text
    record {
      undo_apart = t.apart;
      path_apart = u.apart;
      undo_named = p.named;
      text_named = q.named;
      undo_free = p.free.nothing;
      text_free = free_after w mid new_undo new_text undo p.world q.free;
    })

-- ---- what a path leads to

pub target_of : (world : Option World) (path : List ℕ) (file : StoredFile) → Leads world path (Stores file)
    → IsTarget world file
target_of None path file l = tt
target_of (Some w) path file l = record {
  place = refl;
  stores = ap w.paths.stores l.place ∙ l.stores;
  direct = l.direct;
  apart = λ other named e. l.apart other named (e ∙ l.place);
  there = λ e none. l.there e (sym (ap w.files l.place) ∙ none);
  nothing = λ e. ap w.files l.place ∙ l.nothing e;
}

-- ---- by any path to the files

both_at : (w : World) (undo_path undo_real undo path real text : List ℕ) (is_there also_there : Bool)
    → LeadsTo w undo_path undo_real is_there → LeadsTo w path real also_there
    → both_saved undo_real undo real text w ≡ with_pair undo_path undo path text w
both_at w undo_path undo_real undo path real text is_there also_there t u =
    is_with_text (with_file undo_real (Ok undo) w) path real text u.stores u.place
    ∙ ap (with_text path text) (is_with_text w undo_path undo_real undo t.stores t.place)

pub pair_saved : {U E : Type 0} (before now : Option World) (undo_path undo path text : List ℕ) (undo_file file : StoredFile)
    (r : Result U E) → Leads before undo_path (Stores undo_file) → Leads before path (Stores file)
    → OnOk r (now ≡ option_map (both_saved (string_bytes undo_file.path) undo (string_bytes file.path) text) before)
    → OnOk r (now ≡ option_map (with_pair undo_path undo path text) before)
pair_saved before now undo_path undo path text undo_file file (Err e) t u s = s
pair_saved None now undo_path undo path text undo_file file (Ok v) t u s = s
pair_saved (Some w) now undo_path undo path text undo_file file (Ok v) t u s =
    s ∙ ap (λ (x : World). Some x)
    (both_at w undo_path (string_bytes undo_file.path) undo path (string_bytes file.path) text undo_file.is_there
    file.is_there t u)

gone_at : (w n : World) (path real : List ℕ) → held_at n real ≡ held_at n path → held_at w real ≡ held_at w path
    → IsMovedAway w n real → IsMovedAway w n path
gone_at w n path real now was g = record {
  gone = sym now ∙ g.gone;
  kept = g.kept;
  free = g.free;
  holds = g.holds ∙ was;
}

undo_at : (w n : World) (path real undo : List ℕ) → held_at n real ≡ held_at n path → held_at w real ≡ held_at w path
    → (held_at n real ≡ held_at w real) ⊎ (held_at n real ≡ Ok undo) ⊎ IsMovedAway w n real
    → (held_at n path ≡ held_at w path) ⊎ (held_at n path ≡ Ok undo) ⊎ IsMovedAway w n path
undo_at w n path real undo now was (inl e) = inl (sym now ∙ e ∙ was)
undo_at w n path real undo now was (inr (inl e)) = inr (inl (sym now ∙ e))
undo_at w n path real undo now was (inr (inr g)) = inr (inr (gone_at w n path real now was g))

text_at : (w n : World) (undo_path undo_real undo path real text : List ℕ) → held_at n undo_real ≡ held_at n undo_path
    → place_of w undo_real ≡ place_of w undo_path → held_at n real ≡ held_at n path → held_at w real ≡ held_at w path
    → (held_at n real ≡ held_at w real)
    ⊎ ((held_at n real ≡ Ok text) × (stores_at w undo_real ≡ true → held_at n undo_real ≡ Ok undo))
    → (held_at n path ≡ held_at w path)
    ⊎ ((held_at n path ≡ Ok text) × (stores_at w undo_path ≡ true → held_at n undo_path ≡ Ok undo))
text_at w n undo_path undo_real undo path real text undo_now place now was (inl e) = inl (sym now ∙ e ∙ was)
text_at w n undo_path undo_real undo path real text undo_now place now was (inr p) =
    inr (sym now ∙ p.0, λ stores. sym undo_now ∙ p.1 (ap w.paths.stores place ∙ stores))

spoils_at : (w n : World) (undo_path undo_real undo path real text : List ℕ) → place_of w undo_real ≡ place_of w undo_path
    → place_of w real ≡ place_of w path → SpoilsTwo w n undo_real undo real text → SpoilsTwo w n undo_path undo path text
spoils_at w n undo_path undo_real undo path real text u p h =
    let same : (a b : List ℕ) → place_of w a ≡ place_of w b → held_at n a ≡ held_at n b =
    λ a b e. at_place n w a h.paths ∙ ap n.files e ∙ sym (at_place n w b h.paths) in
    let undo_now = same undo_real undo_path u in
    let now = same real path p in
    let off : place_of w undo_path ≢ place_of w path → place_of w undo_real ≢ place_of w real =
    λ apart e. apart (sym u ∙ e ∙ p) in record {
      paths = h.paths;
      undo_here = λ apart stores.
          undo_at w n undo_path undo_real undo undo_now (ap w.files u)
          (h.undo_here (off apart) (ap w.paths.stores u ∙ stores));
      text_here = λ apart stores.
          text_at w n undo_path undo_real undo path real text undo_now u now (ap w.files p)
          (h.text_here (off apart) (ap w.paths.stores p ∙ stores));
      others = λ place a b there. h.others place (λ e. a (e ∙ u)) (λ e. b (e ∙ p)) there;
    }

pub pair_failed : {U : Type 0} (before now : Option World) (undo_path undo path text : List ℕ) (undo_file file : StoredFile)
    (r : Result U PairFault) → Leads before undo_path (Stores undo_file) → Leads before path (Stores file)
    → IfErr r (PairFails before now (string_bytes undo_file.path) undo (string_bytes file.path) text)
    → IfErr r (PairFails before now undo_path undo path text)
pair_failed before now undo_path undo path text undo_file file (Ok v) t u f = f
pair_failed before now undo_path undo path text undo_file file (Err pair.OutOfMemory) t u f = f
pair_failed None now undo_path undo path text undo_file file (Err (pair.Write which written)) t u f = tt
pair_failed (Some w) None undo_path undo path text undo_file file (Err (pair.Write which written)) t u f = f
pair_failed (Some w) (Some n) undo_path undo path text undo_file file (Err (pair.Write which written)) t u f =
    spoils_at w n undo_path (string_bytes undo_file.path) undo path (string_bytes file.path) text t.place u.place f
