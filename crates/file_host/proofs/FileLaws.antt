-- Laws of files.
use mathlib.Core.Path.{fun_ext}
use Rattle.std.proofs.Common.{◌≡◌, ◌≢◌, ℕ, List, [], ◌∷◌, ◌++◌, take, length, get_or, Option, Some, Result, Ok, Err}
use Rattle.std.proofs.Common.{Bool, true, false, refl, sym, ap, subst, ◌∙◌, string_bytes, ◌<◌, ◌+◌, if◌then◌else◌}
use Rattle.std.specs.Prelude.{OnOk}
use Rattle.std.specs.Option.{option_map}
use Rattle.std.specs.Str.{bytes_eq}
use Rattle.std.proofs.lemmas.List.{take_more}
use Rattle.std.proofs.lemmas.Slice.Eq.{bytes_eq-Decides}
use Rattle.file_host.specs.declared.input_fault.InputFault.{InputFault}
use Rattle.file_host.specs.declared.input_fault.InputFault.TheVariants.{IsFolder}
use Rattle.file_host.specs.declared.saved.Content.{Content}
use Rattle.file_host.specs.declared.saved.Content.TheVariants.{File, Folder}
use Rattle.file_host.specs.declared.saved.Entry.{Entry}
use Rattle.file_host.specs.World.{World, file_put, is_nothing, with_text, with_pair, with_folder, with_folder_there}
use Rattle.file_host.specs.Journal.{Pushes, can_store, no_files, held_after, held_in, found_or_not}
use Rattle.file_host.specs.Journal.{plain_paths, plain_world, world_of}

-- ---- one file

pick_other : {X : Type 0} (x y : X) (b : Bool) → (b ≡ true → ⊥) → (if b then x else y) ≡ y
pick_other x y true h = absurd (h refl)
pick_other x y false h = refl

pub pick_it : {X : Type 0} (x y : X) (b : Bool) → b ≡ true → (if b then x else y) ≡ x
pick_it x y true h = refl
pick_it x y false h = cc

pick_not : {X : Type 0} (x y : X) (b : Bool) → b ≡ false → (if b then x else y) ≡ y
pick_not x y true h = cc
pick_not x y false h = refl

-- the file that was put
pub put_at : (held : List ℕ → Result (List ℕ) InputFault) (path : List ℕ) (left : Result (List ℕ) InputFault)
    → file_put held path left path ≡ left
put_at held path left = pick_it left (held path) (bytes_eq path path) ((bytes_eq-Decides path path).1 refl)

-- any other file
pub put_beside : (held : List ℕ → Result (List ℕ) InputFault) (path : List ℕ) (left : Result (List ℕ) InputFault)
    (asked : List ℕ) → asked ≢ path → file_put held path left asked ≡ held asked
put_beside held path left asked h =
    pick_other left (held asked) (bytes_eq asked path) (λ e. h ((bytes_eq-Decides asked path).0 e))

-- ---- entries in a row

-- one more entry
pub held_more : (held : List ℕ → Result (List ℕ) InputFault) (entries : List Entry) (entry : Entry)
    → held_after held (entries ++ entry ∷ [])
    ≡ file_put (held_after held entries) (string_bytes entry.path) (held_in entry.content)
held_more held [] entry = refl
held_more held (e ∷ es) entry = held_more (file_put held (string_bytes e.path) (held_in e.content)) es entry

-- what was found, one entry later
found_step : (was now : Option Content) (content : Content) (test : Bool) (held : Result (List ℕ) InputFault)
    → found_or_not was ≡ held → now ≡ (if test then Some content else was)
    → found_or_not now ≡ (if test then held_in content else held)
found_step was now content true held h k = ap found_or_not k
found_step was now content false held h k = ap found_or_not k ∙ h

-- what was found in the entries so far, one entry later
pub newest_step : (entries : List Entry) (i : ℕ) (entry : Entry) (path : List ℕ) (test : Bool)
    (was now : Option Content) → i < length entries → entry ≡ get_or entries i entry
    → test ≡ bytes_eq path (string_bytes entry.path) → found_or_not was ≡ held_after no_files (take i entries) path
    → now ≡ (if test then Some entry.content else was)
    → found_or_not now ≡ held_after no_files (take (i + 1) entries) path
newest_step entries i entry path test was now lt is e h k =
    let more : take (i + 1) entries ≡ take i entries ++ entry ∷ [] =
    take_more entries i entry lt ∙ ap (λ (f : Entry). take i entries ++ f ∷ []) (sym is) in
    let last : held_after no_files (take (i + 1) entries) ≡ file_put (held_after no_files (take i entries)) (string_bytes entry.path) (held_in entry.content) =
    ap (held_after no_files) more ∙ held_more no_files (take i entries) entry in
    let step : found_or_not now ≡ (if test then held_in entry.content else held_after no_files (take i entries) path) =
    found_step was now entry.content test _ h k in
    rw last
    (subst (λ (b : Bool). found_or_not now ≡ (if b then held_in entry.content else held_after no_files (take i entries) path))
    e step)

-- where something was found, there is not nothing
pub found_there : (found : Option Content) (content : Content) → found ≡ Some content
    → is_nothing (found_or_not found) ≡ false
found_there found (File bytes) e = ap (λ (f : Option Content). is_nothing (found_or_not f)) e
found_there found Folder e = ap (λ (f : Option Content). is_nothing (found_or_not f)) e

-- ---- the world after one more entry

-- a world whose paths store at these places
abbrev with_stores : (old new : List ℕ → Result (List ℕ) InputFault) → (List ℕ → Bool) → World
with_stores old new stores = record { paths = record (plain_paths old) { stores = stores }; files = new }

stores_still : (bytes : List ℕ) (held : Result (List ℕ) InputFault) (b : Bool) → (b ≡ true → can_store held ≡ true)
    → can_store (if b then Ok bytes else held) ≡ can_store held
stores_still bytes held true h = sym (h refl)
stores_still bytes held false h = refl

stores_no_more : (held : Result (List ℕ) InputFault) (b : Bool)
    → can_store (if b then Err IsFolder else held) ≡ (if b then false else can_store held)
stores_no_more held true = refl
stores_no_more held false = refl

text_put : (held : List ℕ → Result (List ℕ) InputFault) (path bytes : List ℕ) → can_store (held path) ≡ true
    → plain_world (file_put held path (Ok bytes)) ≡ with_text path bytes (plain_world held)
text_put held path bytes h =
    let put = file_put held path (Ok bytes) in
    let old : List ℕ → Bool = λ place. can_store (held place) in
    let stores : (λ (place : List ℕ). can_store (put place)) ≡ old =
    fun_ext (λ (place : List ℕ). stores_still bytes (held place) (bytes_eq place path)
    (λ e. ap (λ (p : List ℕ). can_store (held p)) ((bytes_eq-Decides place path).0 e) ∙ h)) in
    ap (with_stores held put) stores
    ∙ sym (pick_it (with_stores held put old) (plain_world held) (can_store (held path)) h)

folder_put : (held : List ℕ → Result (List ℕ) InputFault) (path : List ℕ)
    → plain_world (file_put held path (Err IsFolder)) ≡ with_folder path (plain_world held)
folder_put held path =
    let put = file_put held path (Err IsFolder) in
    ap (with_stores held put) (fun_ext (λ (place : List ℕ). stores_no_more (held place) (bytes_eq place path)))

-- what is held after one more entry
held_pushed : (old new : List Entry) (path : List ℕ) (held : Result (List ℕ) InputFault) → Pushes old new path held
    → held_after no_files new ≡ file_put (held_after no_files old) path held
held_pushed old new path held p =
    ap (held_after no_files) p.items ∙ held_more no_files old p.entry
    ∙ ap (λ (x : List ℕ). file_put (held_after no_files old) x (held_in p.entry.content)) p.named
    ∙ ap (λ (x : Result (List ℕ) InputFault). file_put (held_after no_files old) path x) p.holds

world_pushed : (old new : List Entry) (path bytes : List ℕ) → Pushes old new path (Ok bytes)
    → can_store (held_after no_files old path) ≡ true → world_of new ≡ with_text path bytes (world_of old)
world_pushed old new path bytes p h =
    ap plain_world (held_pushed old new path (Ok bytes) p) ∙ text_put (held_after no_files old) path bytes h

-- the same for a save, which may fail
pub saved_if_pushed : {U E : Type 0} (r : Result U E) (old new : List Entry) (path bytes : List ℕ)
    → OnOk r (Pushes old new path (Ok bytes)) → OnOk r (can_store (held_after no_files old path) ≡ true)
    → OnOk r (Some (world_of new) ≡ option_map (with_text path bytes) (Some (world_of old)))
saved_if_pushed (Ok u) old new path bytes p h = ap (λ (w : World). Some w) (world_pushed old new path bytes p h)
saved_if_pushed (Err e) old new path bytes p h = p

-- the world after two more files
pub pair_pushed : (old mid new : List Entry) (undo_path undo path bytes : List ℕ)
    → Pushes old mid undo_path (Ok undo) → can_store (held_after no_files old undo_path) ≡ true
    → Pushes mid new path (Ok bytes) → can_store (held_after no_files mid path) ≡ true
    → Some (world_of new) ≡ option_map (with_pair undo_path undo path bytes) (Some (world_of old))
pair_pushed old mid new undo_path undo path bytes p h q k =
    ap (λ (w : World). Some w)
    (world_pushed mid new path bytes q k ∙ ap (with_text path bytes) (world_pushed old mid undo_path undo p h))

-- the world after one more folder, where nothing was
pub folder_pushed : (old new : List Entry) (path : List ℕ) → Pushes old new path (Err IsFolder)
    → is_nothing (held_after no_files old path) ≡ true
    → Some (world_of new) ≡ option_map (with_folder_there path) (Some (world_of old))
folder_pushed old new path p h =
    ap (λ (w : World). Some w)
    (ap plain_world (held_pushed old new path (Err IsFolder) p) ∙ folder_put (held_after no_files old) path
    ∙ sym (pick_it (with_folder path (world_of old)) (world_of old) (is_nothing (held_after no_files old path)) h))

-- the world where something is already
pub folder_stays : (entries : List Entry) (path : List ℕ) → is_nothing (held_after no_files entries path) ≡ false
    → Some (world_of entries) ≡ option_map (with_folder_there path) (Some (world_of entries))
folder_stays entries path h =
    ap (λ (w : World). Some w) (sym (pick_not (with_folder path (world_of entries)) (world_of entries) _ h))
