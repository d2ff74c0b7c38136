-- The distinct files of rows, row by row.
use Rattle.std.proofs.Common.{◌≡◌, ℕ, ◌+◌, Bool, true, false, cond, List, [], ◌∷◌, ◌++◌, map, not, ◌&&◌, ◌||◌, refl}
use Rattle.std.proofs.Common.{sym, ap, ◌∙◌, append_assoc, Bor, ◌<◌, ◌≤◌, length, drop, get_or, arith}
use Rattle.std.specs.Prelude.{bytes_eq}
use Rattle.std.specs.List.{All, filter, list_any, position_or_len}
use Rattle.std.proofs.lemmas.List.{append-nil, map_push, at_drop_more, at_drop_all}
use Rattle.std.proofs.lemmas.List.Elements.{All-push, All-weaker}
use Rattle.std.proofs.lemmas.List.Folds.{list_any-append}
use Rattle.std.proofs.lemmas.Slice.Eq.{bytes_eq-Decides}
use Rattle.kit_tables.specs.declared.files.KitFile.{KitFile}
use Rattle.kit_tables.specs.declared.row.KitRow.{KitRow}
use Rattle.kit_tables.specs.Rows.{Row, row_of}
use Rattle.kit_tables.specs.Files.{NamedFile, named_file, file_in, has_path, distinct, files_of, index_among, with_file}

-- ---- lists

filter_twice : {X : Type 0} (p q r : X → Bool) → ((x : X) → r x ≡ (q x && p x)) → (xs : List X)
    → filter p (filter q xs) ≡ filter r xs
filter_twice p q r same [] = refl
filter_twice p q r same (x ∷ xs) = from (q x) (p x) refl refl (filter_twice p q r same xs)
  where
    from : (a b : Bool) → q x ≡ a → p x ≡ b → filter p (filter q xs) ≡ filter r xs
        → filter p (filter q (x ∷ xs)) ≡ filter r (x ∷ xs)
    from true true d e rest = rw (same x, d, e) (ap (λ ys. x ∷ ys) rest)
    from true false d e rest = rw (same x, d, e) rest
    from false b d e rest = rw (same x, d) rest

found_index : {X : Type 0} (p : X → Bool) (xs ys : List X) → list_any p xs ≡ true
    → position_or_len p (xs ++ ys) ≡ position_or_len p xs
found_index p [] ys some = cc
found_index p (x ∷ xs) ys some = from (p x) refl some (found_index p xs ys)
  where
    from : (b : Bool) → p x ≡ b → (b || list_any p xs) ≡ true
        → (list_any p xs ≡ true → position_or_len p (xs ++ ys) ≡ position_or_len p xs)
        → position_or_len p (x ∷ (xs ++ ys)) ≡ position_or_len p (x ∷ xs)
    from true e h rest = rw e refl
    from false e h rest = rw e (ap (λ n. 1 + n) (rest h))

new_index : {X : Type 0} (p : X → Bool) (xs ys : List X) (y : X) → list_any p xs ≡ false → p y ≡ true
    → position_or_len p (xs ++ y ∷ ys) ≡ position_or_len p xs
new_index p [] ys y none passes = rw passes refl
new_index p (x ∷ xs) ys y none passes = from (p x) refl none (λ h. new_index p xs ys y h passes)
  where
    from : (b : Bool) → p x ≡ b → (b || list_any p xs) ≡ false
        → (list_any p xs ≡ false → position_or_len p (xs ++ y ∷ ys) ≡ position_or_len p xs)
        → position_or_len p (x ∷ (xs ++ y ∷ ys)) ≡ position_or_len p (x ∷ xs)
    from true e h rest = cc
    from false e h rest = rw e (ap (λ n. 1 + n) (rest h))

all_kept : {X : Type 0} (p : X → Bool) → ((x : X) → p x ≡ true) → (xs : List X) → filter p xs ≡ xs
all_kept p passes [] = refl
all_kept p passes (x ∷ xs) = rw (passes x) (ap (λ ys. x ∷ ys) (all_kept p passes xs))

-- ---- one more row

-- none of the files has this file's path
abbrev pub is_new : List NamedFile → NamedFile → Bool
is_new files f = not (list_any (has_path f.path) files)

-- the files so far, and those of other rows that are new
abbrev pub then_files : List NamedFile → List Row → List NamedFile
then_files files left = files ++ filter (is_new files) (distinct (map file_in left))

known_stays : (files : List NamedFile) (f : NamedFile) → list_any (has_path f.path) files ≡ true → (g : NamedFile)
    → is_new files g ≡ (not (has_path g.path f) && is_new files g)
known_stays files f known g = from (has_path g.path f) refl
  where
    from : (b : Bool) → has_path g.path f ≡ b → is_new files g ≡ (not b && is_new files g)
    from true e =
        let same : g.path ≡ f.path = (bytes_eq-Decides g.path f.path).0 e in
        ap (λ path. not (list_any (has_path path) files)) same ∙ ap not known
    from false e = refl

new_stays : (files : List NamedFile) (f g : NamedFile)
    → is_new (files ++ f ∷ []) g ≡ (not (has_path g.path f) && is_new files g)
new_stays files f g =
    ap not (list_any-append (has_path g.path) files (f ∷ []))
    ∙ from (list_any (has_path g.path) files) (has_path g.path f)
  where
    from : (a b : Bool) → not (a || (b || false)) ≡ (not b && not a)
    from true true = refl
    from true false = refl
    from false true = refl
    from false false = refl

files_go_on : (files : List NamedFile) (f : NamedFile) (ds : List NamedFile) (known : Bool)
    → list_any (has_path f.path) files ≡ known
    → files ++ filter (is_new files) (f ∷ filter (λ g. not (has_path g.path f)) ds)
    ≡ cond known files (files ++ f ∷ []) ++ filter (is_new (cond known files (files ++ f ∷ []))) ds
files_go_on files f ds true e =
    rw e (ap (λ gs. files ++ gs) (filter_twice (is_new files) _ (is_new files) (known_stays files f e) ds))
files_go_on files f ds false e =
    rw e (ap (λ gs. files ++ f ∷ gs) (filter_twice (is_new files) _ (is_new (files ++ f ∷ [])) (new_stays files f) ds)
    ∙ sym (append_assoc files (f ∷ []) _))

then_on : (files : List NamedFile) (r : Row) (left : List Row)
    → then_files files (r ∷ left) ≡ then_files (with_file files (file_in r)) left
unfolding distinct
then_on files r left = files_go_on files (file_in r) (distinct (map file_in left)) _ refl

index_in : (files : List NamedFile) (r : Row) (ds : List NamedFile) (known : Bool)
    → list_any (has_path r.file) files ≡ known
    → index_among (files ++ filter (is_new files) (file_in r ∷ ds)) r ≡ index_among files r
index_in files r ds true e = found_index (has_path r.file) files _ e
index_in files r ds false e =
    rw e (new_index (has_path r.file) files _ (file_in r) e ((bytes_eq-Decides r.file r.file).1 refl))

-- the index of a row's file stays when further rows add theirs
index_stays : (files : List NamedFile) (r : Row) (left : List Row)
    → index_among (then_files files (r ∷ left)) r ≡ index_among files r
unfolding distinct
index_stays files r left = index_in files r _ _ refl

-- the row with the number i adds its file, and its index
pub files_on : (files : List NamedFile) (rows : List KitRow) (i : ℕ) (d : KitRow) (more all : List NamedFile)
    → i < length rows → then_files files (map row_of (drop i rows)) ≡ all
    → more ≡ with_file files (file_in (row_of (get_or rows i d)))
    → then_files more (map row_of (drop (i + 1) rows)) ≡ all
files_on files rows i d more all h e m =
    ap (λ fs. then_files fs (map row_of (drop (i + 1) rows))) m
    ∙ sym (then_on files (row_of (get_or rows i d)) (map row_of (drop (i + 1) rows)))
    ∙ sym (at_drop_more (λ left. then_files files (map row_of left)) rows i d h) ∙ e

index_on : (files : List NamedFile) (rows : List KitRow) (i : ℕ) (d : KitRow) (all : List NamedFile)
    → i < length rows → then_files files (map row_of (drop i rows)) ≡ all
    → index_among all (row_of (get_or rows i d)) ≡ index_among files (row_of (get_or rows i d))
index_on files rows i d all h e =
    ap (λ fs. index_among fs (row_of (get_or rows i d)))
    (sym e ∙ at_drop_more (λ left. then_files files (map row_of left)) rows i d h)
    ∙ index_stays files (row_of (get_or rows i d)) (map row_of (drop (i + 1) rows))

pub indices_on : (files : List NamedFile) (rows : List KitRow) (i : ℕ) (d : KitRow) (all : List NamedFile)
    (indices more whole : List ℕ) (index : ℕ)
    → i < length rows → then_files files (map row_of (drop i rows)) ≡ all
    → indices ++ map (index_among all) (map row_of (drop i rows)) ≡ whole
    → index ≡ index_among files (row_of (get_or rows i d)) → more ≡ indices ++ index ∷ []
    → more ++ map (index_among all) (map row_of (drop (i + 1) rows)) ≡ whole
indices_on files rows i d all indices more whole index h e w n m =
    let same : index ≡ index_among all (row_of (get_or rows i d)) = n ∙ sym (index_on files rows i d all h e) in
    rw (m, same) (append_assoc indices (index_among all (row_of (get_or rows i d)) ∷ []) _
    ∙ sym (at_drop_more (λ left. indices ++ map (index_among all) (map row_of left)) rows i d h) ∙ w)

pub within_on : (fewer more index : ℕ) (indices : List ℕ) → fewer ≤ more → All (λ i. i < fewer) indices → index < more
    → All (λ i. i < more) (indices ++ index ∷ [])
within_on fewer more index indices h all last =
    All-push (λ i. i < more) indices index
    (All-weaker (λ i. i < fewer) (λ i. i < more) (λ i k. omega (arith, h, k)) indices all) last

-- the last row has been read
pub files_end : (files : List NamedFile) (rows : List KitRow) (i : ℕ) (all : List NamedFile) → length rows ≤ i
    → then_files files (map row_of (drop i rows)) ≡ all → files ≡ all
unfolding distinct
files_end files rows i all h e =
    sym (append-nil files) ∙ sym (at_drop_all (λ left. then_files files (map row_of left)) rows i h) ∙ e

pub indices_end : (all : List NamedFile) (rows : List KitRow) (i : ℕ) (indices whole : List ℕ) → length rows ≤ i
    → indices ++ map (index_among all) (map row_of (drop i rows)) ≡ whole → indices ≡ whole
indices_end all rows i indices whole h e =
    sym (append-nil indices)
    ∙ sym (at_drop_all (λ left. indices ++ map (index_among all) (map row_of left)) rows i h) ∙ e

pub files_start : (rows : List Row) → then_files [] rows ≡ files_of rows
unfolding files_of
files_start rows = all_kept (is_new []) (λ f. refl) (distinct (map file_in rows))

-- ---- the paths of files

key_index : (path : List ℕ) (files : List KitFile)
    → position_or_len (λ key. bytes_eq path key.now) (map (λ file. file.path) files)
    ≡ position_or_len (has_path path) (map named_file files)
key_index path [] = refl
key_index path (f ∷ files) = ap (λ n. cond (not (bytes_eq path f.path.now)) (1 + n) 0) (key_index path files)

pub index_is : (path : List ℕ) (keys : List (Bor (List ℕ))) (files : List KitFile)
    → keys ≡ map (λ file. file.path) files
    → position_or_len (λ key. bytes_eq path key.now) keys ≡ position_or_len (has_path path) (map named_file files)
index_is path keys files e = rw e (key_index path files)

key_known : (path : List ℕ) (files : List KitFile)
    → list_any (λ key. bytes_eq path key.now) (map (λ file. file.path) files)
    ≡ list_any (has_path path) (map named_file files)
key_known path [] = refl
key_known path (f ∷ files) = ap (λ b. bytes_eq path f.path.now || b) (key_known path files)

-- one more file where its path is no key
pub one_more : (f : KitFile) (keys : List (Bor (List ℕ))) (files more : List KitFile)
    → keys ≡ map (λ file. file.path) files
    → true ≡ not (list_any (λ key. bytes_eq f.path.now key.now) keys) → more ≡ files ++ f ∷ []
    → map named_file more ≡ with_file (map named_file files) (named_file f)
one_more f keys files more e new m =
    from (list_any (has_path f.path.now) (map named_file files)) refl
    (rw (e, key_known f.path.now files) at new)
  where
    from : (b : Bool) → list_any (has_path f.path.now) (map named_file files) ≡ b → true ≡ not b
        → map named_file more ≡ with_file (map named_file files) (named_file f)
    from true d h = cc
    from false d h = rw (m, d) (map_push named_file files f)

-- no more files where its path is a key
pub no_more : (path : List ℕ) (line : ℕ) (keys : List (Bor (List ℕ))) (files : List KitFile)
    → keys ≡ map (λ file. file.path) files
    → false ≡ not (list_any (λ key. bytes_eq path key.now) keys)
    → map named_file files ≡ with_file (map named_file files) (record { path = path; line = line })
no_more path line keys files e known =
    from (list_any (has_path path) (map named_file files)) refl (rw (e, key_known path files) at known)
  where
    from : (b : Bool) → list_any (has_path path) (map named_file files) ≡ b → false ≡ not b
        → map named_file files ≡ with_file (map named_file files) (record { path = path; line = line })
    from true d h = rw d refl
    from false d h = cc
