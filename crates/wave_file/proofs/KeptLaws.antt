-- The first bodies of chunks, kept one chunk after another.
use Rattle.std.proofs.Common.{◌≡◌, ◌+◌, List, [], ◌∷◌, ◌++◌, drop, ℕ, true, false, Option, Some, None, Ok, Err, refl}
use Rattle.std.proofs.Common.{sym, ap, subst, ◌∙◌}
use Rattle.std.specs.Prelude.{find, bytes_eq, sum_by}
use Rattle.std.specs.Option.{option_or, option_map}
use Rattle.std.proofs.lemmas.List.{drop-drop}
use Rattle.std.proofs.lemmas.List.Folds.{find-append}
use Rattle.std.proofs.lemmas.List.Sums.{sum_by-cons}
use Rattle.riff_chunks.specs.declared.chunks.Truncated.{Truncated}
use Rattle.riff_chunks.specs.Walk.{Chunk, Item, walk}
use Rattle.riff_chunks.specs.Finding.{chunks_in, is_whole, first_body}
use Rattle.wave_file.specs.Wave.{FORMAT, DATA}
use Rattle.wave_file.specs.SampleWave.{SAMPLER, made}
use Rattle.wave_file.specs.Streams.{chunk_size, rest_of, wave_chunks}
use Rattle.wave_file.specs.Kept.{Bodies, bodies_in, or_else}

or_more : {X : Type 0} (a b c : Option X) → option_or (option_or a b) c ≡ option_or a (option_or b c)
or_more None b c = refl
or_more (Some x) b c = refl

or_none : {X : Type 0} (a : Option X) → option_or a None ≡ a
or_none None = refl
or_none (Some x) = refl

body_or : (a b : Option Chunk)
    → option_map (λ (c : Chunk). c.body) (option_or a b)
    ≡ option_or (option_map (λ (c : Chunk). c.body) a) (option_map (λ (c : Chunk). c.body) b)
body_or None b = refl
body_or (Some c) b = refl

pub first_body-append : (id : List ℕ) (xs ys : List Chunk)
    → first_body id (xs ++ ys) ≡ option_or (first_body id xs) (first_body id ys)
first_body-append id xs ys =
    ap (option_map (λ (c : Chunk). c.body)) (find-append (λ (c : Chunk). bytes_eq c.id id) xs ys)
    ∙ body_or (find (λ (c : Chunk). bytes_eq c.id id) xs) (find (λ (c : Chunk). bytes_eq c.id id) ys)

pub bodies-append : (xs ys : List Chunk) → bodies_in (xs ++ ys) ≡ or_else (bodies_in xs) (bodies_in ys)
bodies-append xs ys =
    let f = first_body-append FORMAT xs ys in
    let d = first_body-append DATA xs ys in
    let s = first_body-append SAMPLER xs ys in
    λ i. record { format = f i; frames = d i; sampler = s i }

or_else-more : (a b c : Bodies) → or_else (or_else a b) c ≡ or_else a (or_else b c)
or_else-more a b c =
    let f = or_more a.format b.format c.format in
    let d = or_more a.frames b.frames c.frames in
    let s = or_more a.sampler b.sampler c.sampler in
    λ i. record { format = f i; frames = d i; sampler = s i }

-- the bodies after the first of the remaining chunks
pub one_more : (old new : Bodies) (c : Chunk) (rest all : List Chunk)
    → or_else old (bodies_in (c ∷ rest)) ≡ bodies_in all → new ≡ or_else old (bodies_in (c ∷ []))
    → or_else new (bodies_in rest) ≡ bodies_in all
one_more old new c rest all held is =
    ap (λ (b : Bodies). or_else b (bodies_in rest)) is
    ∙ or_else-more old (bodies_in (c ∷ [])) (bodies_in rest)
    ∙ ap (or_else old) (sym (bodies-append (c ∷ []) rest))
    ∙ held

-- the bodies after all chunks
pub no_more : (found : Bodies) (all : List Chunk) → or_else found (bodies_in []) ≡ bodies_in all → found ≡ bodies_in all
no_more found all held =
    let f = sym (or_none found.format) in
    let d = sym (or_none found.frames) in
    let s = sym (or_none found.sampler) in
    let same : found ≡ or_else found (bodies_in []) = λ i. record { format = f i; frames = d i; sampler = s i } in
    same ∙ held

-- the bodies of a window that ends with data of unknown size
pub with_streamed : (found new : Bodies) (w rest body : List ℕ) → is_whole (walk w) ≡ false → rest ≡ rest_of w
    → body ≡ drop 8 rest → found ≡ bodies_in (chunks_in (walk w))
    → new ≡ or_else found (bodies_in (made DATA body ∷ [])) → new ≡ bodies_in (wave_chunks w)
unfolding wave_chunks
with_streamed found new w rest body cut left is before after =
    let chunks : List Chunk = chunks_in (walk w) in
    let last : body ≡ drop 8 (rest_of w) = is ∙ ap (drop 8) left in
    let all : wave_chunks w ≡ chunks ++ made DATA body ∷ [] =
    rw cut (ap (λ (b : List ℕ). chunks ++ made DATA b ∷ []) (sym last)) in
    after
    ∙ ap (λ (b : Bodies). or_else b (bodies_in (made DATA body ∷ []))) before
    ∙ sym (bodies-append chunks (made DATA body ∷ []))
    ∙ ap bodies_in (sym all)

-- ---- the walk of a window

-- These items remain, and these bodies and this rest were found before them.
pub record Walked (w : List ℕ) (items : List Item) (found : Bodies) (rest : List ℕ) : Type 0 where
  pub whole : is_whole items ≡ is_whole (walk w)
  pub bodies : or_else found (bodies_in (chunks_in items)) ≡ bodies_in (chunks_in (walk w))
  pub left : drop (sum_by chunk_size (chunks_in items)) rest ≡ rest_of w

pub walk_starts : (w : List ℕ) (items : List Item) (found : Bodies) → items ≡ walk w → found ≡ bodies_in []
    → Walked w items found w
unfolding rest_of
walk_starts w items found all none = record {
  whole = ap is_whole all;
  bodies = λ i. or_else (none i) (bodies_in (chunks_in (all i)));
  left = ap (λ (is : List Item). drop (sum_by chunk_size (chunks_in is)) w) all;
}

pub walk_goes_on : (w : List ℕ) (items next : List Item) (c : Chunk) (old new : Bodies) (rest left : List ℕ)
    → Walked w items old rest → items ≡ Ok c ∷ next → new ≡ or_else old (bodies_in (c ∷ []))
    → left ≡ drop (chunk_size c) rest → Walked w next new left
walk_goes_on w items next c old new rest left before e keeps passes =
    let now : Walked w (Ok c ∷ next) old rest = subst (λ (is : List Item). Walked w is old rest) e before in
    let sum : sum_by chunk_size (c ∷ chunks_in next) ≡ chunk_size c + sum_by chunk_size (chunks_in next) =
    sum_by-cons chunk_size c (chunks_in next) in
    record {
      whole = now.whole;
      bodies = one_more old new c (chunks_in next) (chunks_in (walk w)) now.bodies keeps;
      left =
          ap (drop (sum_by chunk_size (chunks_in next))) passes
          ∙ drop-drop (sum_by chunk_size (chunks_in next)) (chunk_size c) rest
          ∙ ap (λ (n : ℕ). drop n rest) (sym sum)
          ∙ now.left;
    }

-- a body does not fit
pub walk_is_cut : (w : List ℕ) (items next : List Item) (t : Truncated) (found : Bodies) (rest : List ℕ)
    → Walked w items found rest → items ≡ Err t ∷ next
    → (is_whole (walk w) ≡ false) × (rest ≡ rest_of w) × (found ≡ bodies_in (chunks_in (walk w)))
walk_is_cut w items next t found rest before e =
    let now : Walked w (Err t ∷ next) found rest = subst (λ (is : List Item). Walked w is found rest) e before in
    (sym now.whole, now.left, no_more found (chunks_in (walk w)) now.bodies)

-- all bodies fit
pub walk_ends : (w : List ℕ) (items : List Item) (found : Bodies) (rest : List ℕ) → Walked w items found rest
    → items ≡ [] → (is_whole (walk w) ≡ true) × (found ≡ bodies_in (wave_chunks w))
unfolding wave_chunks
walk_ends w items found rest before e =
    let now : Walked w [] found rest = subst (λ (is : List Item). Walked w is found rest) e before in
    let whole = sym now.whole in
    let all : wave_chunks w ≡ chunks_in (walk w) = rw whole refl in
    (whole, no_more found (chunks_in (walk w)) now.bodies ∙ ap bodies_in (sym all))
