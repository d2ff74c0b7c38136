-- The first chunks that are kept of a window.
use Rattle.std.proofs.Common.{◌≡◌, ◌<◌, ◌≢◌, ℕ, true, false, List, [], ◌∷◌, length, get_or, set, Option, Some, None}
use Rattle.std.proofs.Common.{refl, sym, ap, ◌∙◌, inl, inr, arith}
use Rattle.std.specs.Borrow.{Bor}
use Rattle.std.specs.Option.{is_some, option_copied, option_or}
use Rattle.std.specs.Str.{bytes_eq}
use Rattle.std.proofs.lemmas.Bool.{cases_eq, cases_Bool, false_from_ne_true}
use Rattle.std.proofs.lemmas.List.{get_or-set_same, get_or-set_other}
use Rattle.std.proofs.lemmas.List.Quantifiers.{position-Some}
use Rattle.std.proofs.lemmas.Slice.Eq.{bytes_eq-Decides}
use Rattle.riff_chunks.specs.Walk.{Chunk}
use Rattle.riff_chunks.specs.Finding.{first_body}
use Rattle.riff_chunks.specs.First.{index_of, KeptBodies, kept_at, AreFirst, AreFirstSoFar, KeepsFirst}

-- The id at the index of an id is that id.
at_index : (ids : List (List ℕ)) (id : List ℕ) (id_index : ℕ) → index_of id ids ≡ Some id_index
    → get_or ids id_index [] ≡ id
at_index ids id id_index h =
    (bytes_eq-Decides (get_or ids id_index []) id).0
    ((position-Some (λ (other : List ℕ). bytes_eq other id) ids id_index [] h).1)

-- A single chunk.
alone : (id : List ℕ) (c : Chunk) → c.id ≡ id → first_body id (c ∷ []) ≡ Some c.body
alone id c e = let same : bytes_eq c.id id ≡ true = (bytes_eq-Decides c.id id).1 e in rw same refl

not_alone : (id : List ℕ) (c : Chunk) → c.id ≢ id → first_body id (c ∷ []) ≡ None
not_alone id c other =
    let differs : bytes_eq c.id id ≡ false =
    false_from_ne_true (bytes_eq c.id id) (λ e. other ((bytes_eq-Decides c.id id).0 e)) in
    rw differs refl

or_none : {X : Type 0} (o : Option X) → o ≡ option_or o None
or_none None = refl
or_none (Some x) = refl

pub none_there : {X : Type 0} (o : Option X) → is_some o ≡ false → o ≡ None
none_there None h = refl
none_there (Some x) h = absurd cc

-- The first chunk of an id is kept at the index of the id.
pub put_first : (ids : List (List ℕ)) (bodies : KeptBodies) (id : List ℕ) (id_index : ℕ) (body : Bor (List ℕ))
    → index_of id ids ≡ Some id_index → length bodies ≡ 9 → id_index < 9 → get_or bodies id_index None ≡ None
    → KeepsFirst ids bodies (set bodies id_index (Some body)) (record { id = id; body = body.now })
put_first ids bodies id id_index body here long lt none other at h within =
    elim (cases_eq at id_index) [
      | inl same ↦ (let now : get_or (set bodies id_index (Some body)) at None
          ≡ Some body = rw same (get_or-set_same bodies id_index (Some body) None (omega (arith, long, lt))) in
          let before : get_or bodies at None ≡ None = rw same none in
          let is : id ≡ other =
          sym (at_index ids id id_index here) ∙ ap (λ (k : ℕ). get_or ids k []) (sym same)
          ∙ at_index ids other at h in
          ap option_copied now ∙ sym (rw before (alone other (record { id = id; body = body.now }) is)))
      | inr apart ↦ (let now : get_or (set bodies id_index (Some body)) at None
          ≡ get_or bodies at None = get_or-set_other bodies id_index at (Some body) None apart in
          let differs : id ≢ other = (λ e. apart (cc_place ids id other id_index at e here h)) in
          ap option_copied now ∙ or_none (kept_at bodies at) ∙ sym
          (ap (option_or (kept_at bodies at)) (not_alone other (record { id = id; body = body.now }) differs)))
    ]
  where
    cc_place : (ids : List (List ℕ)) (id other : List ℕ) (id_index at : ℕ) → id ≡ other
        → index_of id ids ≡ Some id_index
        → index_of other ids ≡ Some at → at ≡ id_index
    cc_place ids id other id_index at e h k =
        let both : index_of id ids ≡ index_of other ids = ap (λ (i : List ℕ). index_of i ids) e in cc

-- ---- one chunk after another

or_more : {X : Type 0} (a b c : Option X) → option_or (option_or a b) c ≡ option_or a (option_or b c)
or_more None b c = refl
or_more (Some x) b c = refl

first_or_later : (id : List ℕ) (c : Chunk) (cs : List Chunk)
    → first_body id (c ∷ cs) ≡ option_or (first_body id (c ∷ [])) (first_body id cs)
first_or_later id c cs = elim (cases_Bool (bytes_eq c.id id)) [
  | inl same ↦ rw same refl
  | inr other ↦ rw other refl
]

pub first_more : (ids : List (List ℕ)) (old new : KeptBodies) (c : Chunk) (rest all : List Chunk)
    → AreFirstSoFar ids old (c ∷ rest) all → KeepsFirst ids old new c → AreFirstSoFar ids new rest all
first_more ids old new c rest all held first_is id id_index h lt =
    ap (λ (o : Option (List ℕ)). option_or o (first_body id rest)) (first_is id id_index h lt)
    ∙ or_more (kept_at old id_index) (first_body id (c ∷ [])) (first_body id rest)
    ∙ ap (option_or (kept_at old id_index)) (sym (first_or_later id c rest))
    ∙ held id id_index h lt

-- At the end of the walk.
pub first_all : (ids : List (List ℕ)) (bodies : KeptBodies) (all : List Chunk) → AreFirstSoFar ids bodies [] all
    → AreFirst ids bodies all
first_all ids bodies all held id id_index h within = or_none (kept_at bodies id_index) ∙ held id id_index h within
