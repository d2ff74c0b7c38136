-- Where the body of the first `data` chunk is, chunk after chunk.
use Rattle.std.proofs.Common.{◌≡◌, ◌≤◌, ◌+◌, ◌-◌, ◌%◌, ℕ, List, [], ◌∷◌, length, take, drop, true, false}
use Rattle.std.proofs.Common.{Some, Ok, refl, sym, ap, subst, ◌∙◌, inl, inr, arith, length-take}
use Rattle.std.specs.Prelude.{bytes_eq}
use Rattle.std.specs.Option.{option_or}
use Rattle.std.proofs.lemmas.Bool.{cases_lt, cases_Bool}
use Rattle.std.proofs.lemmas.List.{length-drop, drop-drop, drop_all, take_all}
use Rattle.riff_chunks.specs.Walk.{Chunk, Item, size_at, chunk_at, after, BodyFits, Walks, walk}
use Rattle.riff_chunks.specs.Finding.{chunks_in, is_whole, first_body}
use Rattle.wave_file.specs.Wave.{DATA}
use Rattle.wave_file.specs.SampleWave.{made}
use Rattle.wave_file.specs.Streams.{chunk_size, rest_of, wave_chunks}
use Rattle.wave_file.specs.InPlace.{IsData}
use Rattle.wave_file.proofs.KeptLaws.{first_body-append}

-- ---- one chunk

-- the bytes after a chunk, by its body, which is one byte short if a list ends one byte past the window
after_body : (w : List ℕ) → BodyFits w → drop (chunk_size (chunk_at w)) w ≡ after w
after_body w (inl fits) =
    let size : length (take (size_at w) (drop 8 w)) ≡ size_at w =
    omega (arith, length-take (size_at w) (drop 8 w), length-drop 8 w, fits) in
    ap (λ (n : ℕ). drop (8 + n + n % 2) w) size
after_body w (inr list) =
    let past = list.1 in
    let size = length (take (size_at w) (drop 8 w)) in
    let short : length w ≤ 8 + size + size % 2 =
    omega (arith, length-take (size_at w) (drop 8 w), length-drop 8 w, past) in
    drop_all (8 + size + size % 2) w short
    ∙ sym (drop_all (8 + size_at w + size_at w % 2) w (omega (arith, past)))

-- the bytes of the body
body_at : (w : List ℕ) → take (length (chunk_at w).body) (drop 8 w) ≡ (chunk_at w).body
body_at w = elim (cases_lt (length (drop 8 w)) (size_at w)) [
  | inl short ↦ (
      let all : take (size_at w) (drop 8 w) ≡ drop 8 w = take_all (size_at w) (drop 8 w) (omega (arith, short)) in
      take_all (length (take (size_at w) (drop 8 w))) (drop 8 w) (omega (arith, ap length all)) ∙ sym all)
  | inr fits ↦
      ap (λ (n : ℕ). take n (drop 8 w)) (omega (arith, length-take (size_at w) (drop 8 w), fits))
]

-- a part of a window from its end is also that after more bytes
suffix : (w rest : List ℕ) (n : ℕ) → length rest ≤ length w → rest ≡ drop (length w - length rest) w
    → drop n rest ≡ drop (length w - length (drop n rest)) w
suffix w rest n fewer is =
    let count = length-drop n rest in
    let from = length w - length rest in
    elim (cases_lt (length rest) n) [
      | inl past ↦ (
          drop_all n rest (omega (arith, past))
          ∙ sym (drop_all (length w - length (drop n rest)) w (omega (arith, count, past))))
      | inr within ↦ (
          let sum : from + n ≡ length w - length (drop n rest) = omega (arith, count, within, fewer) in
          ap (drop n) is ∙ drop-drop n from w ∙ ap (λ (m : ℕ). drop m w) sum)
    ]

-- ---- the walk of a window

-- The rest of a window has these items. The first `data` chunk of the window is the first of theirs.
pub record Reached (w rest : List ℕ) (items : List Item) : Type 0 where
  pub fewer : length rest ≤ length w
  pub suffix : rest ≡ drop (length w - length rest) w
  pub walks : Walks rest items
  pub found : first_body DATA (chunks_in items) ≡ first_body DATA (chunks_in (walk w))

pub starts : (w : List ℕ) (items : List Item) → Walks w items → items ≡ walk w → Reached w w items
starts w items walks all = record {
  fewer = omega arith;
  suffix = ap (λ (n : ℕ). drop n w) {x = 0} {y = length w - length w} (omega arith);
  walks = walks;
  found = ap (λ (is : List Item). first_body DATA (chunks_in is)) all;
}

pub goes_on : (w rest left : List ℕ) (items next : List Item) (c : Chunk) → Reached w rest items
    → items ≡ Ok c ∷ next → bytes_eq c.id DATA ≡ false → left ≡ drop (chunk_size c) rest → Reached w left next
goes_on w rest left items next c before e other passes =
    let now = subst (Reached w rest) e before in
    let chunk = now.walks.2 in
    let count = length-drop (chunk_size c) rest in
    subst (λ (bytes : List ℕ). Reached w bytes next) (sym passes) (record {
      fewer = let fewer = now.fewer in omega (arith, count, fewer);
      suffix = suffix w rest (chunk_size c) now.fewer now.suffix;
      walks =
          subst (λ (bytes : List ℕ). Walks bytes next)
          (sym (ap (λ (d : Chunk). drop (chunk_size d) rest) chunk ∙ after_body rest now.walks.1)) now.walks.3;
      found = rw other at now.found;
    })

-- the body of a window without data of unknown size
in_window : (w body : List ℕ) → first_body DATA (chunks_in (walk w)) ≡ Some body
    → first_body DATA (wave_chunks w) ≡ Some body
unfolding wave_chunks
in_window w body is = elim (cases_Bool (is_whole (walk w))) [
  | inl whole ↦ rw whole is
  | inr cut ↦ rw cut (
      first_body-append DATA (chunks_in (walk w)) (made DATA (drop 8 (rest_of w)) ∷ [])
      ∙ ap (λ o. option_or o (first_body DATA (made DATA (drop 8 (rest_of w)) ∷ []))) is)
]

pub is_reached : (w rest : List ℕ) (items next : List Item) (c : Chunk) → Reached w rest items → items ≡ Ok c ∷ next
    → bytes_eq c.id DATA ≡ true
    → IsData (record { position = length w - length rest + 8; size = length c.body }) w
is_reached w rest items next c before e same =
    let now = subst (Reached w rest) e before in
    let long = now.walks.0 in
    let fewer = now.fewer in
    let body : c.body ≡ (chunk_at rest).body = ap (λ (d : Chunk). d.body) now.walks.2 in
    let first : first_body DATA (chunks_in (Ok c ∷ next)) ≡ Some c.body = rw same refl in
    let place : drop 8 rest ≡ drop (length w - length rest + 8) w =
    ap (drop 8) now.suffix ∙ drop-drop 8 (length w - length rest) w in
    record {
      header = omega arith;
      within =
          omega (
            arith,
            ap length body,
            length-take (size_at rest) (drop 8 rest),
            length-drop 8 rest,
            long,
            fewer,
          );
      body =
          in_window w (take (length c.body) (drop (length w - length rest + 8) w))
          (sym now.found
          ∙ first
          ∙ ap (λ (b : List ℕ). Some b)
          (body ∙ sym (body_at rest) ∙ (λ i. take (length (sym body i)) (place i))));
    }
