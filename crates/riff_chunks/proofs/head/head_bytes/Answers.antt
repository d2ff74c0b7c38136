use Rattle.std.proofs.Common.{◌≡◌, ℕ, List, [], ◌∷◌, ◌++◌, length, take, drop, refl, ap, ◌∙◌}
use Rattle.std.proofs.lemmas.List.{take_at, drop_at}
use borrow.Rule.Slice.PartMut.{put_mid}
use Rattle.byteorder.specs.Endian.{little_bytes}
use Rattle.riff_chunks.specs.Encoding.{chunk_head}
use Rattle.riff_chunks.proofs.head.head_bytes.Goals as goal

abbrev zeros : List ℕ
zeros = 0 ∷ 0 ∷ 0 ∷ 0 ∷ []

-- Eight bytes: a copied id of four, and a number in four.
head_made : (copied written id : List ℕ) (size : ℕ) → length copied ≡ 4 → copied ≡ id
    → written ≡ little_bytes 4 size ++ drop 4 (take 4 (drop 4 (copied ++ zeros)))
    → put_mid 4 4 (copied ++ zeros) written ≡ chunk_head id size
unfolding chunk_head
head_made copied written id size len same e =
    let front = take_at copied zeros 4 len in
    let rest = drop_at copied zeros 4 len in
    let number : written ≡ little_bytes 4 size =
    e ∙ ap (λ (zs : List ℕ). little_bytes 4 size ++ drop 4 (take 4 zs)) rest in
    rw (front, rest, number, same) refl

pub returns : goal.returns
returns c = head_made _ _ _ _ c.copy_from_slice.ensures.len c.copy_from_slice.ensures.after c.write_u32.ensures
