-- How many frames notes need.
use Rattle.std.proofs.Common.{◌≡◌, ℕ, ℤ, ◌+◌, ◌*◌, ◌/◌, ◌<◌, ◌≤◌, max, Bool, true, false, cond, nat_le, List, []}
use Rattle.std.proofs.Common.{◌∷◌, ◌++◌, take, length, get_or, refl, ap, ◌∙◌, arith}
use Rattle.std.proofs.lemmas.Grind.{common_steps}
use Rattle.std.proofs.lemmas.List.{take_more}
use Rattle.std.proofs.lemmas.List.FromFn.{length-map-range_with_len}
use Rattle.script_notes.specs.Notes.{Numbers}
use Rattle.bank_parts.specs.declared.parts.Parts.{Parts}
use Rattle.mixer.specs.Render.{end_of, frame_count, rendered_side, render, IsRendered}
use Rattle.mixer.specs.Order.{placed, in_order, StartWithin}

frame_count-push : (b : Parts) (ns : List Numbers) (n : Numbers)
    → frame_count b (ns ++ n ∷ []) ≡ max (end_of b n) (frame_count b ns)
unfolding frame_count
frame_count-push b [] n = refl
frame_count-push b (m ∷ ns) n =
    ap (λ k. max (end_of b m) k) (frame_count-push b ns n)
    ∙
    (let e : max (end_of b m) (max (end_of b n) (frame_count b ns))
    ≡ max (end_of b n) (max (end_of b m) (frame_count b ns)) =
    omega arith in e)

pub count_more : (b : Parts) (ns : List Numbers) (i : ℕ) (d : Numbers) → i < length ns
    → frame_count b (take (i + 1) ns) ≡ max (end_of b (get_or ns i d)) (frame_count b (take i ns))
count_more b ns i d h = ap (frame_count b) (take_more ns i d h) ∙ frame_count-push b (take i ns) (get_or ns i d)

pub count_none : (b : Parts) → 0 ≡ frame_count b []
unfolding frame_count
count_none b = refl

later_end : (m k : ℕ) (ns : List Numbers) → m ≤ k → StartWithin m ns → StartWithin k ns
later_end m k [] h w = tt
later_end m k (n ∷ ns) h w = (omega (arith, h, w.0), later_end m k ns h w.1)

within-placed : (m : ℕ) (n : Numbers) (ms : List Numbers) → n.start ≤ m → StartWithin m ms → StartWithin m (placed n ms)
unfolding placed
within-placed m n [] h w = (h, tt)
within-placed m n (k ∷ ms) h w =
    let P : Bool → Type 0 = λ b. StartWithin m (cond b (n ∷ k ∷ ms) (k ∷ placed n ms)) in
    let at : (b : Bool) → P b = elim [ true ↦ (h, (w.0, w.1)) | false ↦ (w.0, within-placed m n ms h w.1) ] in
    at (nat_le n.start k.start)

starts_before_end : (b : Parts) (n : Numbers) → n.start ≤ end_of b n
unfolding end_of
starts_before_end b n = omega arith

pub within-count : (b : Parts) (ns : List Numbers) → StartWithin (frame_count b ns) (in_order ns)
unfolding frame_count in_order
within-count b [] = tt
within-count b (n ∷ ns) =
    let own : n.start ≤ end_of b n = starts_before_end b n in
    within-placed (max (end_of b n) (frame_count b ns)) n (in_order ns) (omega (arith, own))
    (later_end (frame_count b ns) (max (end_of b n) (frame_count b ns)) (in_order ns) (omega arith) (within-count b ns))

pub half_of : (m : ℕ) → 2 * m / 2 ≡ m
half_of m = omega arith

pub take_prefix : (k : ℕ) (xs ys : List ℤ) → length xs ≡ k → take k (xs ++ ys) ≡ xs
take_prefix k xs ys e = grind (arith, common_steps)

-- whole frames, as many as are counted
pub rendered_fits : (b : Parts) (ns : List Numbers) (sides : List ℤ) → sides ≡ render b ns
    → frame_count b ns ≤ 104480284 → IsRendered sides
unfolding render
rendered_fits b ns sides e h =
    let long : length sides ≡ 2 * frame_count b ns =
    ap length e ∙ length-map-range_with_len (rendered_side b ns) 0 (2 * frame_count b ns) in
    record { whole = omega (arith, long); bound = omega (arith, long, h) }
