-- A share in 1000ths by two products of 16 bits.
use Rattle.std.proofs.Common.{◌≡◌, ℕ, ◌+◌, ◌-◌, ◌*◌, ◌/◌, ◌%◌, ◌<◌, ◌≤◌, suc, ℤ, pos, negsuc, ◌+ℤ◌, ◌*ℤ◌, ◌≤ℤ◌}
use Rattle.std.proofs.Common.{SFits, to_z, of_z, ap, subst, sym, ◌∙◌, arith}
use Rattle.std.proofs.lemmas.Int.{ints}
use Rattle.std.proofs.lemmas.Nat.{div-add-mod', mod_below, mul-le}
use Rattle.std.specs.Int.{w16, w32}
use Rattle.std.specs.Int.Signed.{shr_z}
use Rattle.sound_envelopes.proofs.GainLaws.{product_within, shifted_down}
use Rattle.sound_tables.specs.Floor.{floor_div}
use Rattle.voices.specs.Panning.{side, fine_of}

-- a number, as its quotient rounded down and its remainder
record Split (z : ℤ) (n : ℕ) : Type 0 where
  rest : ℕ
  sum : floor_div z n *ℤ pos n +ℤ pos rest ≡ z
  small : rest < n

split : (z : ℤ) (n : ℕ) → 0 < n → Split z n
split (pos a) n h =
    let d : a / n * n + a % n ≡ a = div-add-mod' a n in
    record { rest = a % n; sum = omega (arith, ints, d); small = mod_below a n h }
split (negsuc a) n h =
    let d : a / n * n + a % n ≡ a = div-add-mod' a n in
    let b : a % n < n = mod_below a n h in
    record { rest = n - 1 - a % n; sum = omega (arith, ints, d, b); small = omega (arith, b) }

in_two : (z : ℤ) (f h l : ℕ) → f ≡ h * 16384 + l → (z *ℤ pos h) *ℤ pos 16384 +ℤ z *ℤ pos l ≡ z *ℤ pos f
in_two (pos a) f h l e = let g : a * f ≡ a * (h * 16384 + l) = ap (λ x. a * x) e in omega (arith, ints, g)
in_two (negsuc a) f h l e =
    let g : suc a * f ≡ suc a * (h * 16384 + l) = ap (λ x. suc a * x) e in omega (arith, ints, g)

in_thousandths : (z : ℤ) (f part r : ℕ) → f * 1000 ≡ part * 268435456 + r
    → (z *ℤ pos part) *ℤ pos 268435456 +ℤ z *ℤ pos r ≡ (z *ℤ pos f) *ℤ pos 1000
in_thousandths (pos a) f part r e =
    let g : a * (f * 1000) ≡ a * (part * 268435456 + r) = ap (λ x. a * x) e in omega (arith, ints, g)
in_thousandths (negsuc a) f part r e =
    let g : suc a * (f * 1000) ≡ suc a * (part * 268435456 + r) = ap (λ x. suc a * x) e in omega (arith, ints, g)

record Little (z : ℤ) : Type 0 where
  low : negsuc 32735231 ≤ℤ z
  high : z ≤ℤ pos 32735232

little : (z : ℤ) (r : ℕ) → r ≤ 999 → SFits w16 z → Little (z *ℤ pos r)
little (pos a) r h f =
    let m : a * r ≤ 32768 * 999 = mul-le a r 32768 999 (omega (arith, ints, f)) h in
    record { low = omega (arith, ints, m); high = omega (arith, ints, m) }
little (negsuc a) r h f =
    let m : suc a * r ≤ 32768 * 999 = mul-le (suc a) r 32768 999 (omega (arith, ints, f)) h in
    record { low = omega (arith, ints, m); high = omega (arith, ints, m) }

-- rounding the share up to 2^28ths does not change the rounded product
pub fine_side : (z : ℤ) (part h l : ℕ) → h * 16384 + l ≡ fine_of part → SFits w16 z
    → floor_div (z *ℤ pos h +ℤ floor_div (z *ℤ pos l +ℤ pos 32768) 16384) 16384 ≡ side z part
unfolding side
fine_side z part h l e fz =
    let f : ℕ = fine_of part in
    let r : ℕ = f * 1000 - part * 268435456 in
    let up : f * 1000 ≡ part * 268435456 + r = omega arith in
    let rest : r ≤ 999 = omega arith in
    let y : ℤ = floor_div (z *ℤ pos l +ℤ pos 32768) 16384 in
    let inner = split (z *ℤ pos l +ℤ pos 32768) 16384 (omega arith) in
    let outer = split (z *ℤ pos h +ℤ y) 16384 (omega arith) in
    let exact = split (z *ℤ pos part) 1000 (omega arith) in
    let two = in_two z f h l (let g : f ≡ h * 16384 + l = omega (arith, e) in g) in
    let thousand = in_thousandths z f part r up in
    let few = little z r rest fz in
    let a = inner.sum in
    let b = outer.sum in
    let c = exact.sum in
    let a' = inner.small in
    let b' = outer.small in
    let c' = exact.small in
    let low = few.low in
    let high = few.high in
    omega (arith, ints, two, thousand, a, b, c, a', b', c', low, high)

record Quarter (z : ℤ) : Type 0 where
  low : negsuc 65599 ≤ℤ z
  high : z ≤ℤ pos 65600

quarter : (z : ℤ) → negsuc 1074000000 ≤ℤ z → z ≤ℤ pos 1074000000 → Quarter (shr_z z 16384)
quarter (pos a) l h = record { low = omega (arith, ints); high = omega (arith, ints, h) }
quarter (negsuc a) l h = record { low = omega (arith, ints, l); high = omega (arith, ints) }

-- the sum of the products, as it is computed
pub record Computed (z h l frame high low : ℤ) : Type 0 where
  pub fits : SFits w32
      (to_z w32 (of_z w32 (to_z w32 (of_z w32 frame) *ℤ to_z w32 (of_z w32 high)))
      +ℤ to_z w32
      (of_z w32
      (shr_z
      (to_z w32
      (of_z w32
      (to_z w32 (of_z w32 (to_z w32 (of_z w32 frame) *ℤ to_z w32 (of_z w32 low)))
      +ℤ pos 32768)))
      16384)))
  pub value : to_z w32
      (of_z w32
      (shr_z
      (to_z w32
      (of_z w32
      (to_z w32 (of_z w32 (to_z w32 (of_z w32 frame) *ℤ to_z w32 (of_z w32 high)))
      +ℤ to_z w32
      (of_z w32
      (shr_z
      (to_z w32
      (of_z w32
      (to_z w32
      (of_z w32 (to_z w32 (of_z w32 frame) *ℤ to_z w32 (of_z w32 low)))
      +ℤ pos 32768)))
      16384)))))
      16384))
      ≡ shr_z (z *ℤ h +ℤ shr_z (z *ℤ l +ℤ pos 32768) 16384) 16384

pub computed : (z h l frame high low : ℤ) → SFits w16 z → SFits w16 h → SFits w16 l → frame ≡ z → high ≡ h → low ≡ l
    → Computed z h l frame high low
computed z h l frame high low fz fh fl ez eh el =
    let one = product_within z l fz fl in
    let two = product_within z h fz fh in
    let ol = one.low in
    let oh = one.high in
    let tl = two.low in
    let th = two.high in
    let y : ℤ = shr_z (z *ℤ l +ℤ pos 32768) 16384 in
    let inner = quarter (z *ℤ l +ℤ pos 32768) (omega (arith, ints, ol)) (omega (arith, ints, oh)) in
    let il = inner.low in
    let ih = inner.high in
    let outer = quarter (z *ℤ h +ℤ y) (omega (arith, ints, tl, il)) (omega (arith, ints, th, ih)) in
    let xl = outer.low in
    let xh = outer.high in
    let a : to_z w32 (of_z w32 frame) ≡ z = omega (arith, ints, ez, fz) in
    let b : to_z w32 (of_z w32 high) ≡ h = omega (arith, ints, eh, fh) in
    let c : to_z w32 (of_z w32 low) ≡ l = omega (arith, ints, el, fl) in
    let p : to_z w32 (of_z w32 (z *ℤ l)) ≡ z *ℤ l = omega (arith, ints, ol, oh) in
    let q : to_z w32 (of_z w32 (z *ℤ h)) ≡ z *ℤ h = omega (arith, ints, tl, th) in
    let r : to_z w32 (of_z w32 (z *ℤ l +ℤ pos 32768)) ≡ z *ℤ l +ℤ pos 32768 = omega (arith, ints, ol, oh) in
    let s : to_z w32 (of_z w32 y) ≡ y = omega (arith, ints, il, ih) in
    let t : to_z w32 (of_z w32 (z *ℤ h +ℤ y)) ≡ z *ℤ h +ℤ y = omega (arith, ints, tl, th, il, ih) in
    let u : to_z w32 (of_z w32 (shr_z (z *ℤ h +ℤ y) 16384)) ≡ shr_z (z *ℤ h +ℤ y) 16384 = omega (arith, ints, xl, xh) in
    let first : to_z w32
    (of_z w32 (to_z w32 (of_z w32 (to_z w32 (of_z w32 frame) *ℤ to_z w32 (of_z w32 low))) +ℤ pos 32768))
    ≡ z *ℤ l +ℤ pos 32768 =
    (λ i. to_z w32 (of_z w32 (to_z w32 (of_z w32 (a i *ℤ c i)) +ℤ pos 32768)))
    ∙ ap (λ (v : ℤ). to_z w32 (of_z w32 (v +ℤ pos 32768))) p ∙ r in
    let second : to_z w32
    (of_z w32
    (shr_z
    (to_z w32
    (of_z w32
    (to_z w32 (of_z w32 (to_z w32 (of_z w32 frame) *ℤ to_z w32 (of_z w32 low))) +ℤ pos 32768)))
    16384))
    ≡ y =
    ap (λ (v : ℤ). to_z w32 (of_z w32 (shr_z v 16384))) first ∙ s in
    let third : to_z w32 (of_z w32 (to_z w32 (of_z w32 frame) *ℤ to_z w32 (of_z w32 high))) ≡ z *ℤ h =
    (λ i. to_z w32 (of_z w32 (a i *ℤ b i))) ∙ q in
    let sum : to_z w32 (of_z w32 (to_z w32 (of_z w32 frame) *ℤ to_z w32 (of_z w32 high)))
    +ℤ to_z w32
    (of_z w32
    (shr_z
    (to_z w32
    (of_z w32
    (to_z w32 (of_z w32 (to_z w32 (of_z w32 frame) *ℤ to_z w32 (of_z w32 low))) +ℤ pos 32768)))
    16384))
    ≡ z *ℤ h +ℤ y =
    λ i. third i +ℤ second i in
    let room : SFits w32 (z *ℤ h +ℤ y) = omega (arith, ints, tl, th, il, ih) in
    record {
      fits = subst (λ (v : ℤ). SFits w32 v) (sym sum) room;
      value =
          ap (λ (v : ℤ). to_z w32 (of_z w32 (shr_z (to_z w32 (of_z w32 v)) 16384))) sum
          ∙ ap (λ (v : ℤ). to_z w32 (of_z w32 (shr_z v 16384))) t ∙ u;
    }

-- the computed share is `side`
pub fine_is : (z h l : ℤ) (part : ℕ) → part ≤ 1000 → SFits w16 z → h ≡ pos (fine_of part / 16384)
    → l ≡ pos (fine_of part % 16384)
    → shr_z (z *ℤ h +ℤ shr_z (z *ℤ l +ℤ pos 32768) 16384) 16384 ≡ side z part
fine_is z h l part most fz eh el =
    let m : ℕ = fine_of part / 16384 in
    let n : ℕ = fine_of part % 16384 in
    ap (λ (v : ℤ). shr_z (z *ℤ v +ℤ shr_z (z *ℤ l +ℤ pos 32768) 16384) 16384) eh
    ∙ ap (λ (v : ℤ). shr_z (z *ℤ pos m +ℤ shr_z (z *ℤ v +ℤ pos 32768) 16384) 16384) el
    ∙ ap (λ (v : ℤ). shr_z (z *ℤ pos m +ℤ v) 16384) (shifted_down (z *ℤ pos n +ℤ pos 32768) 16384)
    ∙ shifted_down (z *ℤ pos m +ℤ floor_div (z *ℤ pos n +ℤ pos 32768) 16384) 16384
    ∙ fine_side z part m n (omega arith) fz
