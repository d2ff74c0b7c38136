-- Bags that exchange their order, and their records.
use Rattle.std.proofs.Common.{◌≡◌, ℕ, ◌<◌, ◌≤◌, ◌+◌, ◌-◌, ◌^◌, suc, List, [], ◌∷◌, ◌++◌, length, map, All, refl, sym}
use Rattle.std.proofs.Common.{subst, ◌∙◌, ap, take, drop, get_or, append_assoc, length-append, zero-add, arith}
use Rattle.std.specs.List.{flat_map}
use Rattle.std.proofs.lemmas.List.{get_or_default}
use Rattle.std.proofs.lemmas.List.Concat.{flat_map-append}
use Rattle.modulators.specs.declared.modulator.Modulator.{Modulator}
use Rattle.flat_records.specs.Runs.{starts, exchanged, changed_exchanged, AreAdjacentRanges}
use Rattle.flat_records.specs.Bags.{Bag, past_bag, gens_in, mods_in, no_modulator, Tables, tables_of}
use Rattle.flat_records.specs.Raised.{raised, lowered, CanRaise, CanLower}
use Rattle.flat_records.proofs.Starts.{end, length-starts, starts-exchanged, All-begins, All-begins_back}
use Rattle.flat_records.proofs.FourRuns.{four_runs}
use Rattle.flat_records.proofs.Exchanges.{quarters, exchanged-parts}
use Rattle.flat_records.proofs.TableLaws.{AreOf, gens-end, mods-end, bags_size, more, undone}

-- Lists of four runs of bags.
module _ {X : Type 0} (part : Bag → List X) where
  pub flat-parts : (ws xs ys zs : List Bag) (rest : List X)
      → flat_map part (ws ++ (xs ++ (ys ++ zs))) ++ rest
      ≡ flat_map part ws ++ (flat_map part xs ++ (flat_map part ys ++ (flat_map part zs ++ rest)))
  flat-parts ws xs ys zs rest =
      ap (λ ms. ms ++ rest) (flat_map-append part ws (xs ++ (ys ++ zs)))
      ∙ (append_assoc (flat_map part ws) (flat_map part (xs ++ (ys ++ zs))) rest
      ∙ ap (λ ms. flat_map part ws ++ ms)
      (ap (λ ms. ms ++ rest) (flat_map-append part xs (ys ++ zs))
      ∙ (append_assoc (flat_map part xs) (flat_map part (ys ++ zs)) rest
      ∙ ap (λ ms. flat_map part xs ++ ms)
      (ap (λ ms. ms ++ rest) (flat_map-append part ys zs) ∙ append_assoc (flat_map part ys) (flat_map part zs) rest))))

  pub flat-exchanged : (ws xs ys zs : List Bag) (rest : List X) (i j k : ℕ)
      → i ≡ length (flat_map part ws) → j ≡ i + length (flat_map part xs) → k ≡ j + length (flat_map part ys)
      → exchanged (flat_map part (ws ++ (xs ++ (ys ++ zs))) ++ rest) i j k
      ≡ flat_map part (ws ++ (ys ++ (xs ++ zs))) ++ rest
  flat-exchanged ws xs ys zs rest i j k e f g =
      ap (λ ms. exchanged ms i j k) (flat-parts ws xs ys zs rest)
      ∙ (exchanged-parts (flat_map part ws) (flat_map part xs) (flat_map part ys) (flat_map part zs ++ rest) i j k e
      (omega arith) (omega arith)
      ∙ sym (flat-parts ws ys xs zs rest))

-- The indexes after the records of these bags.
abbrev total : List Bag → ℕ × ℕ
total bags = (length (gens_in bags), length (mods_in bags))

past_all : (at : ℕ × ℕ) (bags : List Bag) → end past_bag at bags ≡ raised (total bags) at
past_all at bags = λ i. (gens-end at bags i, mods-end at bags i)

-- The bags a..b, which begin at `start`, and the bags b..c, which begin at `middle`.
pub record BagRotation (t : Tables) (bags : List Bag) (a b c : ℕ) (start middle stop : ℕ × ℕ) : Type 0 where
  pub last : c < length t.bags
  pub gens_rise : (start.0 ≤ middle.0) × (middle.0 ≤ stop.0)
  pub mods_rise : (start.1 ≤ middle.1) × (middle.1 ≤ stop.1)
  pub windows : AreAdjacentRanges a b c (length t.bags)
  pub gens : AreAdjacentRanges start.0 middle.0 stop.0 (length t.gens)
  pub mods : AreAdjacentRanges start.1 middle.1 stop.1 (length t.mods)
  pub lower : All (CanLower (middle.0 - start.0, middle.1 - start.1)) (drop b (take c t.bags))
  pub raise : stop.0 < 2 ^ 16 → stop.1 < 2 ^ 16
      → All (CanRaise (stop.0 - middle.0, stop.1 - middle.1)) (drop a (take b t.bags))
  pub turned :
      record {
        bags =
            changed_exchanged a b c (lowered (middle.0 - start.0, middle.1 - start.1))
            (raised (stop.0 - middle.0, stop.1 - middle.1)) t.bags;
        gens = exchanged t.gens start.0 middle.0 stop.0;
        mods = exchanged t.mods start.1 middle.1 stop.1;
      } ≡ tables_of (exchanged bags a b c)

-- The same in terms of the four runs.
record Facts (t : Tables) (ws xs ys zs : List Bag) (a b c : ℕ) : Type 0 where
  pub same : t ≡ tables_of (ws ++ (xs ++ (ys ++ zs)))
  pub first : a ≡ length ws
  pub second : b ≡ length ws + length xs
  pub third : c ≡ length ws + (length xs + length ys)

swap : (x y at : ℕ × ℕ) → raised x (raised y at) ≡ raised y (raised x at)
swap x y at =
    let gens : (at.0 + y.0) + x.0 ≡ (at.0 + x.0) + y.0 = omega arith in
    let mods : (at.1 + y.1) + x.1 ≡ (at.1 + x.1) + y.1 = omega arith in
    λ i. (gens i, mods i)

turn_of : (t : Tables) (bags ws xs ys zs : List Bag) (a b c : ℕ) → Facts t ws xs ys zs a b c
    → exchanged bags a b c ≡ ws ++ (ys ++ (xs ++ zs))
    → (start middle stop : ℕ × ℕ) → start ≡ get_or t.bags a (0, 0) → middle ≡ get_or t.bags b (0, 0)
    → stop ≡ get_or t.bags c (0, 0)
    → BagRotation t bags a b c start middle stop
turn_of t bags ws xs ys zs a b c f whole start middle stop e1 e2 e3 =
    let r =
    four_runs past_bag (0, 0) (0, 0) ws xs ys zs (ap (λ (t : Tables). t.bags) f.same) f.first f.second f.third in
    let i = r.runs in
    let w1 = end past_bag (0, 0) ws in
    let w2 = end past_bag w1 xs in
    let n1 : start ≡ w1 = e1 ∙ r.first in
    let n2 : middle ≡ w2 = e2 ∙ r.second in
    let n3 : stop ≡ end past_bag w2 ys = e3 ∙ r.third in
    let g1 : start.0 ≡ length (gens_in ws) =
    ap (λ (m : ℕ × ℕ). m.0) n1 ∙ (gens-end (0, 0) ws ∙ zero-add (length (gens_in ws))) in
    let d1 : start.1 ≡ length (mods_in ws) =
    ap (λ (m : ℕ × ℕ). m.1) n1 ∙ (mods-end (0, 0) ws ∙ zero-add (length (mods_in ws))) in
    let g2 : middle.0 ≡ start.0 + length (gens_in xs) =
    ap (λ (m : ℕ × ℕ). m.0) n2 ∙ (gens-end w1 xs ∙ ap (λ (m : ℕ × ℕ). m.0 + length (gens_in xs)) (sym n1)) in
    let d2 : middle.1 ≡ start.1 + length (mods_in xs) =
    ap (λ (m : ℕ × ℕ). m.1) n2 ∙ (mods-end w1 xs ∙ ap (λ (m : ℕ × ℕ). m.1 + length (mods_in xs)) (sym n1)) in
    let g3 : stop.0 ≡ middle.0 + length (gens_in ys) =
    ap (λ (m : ℕ × ℕ). m.0) n3 ∙ (gens-end w2 ys ∙ ap (λ (m : ℕ × ℕ). m.0 + length (gens_in ys)) (sym n2)) in
    let d3 : stop.1 ≡ middle.1 + length (mods_in ys) =
    ap (λ (m : ℕ × ℕ). m.1) n3 ∙ (mods-end w2 ys ∙ ap (λ (m : ℕ × ℕ). m.1 + length (mods_in ys)) (sym n2)) in
    let down : (middle.0 - start.0, middle.1 - start.1) ≡ total xs =
    (let x : middle.0 - start.0 ≡ length (gens_in xs) =
    omega arith in let y : middle.1 - start.1 ≡ length (mods_in xs) = omega arith in λ i. (x i, y i))
    in
    let up : (stop.0 - middle.0, stop.1 - middle.1) ≡ total ys =
    (let x : stop.0 - middle.0 ≡ length (gens_in ys) =
    omega arith in let y : stop.1 - middle.1 ≡ length (mods_in ys) = omega arith in λ i. (x i, y i))
    in
    let size : length t.bags ≡ suc (length (ws ++ (xs ++ (ys ++ zs)))) =
    ap (λ (t : Tables). length t.bags) f.same ∙ length-starts past_bag (0, 0) (ws ++ (xs ++ (ys ++ zs))) in
    let sizes : length (ws ++ (xs ++ (ys ++ zs))) ≡ length ws + (length xs + (length ys + length zs)) =
    simp length-append refl in
    let gens_size : length t.gens
    ≡ length (gens_in ws) + (length (gens_in xs) + (length (gens_in ys) + (length (gens_in zs) + 1))) =
    ap (λ (t : Tables). length t.gens) f.same
    ∙ (ap length (flat-parts (λ (b : Bag). b.gens) ws xs ys zs ((0, 0) ∷ [])) ∙ simp length-append refl) in
    let mods_size : length t.mods
    ≡ length (mods_in ws) + (length (mods_in xs) + (length (mods_in ys) + (length (mods_in zs) + 1))) =
    ap (λ (t : Tables). length t.mods) f.same
    ∙ (ap length (flat-parts (λ (b : Bag). b.mods) ws xs ys zs (no_modulator ∷ [])) ∙ simp length-append refl) in
    let f1 = f.first in
    let f2 = f.second in
    let f3 = f.third in
    let v2 = ap (λ (m : ℕ × ℕ). m.0) n2 in
    let u2 = ap (λ (m : ℕ × ℕ). m.1) n2 in
    let low : CanLower (total xs) w2 = record { gens = omega arith; mods = omega arith } in
    let index : changed_exchanged a b c (lowered (middle.0 - start.0, middle.1 - start.1))
    (raised (stop.0 - middle.0, stop.1 - middle.1)) t.bags
    ≡ starts past_bag (0, 0) (ws ++ (ys ++ (xs ++ zs))) =
    (λ k. i.first k ++ (map (lowered (down k)) (i.third k) ++ (map (raised (up k)) (i.second k) ++ i.last k)))
    ∙ starts-exchanged past_bag (raised (total xs)) (lowered (total xs)) (raised (total ys)) (more (total xs))
    (more (total ys)) (undone (total xs)) (swap (total xs) (total ys)) (0, 0) ws xs ys zs (past_all w1 xs)
    (past_all w1 ys) in
    let gens : exchanged t.gens start.0 middle.0 stop.0 ≡ gens_in (ws ++ (ys ++ (xs ++ zs))) ++ (0, 0) ∷ [] =
    ap (λ (t : Tables). exchanged t.gens start.0 middle.0 stop.0) f.same
    ∙ flat-exchanged (λ (b : Bag). b.gens) ws xs ys zs ((0, 0) ∷ []) start.0 middle.0 stop.0 g1 g2 g3 in
    let mods : exchanged t.mods start.1 middle.1 stop.1 ≡ mods_in (ws ++ (ys ++ (xs ++ zs))) ++ no_modulator ∷ [] =
    ap (λ (t : Tables). exchanged t.mods start.1 middle.1 stop.1) f.same
    ∙ flat-exchanged (λ (b : Bag). b.mods) ws xs ys zs (no_modulator ∷ []) start.1 middle.1 stop.1 d1 d2 d3 in
    let new : record {
      bags =
          changed_exchanged a b c (lowered (middle.0 - start.0, middle.1 - start.1))
          (raised (stop.0 - middle.0, stop.1 - middle.1)) t.bags;
      gens = exchanged t.gens start.0 middle.0 stop.0;
      mods = exchanged t.mods start.1 middle.1 stop.1;
    } ≡ tables_of (ws ++ (ys ++ (xs ++ zs))) =
    λ k. record { bags = index k; gens = gens k; mods = mods k } in
    record {
      last = omega arith;
      gens_rise = (omega arith, omega arith);
      mods_rise = (omega arith, omega arith);
      windows = record { first = omega arith; second = omega arith; within = omega arith };
      gens = record { first = omega arith; second = omega arith; within = omega arith };
      mods = record { first = omega arith; second = omega arith; within = omega arith };
      lower =
          subst (λ (p : (ℕ × ℕ) × List (ℕ × ℕ)). All (CanLower p.0) p.1) (sym (λ k. (down k, i.third k)))
          (All-begins past_bag (CanLower (total xs))
          (λ a b p. let g = p.gens in let d = p.mods in record { gens = omega arith; mods = omega arith }) w2 ys
          low);
      raise =
          (λ within_gens within_mods.
          subst (λ (p : (ℕ × ℕ) × List (ℕ × ℕ)). All (CanRaise p.0) p.1) (sym (λ k. (up k, i.second k)))
          (All-begins_back past_bag (CanRaise (total ys)) (λ a b p. record { gens = λ some. let g = p.gens some in omega arith; mods = λ some. let g = p.mods some in omega arith }) w1 xs
          (record { gens = λ some. omega arith; mods = λ some. omega arith })));
      turned = new ∙ ap tables_of (sym whole);
    }

pub turn : {t : Tables} {bags : List Bag} {a b c : ℕ} → AreOf t bags → a ≤ b → b ≤ c → c ≤ length bags
    → {start middle stop : ℕ × ℕ} → start ≡ get_or t.bags a start → middle ≡ get_or t.bags b middle
    → stop ≡ get_or t.bags c stop
    → BagRotation t bags a b c start middle stop
turn {t} {bags} {a} {b} {c} are h1 h2 h3 {start} {middle} {stop} e1 e2 e3 =
    let q = quarters bags a b c h1 h2 h3 in
    let ws = take a bags in
    let xs = drop a (take b bags) in
    let ys = drop b (take c bags) in
    let zs = drop c bags in
    let size = bags_size are in
    turn_of t bags ws xs ys zs a b c
    (record { same = are.same ∙ ap tables_of q.whole; first = q.first; second = q.second; third = q.third }) refl
    start middle stop
    (e1 ∙ get_or_default t.bags a start (0, 0) (omega arith))
    (e2 ∙ get_or_default t.bags b middle (0, 0) (omega arith))
    (e3 ∙ get_or_default t.bags c stop (0, 0) (omega arith))

pub bags_turned : {t : Tables} {bags : List Bag} {a b c : ℕ} {start middle stop : ℕ × ℕ}
    → BagRotation t bags a b c start middle stop → {index gens : List (ℕ × ℕ)} {mods : List Modulator}
    → index
    ≡ changed_exchanged a b c (lowered (middle.0 - start.0, middle.1 - start.1))
    (raised (stop.0 - middle.0, stop.1 - middle.1)) t.bags
    → gens ≡ exchanged t.gens start.0 middle.0 stop.0 → mods ≡ exchanged t.mods start.1 middle.1 stop.1
    → AreOf (record { bags = index; gens = gens; mods = mods }) (exchanged bags a b c)
bags_turned r index gens mods =
    record { same = (λ i. record { bags = index i; gens = gens i; mods = mods i }) ∙ r.turned }
