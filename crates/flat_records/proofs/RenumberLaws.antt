-- Bags whose targets are renumbered, one after another.
use Rattle.std.proofs.Common.{◌≡◌, ◌<◌, ◌≤◌, ◌==◌, ℕ, ◌+◌, ◌-◌, get_or, suc, zero, List, [], ◌∷◌, ◌++◌, length, map, take, drop}
use Rattle.std.proofs.Common.{All, false, slice_get, set, Option, Some, refl, sym, subst, ◌∙◌, ap}
use Rattle.std.proofs.Common.{arith}
use Rattle.std.specs.List.{AllByRecursion}
use Rattle.std.specs.Option.{IfSome, IsSomeAnd}
use Rattle.std.proofs.lemmas.List.{take_at, drop_at, nil_from_length, get_or_default, get_or-append-add, get_or_append_left}
use Rattle.std.proofs.lemmas.List.Elements.{All-tail, All-take, All-drop, All-same, All-get_or}
use Rattle.std.proofs.lemmas.Option.{get_or_from_slice_get, slice_get_within}
use Rattle.base_numbered_lists.specs.declared.renumbering.Renumbering.{Renumbering}
use Rattle.base_numbered_lists.specs.Moved.{changed}
use Rattle.base_numbered_lists.proofs.Lists.{changed-found, slice_get-found, slice_set_same}
use Rattle.flat_records.specs.Bags.{Bag, gens_in, with_gens, Tables, tables_of, bags_in, bags_of_records, AreRead}
use Rattle.modulators.specs.declared.modulator.Modulator.{Modulator}
use Rattle.flat_records.proofs.TableLaws.{AreOf, gen_set}
use Rattle.flat_records.proofs.BagPositions.{Spot, spot, Part, inside, gens_part}
use Rattle.flat_records.specs.Renumbered.{gen_renumbered, bag_renumbered, CanRenumber, IsOnlyLast, CanRenumberBag}
use Rattle.base_numbered_lists.proofs.Changing.{next_same}

-- ---- one bag

module _ (op : ℕ) (by : Renumbering) where
  abbrev Can : Bag → Type 0
  Can = CanRenumberBag op by

  numbers_can : (bags : List Bag) (k : ℕ) (b : Bag) → All (CanRenumber op by) (gens_in bags)
      → slice_get bags k ≡ Some b → All (CanRenumber op by) b.gens
  numbers_can (c ∷ bs) zero b can e =
      subst (λ (o : Option Bag). IfSome o (λ (b : Bag). All (CanRenumber op by) b.gens)) e
      (All-same (CanRenumber op by) c.gens (take (length c.gens) (c.gens ++ gens_in bs))
      (sym (take_at c.gens (gens_in bs) (length c.gens) refl))
      (All-take (CanRenumber op by) (length c.gens) (c.gens ++ gens_in bs) can))
  numbers_can (c ∷ bs) (suc k) b can e =
      numbers_can bs k b
      (All-same (CanRenumber op by) (gens_in bs) (drop (length c.gens) (c.gens ++ gens_in bs))
      (sym (drop_at c.gens (gens_in bs) (length c.gens) refl))
      (All-drop (CanRenumber op by) (length c.gens) (c.gens ++ gens_in bs) can))
      e
  numbers_can [] k b can e = cc

  last_can : (bags : List Bag) (k : ℕ) (b : Bag) → All (IsOnlyLast op) bags → slice_get bags k ≡ Some b
      → IsOnlyLast op b
  last_can bags k b last e =
      subst (IsOnlyLast op) (get_or_from_slice_get bags k b b e)
      (All-get_or (IsOnlyLast op) bags k b (slice_get_within bags k b e) last)

  pub next_can : (xs ys : List Bag) (k : ℕ) → ys ≡ map (bag_renumbered op by) (take k xs) ++ drop k xs
      → All (CanRenumber op by) (gens_in xs) → All (IsOnlyLast op) xs → k < length xs
      → IsSomeAnd (slice_get ys k) Can
  next_can xs ys k done can last h =
      let (b, e) = slice_get-found xs k h in
      let there = ap (λ zs. slice_get zs k) done ∙ (next_same (bag_renumbered op by) xs k ∙ e) in
      subst (λ (o : Option Bag). IsSomeAnd o Can) (sym there)
      (record { numbers = numbers_can xs k b can e; last = last_can xs k b last e })

  pub others_stay : (es : List (ℕ × ℕ)) → AllByRecursion (λ e. (e.0 == op) ≡ false) es
      → map (gen_renumbered op by) es ≡ es
  others_stay [] h = refl
  others_stay (e ∷ es) h =
      let same : gen_renumbered op by e ≡ e = rw h.0 refl in λ i. same i ∷ others_stay es h.1 i

  -- The last one renumbered, and no other.
  last_alone : (es : List (ℕ × ℕ)) (n : ℕ) (d : ℕ × ℕ) → length es ≡ suc n → All (λ e. (e.0 == op) ≡ false) (take n es)
      → set es n (gen_renumbered op by (get_or es n d)) ≡ map (gen_renumbered op by) es
  last_alone [] n d size others = absurd (omega arith)
  last_alone (e ∷ []) zero d size others = refl
  last_alone (e ∷ []) (suc n) d size others = absurd (omega arith)
  last_alone (e ∷ (f ∷ es)) zero d size others = absurd (omega arith)
  last_alone (e ∷ (f ∷ es)) (suc n) d size others =
      let first : gen_renumbered op by e ≡ e = rw (others zero (0, 0) (omega arith)) refl in
      let rest =
      last_alone (f ∷ es) n d (omega arith) (All-tail (λ e. (e.0 == op) ≡ false) e (take n (f ∷ es)) others) in
      λ i. sym first i ∷ rest i

  -- ---- bag k among the records

  module _ (t : Tables) (are : AreRead t) (k : ℕ) (there : IsSomeAnd (slice_get (bags_in t) k) Can) where
    of_bags : AreOf t (bags_in t)
    of_bags = record { same = are }

    bag : Spot t (bags_in t) k Can
    bag = spot of_bags k Can there

    abbrev start : ℕ
    start = (get_or t.bags k (0, 0)).0

    abbrev end : ℕ
    end = (get_or t.bags (k + 1) (0, 0)).0

    pub index_there : k + 1 < length t.bags
    index_there = bag.begin.more

    ends : end ≡ start + length bag.bag.gens
    ends = ap (λ (m : ℕ × ℕ). m.0) bag.begin.next

    own : get_or t.bags k (0, 0) ≡ get_or t.bags k (get_or t.bags k (0, 0))
    own =
        let more = index_there in
        sym (get_or_default t.bags k (get_or t.bags k (0, 0)) (0, 0) (omega arith))

    gens : Part t.gens bag.bag.gens start
    gens = gens_part bag {at = get_or t.bags k (0, 0)} own

    pub last_there : start < end → end - 1 < length t.gens
    last_there some = let e = ends in let within = inside gens in omega (arith, e, within)

    last_read : start < end → get_or t.gens (end - 1) (0, 0) ≡ get_or bag.bag.gens (length bag.bag.gens - 1) (0, 0)
    last_read some =
        let e = ends in
        let place : end - 1 ≡ start + (length bag.bag.gens - 1) = omega arith in
        ap (λ i. get_or t.gens i (0, 0)) place
        ∙ (ap (λ es. get_or es (start + (length bag.bag.gens - 1)) (0, 0)) gens.whole
        ∙ (ap (λ n. get_or (gens.front ++ (bag.bag.gens ++ gens.back)) (n + (length bag.bag.gens - 1)) (0, 0)) gens.before
        ∙ (get_or-append-add gens.front (bag.bag.gens ++ gens.back) (length bag.bag.gens - 1) (0, 0)
        ∙ get_or_append_left bag.bag.gens gens.back (0, 0) (length bag.bag.gens - 1) (omega arith))))

    pub last_can_be : start < end → CanRenumber op by (get_or t.gens (end - 1) (0, 0))
    last_can_be some =
        let e = ends in
        subst (CanRenumber op by) (sym (last_read some))
        (bag.holds.numbers (length bag.bag.gens - 1) (0, 0) (omega arith))

    pub last_renumbered : start < end → (g : ℕ × ℕ) → g ≡ gen_renumbered op by (get_or t.gens (end - 1) (0, 0))
        → (let new : Tables = record t { gens = set t.gens (end - 1) g } in new)
        ≡ tables_of (changed (bags_in t) k (bag_renumbered op by))
    last_renumbered some g value =
        let e = ends in
        let b = bag.bag in
        let more : 0 < length b.gens = omega arith in
        let place : start + (length b.gens - 1) ≡ end - 1 = omega arith in
        let value : g ≡ gen_renumbered op by (get_or b.gens (length b.gens - 1) (0, 0)) =
        value ∙ ap (gen_renumbered op by) (last_read some) in
        let all : set b.gens (length b.gens - 1) g ≡ map (gen_renumbered op by) b.gens =
        ap (set b.gens (length b.gens - 1)) value ∙ last_alone b.gens (length b.gens - 1) (0, 0) (omega arith) bag.holds.last in
        let kept = (gen_set bag.begin {at = get_or t.bags k (0, 0)} refl (length b.gens - 1) g (omega arith)).same in
        ap (λ i. (let new : Tables = record t { gens = set t.gens i g } in new)) (sym place)
        ∙ (kept
        ∙ ap tables_of
        (changed-found (bags_in t) k (λ (b : Bag). with_gens (set b.gens (length bag.bag.gens - 1) g) b) b bag.there
        ∙ (ap (λ es. set (bags_in t) k (with_gens es b)) all
        ∙ sym (changed-found (bags_in t) k (bag_renumbered op by) b bag.there))))

    pub none_renumbered : end ≤ start → t ≡ tables_of (changed (bags_in t) k (bag_renumbered op by))
    none_renumbered none =
        let e = ends in
        let b = bag.bag in
        let size : length b.gens ≡ 0 = omega arith in
        let kept : b ≡ bag_renumbered op by b =
        ap (λ es. with_gens es b)
        (subst (λ es. es ≡ map (gen_renumbered op by) es) (sym (nil_from_length b.gens size)) refl) in
        are
        ∙ ap tables_of
        (sym
        (changed-found (bags_in t) k (bag_renumbered op by) b bag.there
        ∙ (ap (λ c. set (bags_in t) k c) (sym kept) ∙ slice_set_same (bags_in t) k b bag.there)))

  -- ---- all bags, whose generators are written back

  pub records_renumbered : {t : Tables} {bags gens : List (ℕ × ℕ)} {mods : List Modulator} {new : List (ℕ × ℕ)} {n : ℕ}
      → bags ≡ t.bags → gens ≡ t.gens → mods ≡ t.mods → n ≡ length t.gens → length new ≡ length gens
      → (let r : Tables = record { bags = bags; gens = new; mods = mods } in r)
      ≡ tables_of (map (bag_renumbered op by) (bags_of_records bags gens mods))
      → {own : List Bag} → bags_in t ≡ own
      → AreOf (record { bags = t.bags; gens = take n (new ++ drop (length new) t.gens); mods = t.mods })
      (map (bag_renumbered op by) own)
  records_renumbered {t} {bags} {gens} {mods} {new} {n} bags_same gens_same mods_same size kept e {own} seen =
      let long : length new ≡ n = kept ∙ (ap length gens_same ∙ sym size) in
      let written : take n (new ++ drop (length new) t.gens) ≡ new = take_at new (drop (length new) t.gens) n long in
      record {
        same =
            (λ i. record { bags = sym bags_same i; gens = written i; mods = sym mods_same i })
            ∙ (e
            ∙ ap (λ bs. tables_of (map (bag_renumbered op by) bs))
            ((λ i. bags_of_records (bags_same i) (gens_same i) (mods_same i)) ∙ seen));
      }
