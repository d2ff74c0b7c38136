-- Records that are tables are those of the bags read from them, and the records of bags are tables.
use Rattle.std.proofs.Common.{◌≡◌, ℕ, ◌<◌, ◌≤◌, ◌+◌, ◌-◌, suc, zero, List, [], ◌∷◌, ◌++◌, length, slice_get, Some}
use Rattle.std.proofs.Common.{refl, subst, sym, ◌∙◌, ap, take, drop, get_or, length-append, length-take, length-drop}
use Rattle.std.proofs.Common.{arith}
use Rattle.modulators.specs.declared.modulator.Modulator.{Modulator}
use Rattle.flat_records.specs.Runs.{starts}
use Rattle.flat_records.specs.Bags.{Bag, past_bag, gens_in, mods_in, no_modulator, Tables, tables_of, bags_from}
use Rattle.flat_records.specs.Bags.{bags_of_records, bags_in, AreRead}
use Rattle.base_numbered_lists.proofs.Lists.{slice_get-within}
use Rattle.flat_records.proofs.Starts.{end, length-starts, starts-first, starts-end}
use Rattle.flat_records.proofs.Ends.{last_of, last-found, some-first, joined}
use Rattle.flat_records.proofs.TableLaws.{gens-end, mods-end}
use Rattle.flat_records.specs.Tables.{Rises, EndsIn, AreTables}

-- ---- the bags of records that are tables

-- What the bags from `at` on require of the records.
record From (at : ℕ × ℕ) (rest : List (ℕ × ℕ)) (gens : List (ℕ × ℕ)) (mods : List Modulator) : Type 0 where
  pub rising : (k : ℕ) → k + 1 < length (at ∷ rest) → Rises (at ∷ rest) k
  pub gens_within : (last_of at rest).0 ≤ at.0 + length gens
  pub mods_within : (last_of at rest).1 ≤ at.1 + length mods

rises_next : (at : ℕ × ℕ) (rest : List (ℕ × ℕ)) (k : ℕ) → Rises (at ∷ rest) (suc k) → Rises rest k
rises_next at rest k r =
    let n : suc k + 1 ≡ suc (k + 1) = omega arith in
    subst
    (λ n.
    ((get_or rest k (0, 0)).0 ≤ (get_or (at ∷ rest) n (0, 0)).0)
    × ((get_or rest k (0, 0)).1 ≤ (get_or (at ∷ rest) n (0, 0)).1))
    n r

below_last : (at : ℕ × ℕ) (rest : List (ℕ × ℕ)) → ((k : ℕ) → k + 1 < length (at ∷ rest) → Rises (at ∷ rest) k)
    → (at.0 ≤ (last_of at rest).0) × (at.1 ≤ (last_of at rest).1)
below_last at [] r = (omega arith, omega arith)
below_last at (next ∷ rest) r =
    let first = r 0 (omega arith) in
    let more = below_last next rest (λ k h. rises_next at (next ∷ rest) k (r (suc k) (omega arith))) in
    (omega (arith, first.0, more.0), omega (arith, first.1, more.1))

-- The same for the next bag.
next_from : (at next : ℕ × ℕ) (rest : List (ℕ × ℕ)) (gens : List (ℕ × ℕ)) (mods : List Modulator)
    → From at (next ∷ rest) gens mods → From next rest (drop (next.0 - at.0) gens) (drop (next.1 - at.1) mods)
next_from at next rest gens mods f =
    let first = f.rising 0 (omega arith) in
    let g = f.gens_within in
    let m = f.mods_within in
    record {
      rising = λ k h. rises_next at (next ∷ rest) k (f.rising (suc k) (omega arith));
      gens_within = omega (arith, first.0, length-drop (next.0 - at.0) gens);
      mods_within = omega (arith, first.1, length-drop (next.1 - at.1) mods);
    }

starts-from : (at : ℕ × ℕ) (rest : List (ℕ × ℕ)) (gens : List (ℕ × ℕ)) (mods : List Modulator)
    → From at rest gens mods → starts past_bag at (bags_from at rest gens mods) ≡ at ∷ rest
starts-from at [] gens mods f = refl
starts-from at (next ∷ rest) gens mods f =
    let first = f.rising 0 (omega arith) in
    let more = below_last next rest (λ k h. rises_next at (next ∷ rest) k (f.rising (suc k) (omega arith))) in
    let g = f.gens_within in
    let m = f.mods_within in
    let n1 : at.0 + length (take (next.0 - at.0) gens) ≡ next.0 =
    omega (arith, first.0, more.0, length-take (next.0 - at.0) gens) in
    let n2 : at.1 + length (take (next.1 - at.1) mods) ≡ next.1 =
    omega (arith, first.1, more.1, length-take (next.1 - at.1) mods) in
    let bags = bags_from next rest (drop (next.0 - at.0) gens) (drop (next.1 - at.1) mods) in
    (λ i. at ∷ starts past_bag (n1 i, n2 i) bags)
    ∙ ap (λ ms. at ∷ ms)
    (starts-from next rest (drop (next.0 - at.0) gens) (drop (next.1 - at.1) mods)
    (next_from at next rest gens mods f))

gens-from : (at : ℕ × ℕ) (rest : List (ℕ × ℕ)) (gens : List (ℕ × ℕ)) (mods : List Modulator) → From at rest gens mods
    → gens_in (bags_from at rest gens mods) ≡ take ((last_of at rest).0 - at.0) gens
gens-from at [] gens mods f = let n : at.0 - at.0 ≡ 0 = omega arith in ap (λ n. take n gens) (sym n)
gens-from at (next ∷ rest) gens mods f =
    let first = f.rising 0 (omega arith) in
    let more = below_last next rest (λ k h. rises_next at (next ∷ rest) k (f.rising (suc k) (omega arith))) in
    ap (λ xs. take (next.0 - at.0) gens ++ xs)
    (gens-from next rest (drop (next.0 - at.0) gens) (drop (next.1 - at.1) mods)
    (next_from at next rest gens mods f))
    ∙ joined gens at.0 next.0 (last_of next rest).0 first.0 more.0

mods-from : (at : ℕ × ℕ) (rest : List (ℕ × ℕ)) (gens : List (ℕ × ℕ)) (mods : List Modulator) → From at rest gens mods
    → mods_in (bags_from at rest gens mods) ≡ take ((last_of at rest).1 - at.1) mods
mods-from at [] gens mods f = let n : at.1 - at.1 ≡ 0 = omega arith in ap (λ n. take n mods) (sym n)
mods-from at (next ∷ rest) gens mods f =
    let first = f.rising 0 (omega arith) in
    let more = below_last next rest (λ k h. rises_next at (next ∷ rest) k (f.rising (suc k) (omega arith))) in
    ap (λ xs. take (next.1 - at.1) mods ++ xs)
    (mods-from next rest (drop (next.0 - at.0) gens) (drop (next.1 - at.1) mods)
    (next_from at next rest gens mods f))
    ∙ joined mods at.1 next.1 (last_of next rest).1 first.1 more.1

-- A list ends with its last member.
ended : {X : Type 0} (xs : List X) (n : ℕ) (x : X) → length xs ≡ suc n → slice_get xs n ≡ Some x
    → xs ≡ take n xs ++ x ∷ []
ended [] n x h e = cc
ended (y ∷ []) zero x h e = cc
ended (y ∷ (z ∷ zs)) zero x h e = absurd (omega arith)
ended (y ∷ ys) (suc n) x h e = ap (λ zs. y ∷ zs) (ended ys n x (omega arith) e)

pub tables_read : (t : Tables) → AreTables t → AreRead t
tables_read t are =
    let s = some-first t.bags (0, 0) are.first in
    let rest = s.0 in
    let split : t.bags ≡ (0, 0) ∷ rest = s.1 in
    let some_gens = slice_get-within t.gens (length t.gens - 1) (0, 0) are.gens in
    let some_mods = slice_get-within t.mods (length t.mods - 1) no_modulator are.mods in
    let size : length t.bags ≡ suc (length rest) = ap length split in
    let n : length t.bags - 1 ≡ length rest = omega arith in
    let last : last_of (0, 0) rest ≡ (length t.gens - 1, length t.mods - 1) =
    last-found (0, 0) rest (length rest) (length t.gens - 1, length t.mods - 1) refl
    ((λ i. slice_get (sym split i) (sym n i)) ∙ are.last) in
    let last_gen = ap (λ (m : ℕ × ℕ). m.0) last in
    let last_mod = ap (λ (m : ℕ × ℕ). m.1) last in
    let from : From (0, 0) rest t.gens t.mods = record {
      rising = subst (λ bags. (k : ℕ) → k + 1 < length bags → Rises bags k) split are.rising;
      gens_within = omega arith;
      mods_within = omega arith;
    } in
    let seen : bags_in t ≡ bags_from (0, 0) rest t.gens t.mods =
    ap (λ bags. bags_of_records bags t.gens t.mods) split in
    let all_gens : (last_of (0, 0) rest).0 - 0 ≡ length t.gens - 1 = omega arith in
    let all_mods : (last_of (0, 0) rest).1 - 0 ≡ length t.mods - 1 = omega arith in
    let bags : t.bags ≡ starts past_bag (0, 0) (bags_in t) =
    split ∙ (sym (starts-from (0, 0) rest t.gens t.mods from) ∙ ap (starts past_bag (0, 0)) (sym seen)) in
    let gens_are : gens_in (bags_in t) ≡ take (length t.gens - 1) t.gens =
    ap gens_in seen ∙ (gens-from (0, 0) rest t.gens t.mods from ∙ ap (λ n. take n t.gens) all_gens) in
    let mods_are : mods_in (bags_in t) ≡ take (length t.mods - 1) t.mods =
    ap mods_in seen ∙ (mods-from (0, 0) rest t.gens t.mods from ∙ ap (λ n. take n t.mods) all_mods) in
    let gens : t.gens ≡ gens_in (bags_in t) ++ (0, 0) ∷ [] =
    ended t.gens (length t.gens - 1) (0, 0) (omega arith) are.gens
    ∙ ap (λ xs. xs ++ (0, 0) ∷ []) (sym gens_are) in
    let mods : t.mods ≡ mods_in (bags_in t) ++ no_modulator ∷ [] =
    ended t.mods (length t.mods - 1) no_modulator (omega arith) are.mods
    ∙ ap (λ xs. xs ++ no_modulator ∷ []) (sym mods_are) in
    λ i. record { bags = bags i; gens = gens i; mods = mods i }

-- The same for equal lists.
pub same_read : {bags index gens others : List (ℕ × ℕ)} {mods more : List Modulator}
    → AreTables (record { bags = bags; gens = gens; mods = mods }) → bags ≡ index → gens ≡ others → mods ≡ more
    → AreRead (record { bags = index; gens = others; mods = more })
same_read {bags} {index} {gens} {others} {mods} {more} are e f g =
    let same : record { bags = bags; gens = gens; mods = mods } ≡ record { bags = index; gens = others; mods = more } =
    λ i. record { bags = e i; gens = f i; mods = g i } in
    tables_read (record { bags = index; gens = others; mods = more }) (subst AreTables same are)

-- ---- the records of bags

last_of_append : {X : Type 0} (xs : List X) (x : X) → slice_get (xs ++ x ∷ []) (length xs) ≡ Some x
last_of_append [] x = refl
last_of_append (y ∷ ys) x = last_of_append ys x

ends-in : {X : Type 0} (xs : List X) (x : X) → EndsIn (xs ++ x ∷ []) x
ends-in xs x =
    let n : length (xs ++ x ∷ []) - 1 ≡ length xs = omega (arith, length-append xs (x ∷ [])) in
    ap (slice_get (xs ++ x ∷ [])) n ∙ last_of_append xs x

starts-rise : (at : ℕ × ℕ) (bags : List Bag) (k : ℕ) → k + 1 < length (starts past_bag at bags)
    → Rises (starts past_bag at bags) k
starts-rise at [] k h = absurd (omega arith)
starts-rise at (b ∷ []) zero h = (omega arith, omega arith)
starts-rise at (b ∷ (c ∷ bs)) zero h = (omega arith, omega arith)
starts-rise at (b ∷ bs) (suc k) h =
    let n : suc (k + 1) ≡ suc k + 1 = omega arith in
    let rest = starts past_bag (past_bag at b) bs in
    subst
    (λ n.
    ((get_or rest k (0, 0)).0 ≤ (get_or (at ∷ rest) n (0, 0)).0)
    × ((get_or rest k (0, 0)).1 ≤ (get_or (at ∷ rest) n (0, 0)).1))
    n
    (starts-rise (past_bag at b) bs k (omega arith))

pub bags_tables : (bags : List Bag) → AreTables (tables_of bags)
bags_tables bags =
    let n : length (starts past_bag (0, 0) bags) - 1 ≡ length bags =
    omega (arith, length-starts past_bag (0, 0) bags) in
    let g : (end past_bag (0, 0) bags).0 ≡ length (gens_in bags ++ (0, 0) ∷ []) - 1 =
    omega (arith, gens-end (0, 0) bags, length-append (gens_in bags) ((0, 0) ∷ [])) in
    let m : (end past_bag (0, 0) bags).1 ≡ length (mods_in bags ++ no_modulator ∷ []) - 1 =
    omega (arith, mods-end (0, 0) bags, length-append (mods_in bags) (no_modulator ∷ [])) in
    record {
      first = starts-first past_bag (0, 0) bags;
      rising = starts-rise (0, 0) bags;
      last =
          ap (slice_get (starts past_bag (0, 0) bags)) n
          ∙ (starts-end past_bag (0, 0) bags ∙ (λ i. Some (g i, m i)));
      gens = ends-in (gens_in bags) (0, 0);
      mods = ends-in (mods_in bags) no_modulator;
    }
