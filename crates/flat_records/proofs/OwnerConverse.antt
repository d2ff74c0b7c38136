-- Starts that begin at 0 and never fall, up to the number of bags, are those of the owners read from them; the starts
-- of owners are such.
use Rattle.std.proofs.Common.{◌≡◌, ℕ, ◌<◌, ◌≤◌, ◌+◌, ◌-◌, suc, zero, List, [], ◌∷◌, ◌++◌, length, slice_get, Some}
use Rattle.std.proofs.Common.{refl, subst, sym, ◌∙◌, ap, take, drop, get_or, length-take, length-drop, zero-add}
use Rattle.std.proofs.Common.{arith}
use Rattle.std.proofs.Math.Seq.{take-length}
use Rattle.flat_records.specs.Runs.{starts}
use Rattle.flat_records.specs.Bags.{Bag, Tables, tables_of}
use Rattle.flat_records.proofs.Starts.{end, length-starts, starts-first, starts-end}
use Rattle.flat_records.proofs.Ends.{last_of, last-found, some-first, joined}
use Rattle.flat_records.proofs.TableLaws as tables
use Rattle.flat_records.specs.Owned.{Flat, past_owner, all_bags, flat_of, owners_from, owners_of_records, owners_in}
use Rattle.flat_records.specs.Owned.{AreRead}
use Rattle.flat_records.specs.Begins.{AreFlat, Rises, AreBegins}
use Rattle.flat_records.proofs.Owners.{owners-back, owners-end}

-- ---- the owners of starts that never fall

-- What the owners from `at` on require of the bags.
record From (at : ℕ) (rest : List ℕ) (bags : List Bag) : Type 0 where
  pub rising : (k : ℕ) → k + 1 < length (at ∷ rest) → Rises (at ∷ rest) k
  pub within : last_of at rest ≤ at + length bags

rises_next : (at : ℕ) (rest : List ℕ) (k : ℕ) → Rises (at ∷ rest) (suc k) → Rises rest k
rises_next at rest k r =
    let n : suc k + 1 ≡ suc (k + 1) = omega arith in
    subst (λ n. get_or rest k 0 ≤ get_or (at ∷ rest) n 0) n r

below_last : (at : ℕ) (rest : List ℕ) → ((k : ℕ) → k + 1 < length (at ∷ rest) → Rises (at ∷ rest) k)
    → at ≤ last_of at rest
below_last at [] r = omega arith
below_last at (next ∷ rest) r =
    let first = r 0 (omega arith) in
    let more = below_last next rest (λ k h. rises_next at (next ∷ rest) k (r (suc k) (omega arith))) in
    omega (arith, first, more)

-- The same for the next owner.
next_from : (at next : ℕ) (rest : List ℕ) (bags : List Bag) → From at (next ∷ rest) bags
    → From next rest (drop (next - at) bags)
next_from at next rest bags f =
    let first = f.rising 0 (omega arith) in
    let w = f.within in
    record {
      rising = λ k h. rises_next at (next ∷ rest) k (f.rising (suc k) (omega arith));
      within = omega (arith, first, length-drop (next - at) bags);
    }

starts-from : (at : ℕ) (rest : List ℕ) (bags : List Bag) → From at rest bags
    → starts past_owner at (owners_from at rest bags) ≡ at ∷ rest
starts-from at [] bags f = refl
starts-from at (next ∷ rest) bags f =
    let first = f.rising 0 (omega arith) in
    let more = below_last next rest (λ k h. rises_next at (next ∷ rest) k (f.rising (suc k) (omega arith))) in
    let w = f.within in
    let n : at + length (take (next - at) bags) ≡ next = omega (arith, first, more, length-take (next - at) bags) in
    (λ i. at ∷ starts past_owner (n i) (owners_from next rest (drop (next - at) bags)))
    ∙ ap (λ ms. at ∷ ms) (starts-from next rest (drop (next - at) bags) (next_from at next rest bags f))

bags-from : (at : ℕ) (rest : List ℕ) (bags : List Bag) → From at rest bags
    → all_bags (owners_from at rest bags) ≡ take (last_of at rest - at) bags
bags-from at [] bags f = let n : at - at ≡ 0 = omega arith in ap (λ n. take n bags) (sym n)
bags-from at (next ∷ rest) bags f =
    let first = f.rising 0 (omega arith) in
    let more = below_last next rest (λ k h. rises_next at (next ∷ rest) k (f.rising (suc k) (omega arith))) in
    ap (λ xs. take (next - at) bags ++ xs) (bags-from next rest (drop (next - at) bags) (next_from at next rest bags f))
    ∙ joined bags at next (last_of next rest) first more

pub begins_read : (places : List ℕ) (bags : List Bag) → AreBegins places (length bags)
    → AreRead (record { begins = places; bags = bags })
begins_read places bags are =
    let s = some-first places 0 are.first in
    let rest = s.0 in
    let split : places ≡ 0 ∷ rest = s.1 in
    let size : length places ≡ suc (length rest) = ap length split in
    let n : length places - 1 ≡ length rest = omega arith in
    let last : last_of 0 rest ≡ length bags =
    last-found 0 rest (length rest) (length bags) refl ((λ i. slice_get (sym split i) (sym n i)) ∙ are.last) in
    let from : From 0 rest bags = record {
      rising = subst (λ places. (k : ℕ) → k + 1 < length places → Rises places k) split are.rising;
      within = omega arith;
    } in
    let seen : owners_of_records places bags ≡ owners_from 0 rest bags =
    ap (λ places. owners_of_records places bags) split in
    let all : last_of 0 rest - 0 ≡ length bags = omega arith in
    let begins : places ≡ starts past_owner 0 (owners_of_records places bags) =
    split ∙ (sym (starts-from 0 rest bags from) ∙ ap (starts past_owner 0) (sym seen)) in
    let own : all_bags (owners_of_records places bags) ≡ bags =
    ap all_bags seen ∙ (bags-from 0 rest bags from ∙ (ap (λ n. take n bags) all ∙ take-length bags)) in
    λ i. record { begins = begins i; bags = sym own i }

-- ---- the starts of owners

starts-rise : (at : ℕ) (owners : List (List Bag)) (k : ℕ) → k + 1 < length (starts past_owner at owners)
    → Rises (starts past_owner at owners) k
starts-rise at [] k h = absurd (omega arith)
starts-rise at (xs ∷ []) zero h = omega arith
starts-rise at (xs ∷ (ys ∷ os)) zero h = omega arith
starts-rise at (xs ∷ os) (suc k) h =
    let n : suc (k + 1) ≡ suc k + 1 = omega arith in
    let rest = starts past_owner (past_owner at xs) os in
    subst (λ n. get_or rest k 0 ≤ get_or (at ∷ rest) n 0) n (starts-rise (past_owner at xs) os k (omega arith))

pub owners_begin : (owners : List (List Bag)) → AreBegins (starts past_owner 0 owners) (length (all_bags owners))
owners_begin owners =
    let n : length (starts past_owner 0 owners) - 1 ≡ length owners =
    omega (arith, length-starts past_owner 0 owners) in
    let last : end past_owner 0 owners ≡ length (all_bags owners) =
    owners-end 0 owners ∙ zero-add (length (all_bags owners)) in
    record {
      first = starts-first past_owner 0 owners;
      rising = starts-rise 0 owners;
      last = ap (slice_get (starts past_owner 0 owners)) n ∙ (starts-end past_owner 0 owners ∙ ap Some last);
    }

-- ---- both lists

-- Records that are those of no bags are those of no owners.
pub no_tables : (places : List ℕ) (t : Tables) → ((bags : List Bag) → t ≡ tables_of bags → ⊥)
    → (owners : List (List Bag)) → AreFlat places t owners → ⊥
no_tables places t none owners are = none (all_bags owners) are.records

-- Nor are starts that don't begin at 0 or that fall.
pub no_begins : (places : List ℕ) (t : Tables) (bags : List Bag) → t ≡ tables_of bags
    → (AreBegins places (length bags) → ⊥) → (owners : List (List Bag)) → AreFlat places t owners → ⊥
no_begins places t bags e none owners are =
    let same : all_bags owners ≡ bags = sym (tables.read t (all_bags owners) are.records) ∙ tables.read t bags e in
    none
    (subst (λ places. AreBegins places (length bags)) (sym are.begins)
    (subst (λ bags. AreBegins (starts past_owner 0 owners) (length bags)) same (owners_begin owners)))

pub some_begins : (places : List ℕ) (t : Tables) (bags : List Bag) → t ≡ tables_of bags
    → AreBegins places (length bags) → AreFlat places t (owners_in (record { begins = places; bags = bags }))
some_begins places t bags e are =
    let read = begins_read places bags are in
    record { begins = ap (λ (f : Flat). f.begins) read; records = e ∙ ap (λ (f : Flat). tables_of f.bags) read }

-- The flat lists determine the owners.
pub same_owners : (places : List ℕ) (t : Tables) (owners others : List (List Bag)) → AreFlat places t owners
    → AreFlat places t others → owners ≡ others
same_owners places t owners others a b =
    let bags : all_bags owners ≡ all_bags others =
    sym (tables.read t (all_bags owners) a.records) ∙ tables.read t (all_bags others) b.records in
    let begins = sym a.begins ∙ b.begins in
    let flat : flat_of owners ≡ flat_of others = λ i. record { begins = begins i; bags = bags i } in
    sym (owners-back owners) ∙ (ap owners_in flat ∙ owners-back others)
