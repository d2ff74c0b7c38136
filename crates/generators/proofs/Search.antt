-- The result of a binary search by rank among sorted entries.
use Rattle.std.proofs.Common.{◌≡◌, ◌<◌, ◌≤◌, ℕ, length, Result, Ok, Err, IfOk, IfErr, subst, inl, inr, arith}
use Rattle.std.specs.Prelude.{IsTrue}
use Rattle.std.specs.declared.cmp.Ordering.TheVariants.{Less}
use Rattle.std.specs.Ordering.{nat_cmp, ordering_index}
use Rattle.std.specs.List.Sorted.{IsSearchInRange, IsBinarySearchResult, IsNonDecreasingBy}
use Rattle.std.specs.FinMap.{is_sorted}
use Rattle.std.proofs.lemmas.List.Sorted.{IsNonDecreasingBy-from_default}
use Rattle.std.proofs.lemmas.Bool.{cases_lt}
use Rattle.std.proofs.lemmas.Bool.Decides.{nat_tests}
use Rattle.generators.specs.Gens.{rank, operator_cmp}
use Rattle.generators.specs.Indexes.{IsAt, IsInsertionIndex, operator_at}
use Rattle.generators.proofs.Order.{operator_cmp-IsAntisymmetric}
use Rattle.generators.proofs.Entries.{Entries, keys_rise}

-- The comparison of a rank is monotone.
index_rises : (a b k : ℕ) → a ≤ b → ordering_index (nat_cmp a k) ≤ ordering_index (nat_cmp b k)
index_rises a b k le = grind (arith, nat_tests)

less_below : (a b : ℕ) → nat_cmp a b ≡ Less → a ≤ b
less_below a b e = grind (arith, nat_tests)

module _ (es : Entries) (rises : IsTrue (is_sorted operator_cmp es)) (op : ℕ) where
  ranks_rise : (i j : ℕ) → i ≤ j → j < length es → rank (operator_at es i) ≤ rank (operator_at es j)
  ranks_rise i j le l = elim (cases_lt i j) [
    | inl lt ↦ less_below _ _ (keys_rise operator_cmp es rises i j lt l)
    | inr ge ↦ let same : i ≡ j =
        omega arith in subst (λ k. rank (operator_at es i) ≤ rank (operator_at es k)) same (omega arith)
  ]

  comparisons_rise : IsNonDecreasingBy (λ entry. ordering_index (nat_cmp (rank entry.0) (rank op))) es
  comparisons_rise =
      IsNonDecreasingBy-from_default (λ entry. ordering_index (nat_cmp (rank entry.0) (rank op))) es (0, 0)
      (λ i j le l. index_rises _ _ (rank op) (ranks_rise i j le l))

  pub searched : (r : Result ℕ ℕ) → IsSearchInRange r (length es)
      → IsBinarySearchResult (λ entry. nat_cmp (rank entry.0) (rank op)) es r
      → record { found : IfOk r (IsAt es op); absent : IfErr r (IsInsertionIndex es op) }
  searched (Ok at) within equal =
      record {
        found =
            record { within = within; same = operator_cmp-IsAntisymmetric (operator_at es at) op (equal (0, 0)) };
        absent =
            tt;
      }
  searched (Err at) within is_partition = record {
    found = tt;
    absent = record {
      within = within;
      before = λ j l. (is_partition comparisons_rise).0 j (0, 0) (omega arith) l;
      after = λ j le l. (is_partition comparisons_rise).1 j (0, 0) le l;
    };
  }
