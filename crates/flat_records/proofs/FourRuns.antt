-- Four consecutive runs of members, and where each begins.
use Rattle.std.proofs.Common.{◌≡◌, ℕ, ◌+◌, List, ◌++◌, length, sym, subst, ◌∙◌, ap, get_or, append_assoc}
use Rattle.std.proofs.Common.{length-append, arith}
use Rattle.flat_records.specs.Runs.{starts}
use Rattle.flat_records.proofs.Starts.{begins, end, at-starts, end-append, length-begins, starts-parts}
use Rattle.flat_records.proofs.Exchanges.{Parts, parts}

-- The starts of the runs, and d after the last one.
pub record FourRuns {X M : Type 0} (past : M → X → M) (at d : M) (ws xs ys zs : List X) (places : List M)
    (a b c : ℕ) : Type 0 where
  pub runs :
      Parts places (begins past at ws) (begins past (end past at ws) xs)
      (begins past (end past (end past at ws) xs) ys)
      (starts past (end past (end past (end past at ws) xs) ys) zs) a b c
  pub first : get_or places a d ≡ end past at ws
  pub second : get_or places b d ≡ end past (end past at ws) xs
  pub third : get_or places c d ≡ end past (end past (end past at ws) xs) ys

pub four_runs : {X M : Type 0} (past : M → X → M) (at d : M) (ws xs ys zs : List X) {places : List M} {a b c : ℕ}
    → places ≡ starts past at (ws ++ (xs ++ (ys ++ zs)))
    → a ≡ length ws → b ≡ length ws + length xs → c ≡ length ws + (length xs + length ys)
    → FourRuns past at d ws xs ys zs places a b c
four_runs past at d ws xs ys zs {places} {a} {b} {c} same e1 e2 e3 =
    let m1 = end past at ws in
    let m2 = end past m1 xs in
    let l1 = length-begins past at ws in
    let l2 = length-begins past m1 xs in
    let l3 = length-begins past m2 ys in
    let size : c ≡ length ((ws ++ xs) ++ ys) = e3 ∙ omega (arith, length-append (ws ++ xs) ys, length-append ws xs) in
    record {
      runs =
          subst
          (λ places.
          Parts places (begins past at ws) (begins past m1 xs) (begins past m2 ys)
          (starts past (end past m2 ys) zs) a b c)
          (sym (same ∙ starts-parts past at ws xs ys zs))
          (parts (begins past at ws) (begins past m1 xs) (begins past m2 ys) (starts past (end past m2 ys) zs) a b c
          (omega arith) (omega arith) (omega arith));
      first = (λ i. get_or (same i) (e1 i) d) ∙ at-starts past at d ws (xs ++ (ys ++ zs));
      second =
          (λ i. get_or (same i) ((e2 ∙ sym (length-append ws xs)) i) d)
          ∙ (ap (λ os. get_or (starts past at os) (length (ws ++ xs)) d) (sym (append_assoc ws xs (ys ++ zs)))
          ∙ (at-starts past at d (ws ++ xs) (ys ++ zs) ∙ end-append past at ws xs));
      third =
          (λ i. get_or (same i) (size i) d)
          ∙ (ap (λ os. get_or (starts past at os) (length ((ws ++ xs) ++ ys)) d)
          (sym (append_assoc (ws ++ xs) ys zs ∙ append_assoc ws xs (ys ++ zs)))
          ∙ (at-starts past at d ((ws ++ xs) ++ ys) zs
          ∙ (end-append past at (ws ++ xs) ys ∙ ap (λ m. end past m ys) (end-append past at ws xs))));
    }
