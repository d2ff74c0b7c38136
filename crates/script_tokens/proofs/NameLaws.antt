-- Which bytes are a name.
use Rattle.std.proofs.Common.{◌≡◌, ◌≤◌, ◌<◌, ℕ, Bool, true, false, List, [], ◌∷◌, length, Some, Result, Ok, Err}
use Rattle.std.proofs.Common.{refl, sym, ap, arith}
use Rattle.std.specs.Prelude.{nat_lt, nat_le}
use Rattle.std.specs.List.{list_all, Contains, AllByRecursion}
use Rattle.std.specs.Result.{IfOk, result_ok}
use Rattle.std.proofs.lemmas.Bool.{lt-ltb, le-leb}
use Rattle.std.proofs.lemmas.List.Folds.{list_all_at}
use Rattle.std.proofs.lemmas.Grind.{common_steps}
use Rattle.sf_base.specs.Names.{IsTextByte, IsName}
use Rattle.sf_base.specs.declared.name.NameFault.{NameFault}
use Rattle.sf_base.specs.declared.name.NameFault.TheVariants.{TooLong, ZeroByte}
use Rattle.script_tokens.specs.Parsers.{is_name, name_of}

abbrev above_zero : ℕ → Bool
above_zero b = nat_lt 0 b

pub no_zero : (bytes : List ℕ) → AllByRecursion IsTextByte bytes → list_all above_zero bytes ≡ true
no_zero [] h = refl
no_zero (b ∷ bytes) h = let f = lt-ltb 0 b h.0.0 in rw (f, no_zero bytes h.1) refl

pub name_passes : (bytes : List ℕ) → IsName bytes → is_name bytes ≡ true
name_passes bytes h =
    let short : nat_le (length bytes) 20 ≡ true = le-leb (length bytes) 20 h.0 in
    rw (short, no_zero bytes h.1) refl

long_fails : (bytes : List ℕ) → 20 < length bytes → is_name bytes ≡ false
long_fails bytes h = grind (arith, common_steps)

zero_fails : (bytes : List ℕ) → Contains bytes 0 → is_name bytes ≡ false
zero_fails bytes h =
    let k : length bytes ≡ length bytes = refl in
    let z : list_all above_zero bytes ≡ false = list_all_at above_zero bytes h.0 0 h.1 (ap above_zero h.2) in
    grind (arith, common_steps, z)

pub name_of_bytes : (r : Result (List ℕ) NameFault) (bytes : List ℕ) → IfOk r (λ n. n ≡ bytes)
    → IfOk r (λ n. IsName n) → (r ≡ Err TooLong → 20 < length bytes)
    → (r ≡ Err ZeroByte → (length bytes ≤ 20) × Contains bytes 0) → result_ok r ≡ name_of bytes
unfolding name_of
name_of_bytes (Ok n) bytes same named long zero =
    let e : is_name bytes ≡ true = rw (sym same) (name_passes n named) in rw e (ap (λ (x : List ℕ). Some x) same)
name_of_bytes (Err TooLong) bytes same named long zero = rw (long_fails bytes (long refl)) refl
name_of_bytes (Err ZeroByte) bytes same named long zero = rw (zero_fails bytes (zero refl).1) refl
