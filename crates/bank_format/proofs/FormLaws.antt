-- A RIFF file built from a form and a body: its window is the body, and it passes the RIFF checks.
use Rattle.std.proofs.Common.{◌≡◌, ◌≤◌, ◌<◌, ◌+◌, ◌%◌, ◌^◌, ℕ, true, leb, List, ◌++◌, length, take, drop, None, refl}
use Rattle.std.proofs.Common.{sym, ap, ◌∙◌, append_assoc, arith}
use Rattle.std.specs.Prelude.{bytes_eq}
use Rattle.std.proofs.lemmas.Bool.{le-leb}
use Rattle.std.proofs.lemmas.List.{length-append, take_at, drop_at}
use Rattle.std.proofs.lemmas.Slice.Eq.{bytes_eq-Decides}
use Rattle.riff_chunks.specs.Encoding.{chunk_head, pad, chunk}
use Rattle.riff_chunks.proofs.EncodingLaws.{length-pad, length-chunk_head, Headed, chunk_head-Headed}
use Rattle.bank_format.specs.Ids.{RIFF}
use Rattle.bank_format.specs.FaultChecks.{first_fault}
use Rattle.bank_format.specs.Chunks.{riff_size, window}
use Rattle.bank_format.specs.ReadChecks.{form_checks}

pub same_bytes : (xs ys : List ℕ) → xs ≡ ys → bytes_eq xs ys ≡ true
same_bytes xs ys e = (bytes_eq-Decides xs ys).1 e

length-RIFF : length RIFF ≡ 4
unfolding RIFF
length-RIFF = refl

module _ (form body : List ℕ) (four : length form ≡ 4) (small : length (form ++ body) < 2 ^ 32) where
  abbrev n : ℕ
  n = length (form ++ body)

  abbrev head : List ℕ
  head = chunk_head RIFF n

  abbrev file : List ℕ
  file = chunk RIFF (form ++ body)

  headed : Headed file RIFF n ((form ++ body) ++ pad n)
  headed = chunk_head-Headed RIFF n ((form ++ body) ++ pad n) length-RIFF small

  length-head : length head ≡ 8
  length-head = length-chunk_head RIFF n length-RIFF

  pub form_window : window (chunk RIFF (form ++ body)) ≡ body
  unfolding window
  form_window =
      let front : take (8 + n) file ≡ head ++ (form ++ body) =
      ap (take (8 + n)) (sym (append_assoc head (form ++ body) (pad n)))
      ∙ take_at (head ++ (form ++ body)) (pad n) (8 + n)
      (omega (arith, length-append head (form ++ body), length-head)) in
      let rest : drop 12 (head ++ (form ++ body)) ≡ body =
      ap (drop 12) (sym (append_assoc head form body))
      ∙ drop_at (head ++ form) body 12 (omega (arith, length-append head form, four, length-head)) in
      ap (λ (k : ℕ). drop 12 (take (8 + k) file)) (sym headed.sized) ∙ ap (drop 12) front ∙ rest

  pub form_holds : {F : Type 0} (not_riff truncated other_form : F)
      → first_fault (form_checks form not_riff truncated other_form (chunk RIFF (form ++ body))) ≡ None
  unfolding form_checks
  form_holds not_riff truncated other_form =
      let size = sym headed.sized in
      let least : 4 ≤ n = omega (arith, length-append form body, four) in
      let len : length file ≡ 8 + n + n % 2 =
      omega (
        arith,
        length-append head ((form ++ body) ++ pad n),
        length-append (form ++ body) (pad n),
        length-pad n,
        length-head,
      )
      in
      let past : drop 8 file ≡ form ++ (body ++ pad n) =
      drop_at head ((form ++ body) ++ pad n) 8 length-head ∙ append_assoc form body (pad n) in
      let t1 : bytes_eq (take 4 file) RIFF ≡ true = same_bytes _ _ (sym headed.named) in
      let t2 : leb 12 (length file) ≡ true = le-leb _ _ (omega (arith, len, least)) in
      let t3 : leb 4 (riff_size file) ≡ true = le-leb _ _ (omega (arith, size, least)) in
      let t4 : leb (8 + riff_size file) (length file + 1) ≡ true = le-leb _ _ (omega (arith, size, len)) in
      let t5 : bytes_eq (take 4 (drop 8 file)) form ≡ true =
      same_bytes _ _ (ap (take 4) past ∙ take_at form (body ++ pad n) 4 four) in
      rw (t1, t2, t3, t4, t5) refl
