-- A canonical file reads as its bank, with all counts zero: first the RIFF chunk, then the lists, then the whole
-- file.
use Rattle.std.proofs.Common.{◌≡◌, ◌≤◌, ◌<◌, ◌+◌, ◌^◌, ℕ, true, false, leb, List, [], ◌∷◌, ◌++◌, length, take}
use Rattle.std.proofs.Common.{Option, Some, None, refl, ap, ◌∙◌, arith, is_some}
use Rattle.std.specs.Prelude.{unwrap_or, bytes_eq}
use Rattle.std.proofs.lemmas.Bool.{le-leb}
use Rattle.std.proofs.lemmas.List.{length-append, take_at, drop_at}
use Rattle.riff_chunks.specs.Walk.{Chunk, LIST, walk}
use Rattle.riff_chunks.specs.Finding.{chunks_in, is_whole, first_list}
use Rattle.riff_chunks.specs.Encoding.{chunk, encode}
use Rattle.riff_chunks.proofs.EncodingLaws.{chunks_in-encode, is_whole-encode}
use Rattle.bank_parts.specs.Valid.{IsValid}
use Rattle.bank_parts.specs.Fits.{Fits}
use Rattle.bank_parts.specs.declared.parts.Parts.{Parts}
use Rattle.bank_format.specs.declared.fault.ReadFault.TheVariants.{NotRiff, Truncated, NotSfbk}
use Rattle.bank_format.specs.Ids.{RIFF, SFBK, INFO, SDTA, PDTA}
use Rattle.bank_format.specs.FaultChecks.{first_fault}
use Rattle.bank_format.specs.Tables.{Tables, tables_of}
use Rattle.bank_format.specs.Canon.{list_of, info, sdta, pdta, lists, canon}
use Rattle.bank_format.specs.Chunks.{window, list_window, chunks_of, tables_in}
use Rattle.bank_format.specs.Reading.{content_of, content_in, no_counts}
use Rattle.bank_format.specs.ReadChecks.{frame_checks, list_checks, content_checks}
use Rattle.bank_format.specs.ReadChecks.{window_checks, checks, fault_of, ReadsAs}
use Rattle.bank_format.proofs.CheckLaws.{then_none}
use Rattle.bank_format.proofs.FormLaws.{same_bytes, form_window, form_holds}
use Rattle.bank_format.proofs.BankLaws.{content, content-again}
use Rattle.bank_format.proofs.PdtaLaws.{measured, tables_fit, tables_count, tables-again}
use Rattle.bank_format.proofs.FileLaws.{Small, small_cons, small_none, info_small, sdta_small, pdta_small}
use Rattle.bank_format.proofs.FileLaws.{content_steps_hold}

ids : (length RIFF ≡ 4) × (length SFBK ≡ 4) × (length INFO ≡ 4) × (length SDTA ≡ 4) × (length PDTA ≡ 4)
    × (length LIST ≡ 4)
unfolding RIFF SFBK INFO SDTA PDTA LIST
ids = (refl, refl, refl, refl, refl, refl)

-- ---- the lists

list_tests : (form : List ℕ) (cs : List Chunk) → length form ≡ 4
    → (bytes_eq LIST LIST ≡ true) × (leb 4 (length (form ++ encode cs)) ≡ true) × (take 4 (form ++ encode cs) ≡ form)
list_tests form cs e = (
  same_bytes LIST LIST refl,
  le-leb _ _ (let a = length-append form (encode cs) in omega (arith, a, e)),
  take_at form (encode cs) 4 e,
)

list_here : (form : List ℕ) (cs rest : List Chunk) → length form ≡ 4
    → first_list form (list_of form cs ∷ rest) ≡ Some (encode cs)
list_here form cs rest e =
    let t = list_tests form cs e in
    let same : bytes_eq (take 4 (form ++ encode cs)) form ≡ true = same_bytes _ _ t.2 in
    rw (t.0, t.1, same) (ap Some (drop_at form (encode cs) 4 e))

list_past : (form other : List ℕ) (cs rest : List Chunk) → length other ≡ 4 → bytes_eq other form ≡ false
    → first_list form (list_of other cs ∷ rest) ≡ first_list form rest
list_past form other cs rest e d =
    let t = list_tests other cs e in
    let differs : bytes_eq (take 4 (other ++ encode cs)) form ≡ false = ap (λ (x : List ℕ). bytes_eq x form) t.2 ∙ d in
    rw (t.0, t.1, differs) refl

apart : (bytes_eq INFO SDTA ≡ false) × (bytes_eq INFO PDTA ≡ false) × (bytes_eq SDTA PDTA ≡ false)
unfolding INFO SDTA PDTA
apart = (refl, refl, refl)

info_first : (b : Parts) → first_list INFO (lists b) ≡ Some (encode (info b))
unfolding lists
info_first b = list_here INFO (info b) (list_of SDTA (sdta b) ∷ list_of PDTA (pdta (tables_of b)) ∷ []) ids.2

sdta_first : (b : Parts) → first_list SDTA (lists b) ≡ Some (encode (sdta b))
unfolding lists
sdta_first b =
    list_past SDTA INFO (info b) (list_of SDTA (sdta b) ∷ list_of PDTA (pdta (tables_of b)) ∷ []) ids.2 apart.0
    ∙ list_here SDTA (sdta b) (list_of PDTA (pdta (tables_of b)) ∷ []) ids.3

pdta_first : (b : Parts) → first_list PDTA (lists b) ≡ Some (encode (pdta (tables_of b)))
unfolding lists
pdta_first b =
    list_past PDTA INFO (info b) (list_of SDTA (sdta b) ∷ list_of PDTA (pdta (tables_of b)) ∷ []) ids.2 apart.1
    ∙ list_past PDTA SDTA (sdta b) (list_of PDTA (pdta (tables_of b)) ∷ []) ids.3 apart.2
    ∙ list_here PDTA (pdta (tables_of b)) [] ids.4

module _ (b : Parts) (v : IsValid b) (f : Fits b) where
  abbrev tables : Tables
  tables = tables_of b

  pdta_is_small : Small 20000000 (pdta (tables_of b))
  pdta_is_small = pdta_small (tables_of b) (measured (tables_of b) (tables_fit b v f)) (tables_count b v)

  length-list : (form : List ℕ) (cs : List Chunk) (n : ℕ) → length form ≡ 4 → Small n cs
      → length (form ++ encode cs) ≤ n + 4
  length-list form cs n e s = let a = length-append form (encode cs) in let r = s.small_enough in omega (arith, a, e, r)

  lists_small : Small 1020080200 (lists b)
  unfolding lists
  lists_small =
      let s3 =
      small_cons LIST (PDTA ++ encode (pdta (tables_of b))) [] 0 20000004 ids.5
      (length-list PDTA (pdta (tables_of b)) 20000000 ids.4 pdta_is_small) (omega arith) small_none in
      let s2 =
      small_cons LIST (SDTA ++ encode (sdta b)) _ _ 1000000104 ids.5
      (length-list SDTA (sdta b) 1000000100 ids.3 (sdta_small b v)) (omega arith) s3 in
      let s1 =
      small_cons LIST (INFO ++ encode (info b)) _ _ 80004 ids.5
      (length-list INFO (info b) 80000 ids.2 (info_small b v)) (omega arith) s2 in
      let r = s1.small_enough in
      record { fits = s1.fits; small_enough = omega (arith, r) }

  -- ---- the window of the file

  form_small : length (SFBK ++ encode (lists b)) < 2 ^ 32
  form_small =
      let s = lists_small.small_enough in
      let a = length-append SFBK (encode (lists b)) in let i = ids.1 in omega (arith, a, s, i)

  canon_is : canon b ≡ chunk RIFF (SFBK ++ encode (lists b))
  unfolding canon
  canon_is = refl

  window_is : window (canon b) ≡ encode (lists b)
  window_is = ap window canon_is ∙ form_window SFBK (encode (lists b)) ids.1 form_small

  lists_are : chunks_in (walk (encode (lists b))) ≡ lists b
  lists_are = chunks_in-encode (lists b) lists_small.fits

  info_window : list_window INFO (encode (lists b)) ≡ encode (info b)
  unfolding list_window
  info_window =
      ap (λ (cs : List Chunk). unwrap_or (first_list INFO cs) []) lists_are
      ∙ ap (λ (o : Option (List ℕ)). unwrap_or o []) (info_first b)

  sdta_window : list_window SDTA (encode (lists b)) ≡ encode (sdta b)
  unfolding list_window
  sdta_window =
      ap (λ (cs : List Chunk). unwrap_or (first_list SDTA cs) []) lists_are
      ∙ ap (λ (o : Option (List ℕ)). unwrap_or o []) (sdta_first b)

  pdta_window : list_window PDTA (encode (lists b)) ≡ encode (pdta (tables_of b))
  unfolding list_window
  pdta_window =
      ap (λ (cs : List Chunk). unwrap_or (first_list PDTA cs) []) lists_are
      ∙ ap (λ (o : Option (List ℕ)). unwrap_or o []) (pdta_first b)

  info_is : chunks_of INFO (encode (lists b)) ≡ info b
  info_is = ap (λ (w : List ℕ). chunks_in (walk w)) info_window ∙ chunks_in-encode (info b) (info_small b v).fits

  sdta_is : chunks_of SDTA (encode (lists b)) ≡ sdta b
  sdta_is = ap (λ (w : List ℕ). chunks_in (walk w)) sdta_window ∙ chunks_in-encode (sdta b) (sdta_small b v).fits

  pdta_is : chunks_of PDTA (encode (lists b)) ≡ pdta (tables_of b)
  pdta_is =
      ap (λ (w : List ℕ). chunks_in (walk w)) pdta_window ∙ chunks_in-encode (pdta (tables_of b)) pdta_is_small.fits

  tables_are : tables_in (chunks_of PDTA (encode (lists b))) ≡ tables_of b
  tables_are = ap tables_in pdta_is ∙ tables-again (tables_of b) (tables_fit b v f) (tables_count b v)

  -- ---- the checks

  frame_holds : first_fault (frame_checks (canon b)) ≡ None
  frame_holds =
      ap (λ (file : List ℕ). first_fault (frame_checks file)) canon_is
      ∙ form_holds SFBK (encode (lists b)) ids.1 form_small NotRiff Truncated NotSfbk

  lists_hold : first_fault (list_checks (encode (lists b))) ≡ None
  unfolding list_checks
  lists_hold =
      let w0 : is_whole (walk (encode (lists b))) ≡ true = is_whole-encode (lists b) lists_small.fits in
      let f1 : is_some (first_list INFO (chunks_in (walk (encode (lists b))))) ≡ true =
      ap (λ (cs : List Chunk). is_some (first_list INFO cs)) lists_are
      ∙ ap (λ (o : Option (List ℕ)). is_some o) (info_first b) in
      let f2 : is_some (first_list SDTA (chunks_in (walk (encode (lists b))))) ≡ true =
      ap (λ (cs : List Chunk). is_some (first_list SDTA cs)) lists_are
      ∙ ap (λ (o : Option (List ℕ)). is_some o) (sdta_first b) in
      let f3 : is_some (first_list PDTA (chunks_in (walk (encode (lists b))))) ≡ true =
      ap (λ (cs : List Chunk). is_some (first_list PDTA cs)) lists_are
      ∙ ap (λ (o : Option (List ℕ)). is_some o) (pdta_first b) in
      let w1 : is_whole (walk (list_window INFO (encode (lists b)))) ≡ true =
      ap (λ (w : List ℕ). is_whole (walk w)) info_window ∙ is_whole-encode (info b) (info_small b v).fits in
      let w2 : is_whole (walk (list_window SDTA (encode (lists b)))) ≡ true =
      ap (λ (w : List ℕ). is_whole (walk w)) sdta_window ∙ is_whole-encode (sdta b) (sdta_small b v).fits in
      let w3 : is_whole (walk (list_window PDTA (encode (lists b)))) ≡ true =
      ap (λ (w : List ℕ). is_whole (walk w)) pdta_window
      ∙ is_whole-encode (pdta (tables_of b)) pdta_is_small.fits in
      rw (w0, f1, f2, f3, w1, w2, w3) refl

  window_holds : first_fault (window_checks (encode (lists b))) ≡ None
  unfolding window_checks
  window_holds =
      then_none (list_checks (encode (lists b))) _ lists_hold
      ((λ i. first_fault (content_checks (info_is i) (sdta_is i) (pdta_is i) (tables_are i)))
      ∙ content_steps_hold b v f)

  pub fault-again : fault_of (canon b) ≡ None
  unfolding checks
  fault-again =
      then_none (frame_checks (canon b)) _ frame_holds
      (ap (λ (w : List ℕ). first_fault (window_checks w)) window_is ∙ window_holds)

  same_content : content_in (window (canon b)) ≡ content b
  unfolding content_in
  same_content =
      ap content_in window_is
      ∙ (λ i. content_of (info_is i) (sdta_is i) (tables_are i))
      ∙ content-again b v f

  -- a canonical file reads as its bank, with all counts zero
  pub reads-again : ReadsAs (canon b) b no_counts
  reads-again = (fault-again, same_content)
