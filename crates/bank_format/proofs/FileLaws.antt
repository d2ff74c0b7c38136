-- The chunks of a bank pass every check, and their lengths fit in the 32-bit size fields.
use Rattle.std.proofs.Common.{◌≡◌, ◌≤◌, ◌<◌, ◌+◌, ◌%◌, ◌^◌, ℕ, Bool, true, false, cond, eqb, List, [], ◌∷◌, ◌++◌}
use Rattle.std.proofs.Common.{length, replicate, None, refl, ap, ◌∙◌, arith}
use Rattle.std.specs.Prelude.{flat_map}
use Rattle.std.specs.List.{AllByRecursion}
use Rattle.std.proofs.lemmas.Bool.{eq-eqb}
use Rattle.std.proofs.lemmas.List.{length-append, length-replicate}
use Rattle.sample_view.specs.Words.{word_bytes}
use Rattle.sample_view.proofs.WordLaws.{length-word_bytes}
use Rattle.riff_chunks.specs.Walk.{Chunk}
use Rattle.riff_chunks.specs.Encoding.{chunk, encode, FitsChunk}
use Rattle.riff_chunks.proofs.EncodingLaws.{length-chunk}
use Rattle.bank_parts.specs.Valid.{IsValid, point_total}
use Rattle.bank_parts.specs.Fits.{Fits}
use Rattle.bank_parts.specs.declared.parts.Parts.{Parts}
use Rattle.hydra_records.specs.declared.head.SampleHead.{SampleHead}
use Rattle.hydra_records.specs.Encoding.{preset_head_bytes, bag_bytes, modulator_bytes, generator_bytes}
use Rattle.hydra_records.specs.Encoding.{instrument_head_bytes, sample_head_bytes}
use Rattle.bank_format.specs.Ids.{IFIL, ISNG, INAM, ICRD, IENG, IPRD, ICOP, ICMT, ISFT, SMPL, PHDR, PBAG, PMOD, PGEN}
use Rattle.bank_format.specs.Ids.{INST, IBAG, IMOD, IGEN, SHDR}
use Rattle.bank_format.specs.FaultChecks.{first_fault}
use Rattle.bank_format.specs.Windows.{without_terminal}
use Rattle.bank_format.specs.Tables.{Tables, tables_of, all_points}
use Rattle.bank_format.specs.Texts.{text_body}
use Rattle.bank_format.specs.Canon.{chunk_of, text_chunk_if, version, info, sdta, pdta}
use Rattle.bank_format.specs.Chunks.{points_in}
use Rattle.bank_format.specs.Reading.{bank_of}
use Rattle.bank_format.specs.ReadChecks.{chunk_checks, size_checks, count_checks, point_checks, all_index_checks}
use Rattle.bank_format.specs.ReadChecks.{sample_checks, target_checks, total_checks, content_checks}
use Rattle.bank_format.proofs.CheckLaws.{then_none}
use Rattle.bank_format.proofs.SampleLaws.{sample_steps_hold, total_steps_hold}
use Rattle.bank_format.proofs.IndexChecks.{index_steps_hold, target_steps_hold}
use Rattle.bank_format.proofs.BankLaws.{points-again, length-all_points, without_terminal-shdr, bank-again}
use Rattle.bank_format.proofs.PdtaLaws.{Measured, measured, TablesCount, tables_fit, tables_count, count_steps_hold}
use Rattle.bank_format.proofs.PdtaLaws.{size_steps_hold}

-- ---- the checks of the chunks

chunk_steps_hold : (b : Parts) (t : Tables) → first_fault (chunk_checks (info b) (pdta t)) ≡ None
unfolding chunk_checks info pdta IFIL PHDR PBAG PMOD PGEN INST IBAG IMOD IGEN SHDR
chunk_steps_hold b t = refl

point_steps_hold : (b : Parts) → first_fault (point_checks (sdta b)) ≡ None
unfolding point_checks sdta SMPL
point_steps_hold b =
    let l = length-word_bytes (all_points b) in
    let even : eqb (length (flat_map word_bytes (all_points b)) % 2) 0 ≡ true = eq-eqb _ _ (omega (arith, l)) in
    rw even refl

pub content_steps_hold : (b : Parts) → IsValid b → Fits b
    → first_fault (content_checks (info b) (sdta b) (pdta (tables_of b)) (tables_of b)) ≡ None
unfolding content_checks
content_steps_hold b v f =
    let n = length (points_in (sdta b)) in
    let ln : n ≡ point_total b.samples = ap length (points-again b) ∙ length-all_points b in
    let samples : first_fault (flat_map (sample_checks n) (without_terminal (tables_of b).shdr)) ≡ None =
    ap (λ (hs : List SampleHead). first_fault (flat_map (sample_checks n) hs)) (without_terminal-shdr b)
    ∙ sample_steps_hold n 0 b.samples (omega (arith, ln)) in
    let targets : first_fault (target_checks (bank_of (info b) (sdta b) (tables_of b))) ≡ None =
    ap (λ (x : Parts). first_fault (target_checks x)) (bank-again b v f) ∙ target_steps_hold b v in
    let totals : first_fault (total_checks (without_terminal (tables_of b).shdr)) ≡ None =
    ap (λ (hs : List SampleHead). first_fault (total_checks hs)) (without_terminal-shdr b)
    ∙ total_steps_hold 0 b.samples v.limits.points in
    then_none (chunk_checks (info b) (pdta (tables_of b))) _ (chunk_steps_hold b (tables_of b))
    (then_none (size_checks (pdta (tables_of b))) _
    (size_steps_hold (tables_of b) (measured (tables_of b) (tables_fit b v f)))
    (then_none (count_checks (tables_of b)) _ (count_steps_hold (tables_of b) (tables_count b v))
    (then_none (point_checks (sdta b)) _ (point_steps_hold b)
    (then_none (all_index_checks (tables_of b)) _ (index_steps_hold b)
    (then_none (flat_map (sample_checks n) (without_terminal (tables_of b).shdr)) _ samples
    (then_none (target_checks (bank_of (info b) (sdta b) (tables_of b))) _ targets totals))))))

-- ---- sizes

length-spell_cons : (name body : List ℕ) (cs : List Chunk) → length name ≡ 4
    → length (encode (chunk_of name body ∷ cs)) ≤ 9 + length body + length (encode cs)
length-spell_cons name body cs e =
    let l = length-chunk name body e in let a = length-append (chunk name body) (encode cs) in omega (arith, l, a)

length-text_body : (x : List ℕ) → length (text_body x) ≤ length x + 2
length-text_body x =
    let a = length-append x (replicate (cond (eqb (length x % 2) 1) 1 2) 0) in
    let r = length-replicate {A = ℕ} (cond (eqb (length x % 2) 1) 1 2) 0 in
    let c = two (eqb (length x % 2) 1) in
    omega (arith, a, r, c)
  where
    two : (b : Bool) → cond b 1 2 ≤ 2
    two true = omega arith
    two false = omega arith

-- chunks whose sizes fit in 32 bits, and whose total length is at most `most`
pub record Small (most : ℕ) (cs : List Chunk) : Type 0 where
  pub fits : AllByRecursion FitsChunk cs
  pub small_enough : length (encode cs) ≤ most

pub small_cons : (name body : List ℕ) (cs : List Chunk) (most n : ℕ) → length name ≡ 4 → length body ≤ n → n < 2 ^ 32
    → Small most cs → Small (9 + n + most) (chunk_of name body ∷ cs)
small_cons name body cs most n e le lt s =
    let a = length-spell_cons name body cs e in
    let r = s.small_enough in
    record { fits = (record { id = e; body = omega (arith, le, lt) }, s.fits); small_enough = omega (arith, a, r, le) }

small_if : (name x : List ℕ) (cs : List Chunk) (most n : ℕ) → length name ≡ 4 → length x ≤ n → n < 2 ^ 31
    → Small most cs → Small (11 + n + most) (text_chunk_if name x ++ cs)
small_if name [] cs most n e le lt s =
    let r = s.small_enough in record { fits = s.fits; small_enough = omega (arith, r) }
small_if name (c ∷ x) cs most n e le lt s =
    let k = length-text_body (c ∷ x) in
    let made_small =
    small_cons name (text_body (c ∷ x)) cs most (n + 2) e (omega (arith, k, le)) (omega (arith, lt)) s in
    let r = made_small.small_enough in
    record { fits = made_small.fits; small_enough = omega (arith, r) }

pub small_none : Small 0 []
small_none = record { fits = tt; small_enough = omega arith }

pub info_small : (b : Parts) → IsValid b → Small 80000 (info b)
unfolding info IFIL ISNG INAM ICRD IENG IPRD ICOP ICMT ISFT
info_small b v =
    let x = v.texts in
    let s1 = small_if ISFT b.texts.software [] 0 255 refl x.software.0 (omega arith) small_none in
    let s2 = small_if ICMT b.texts.comment _ _ 65535 refl x.comment.0 (omega arith) s1 in
    let s3 = small_if ICOP b.texts.copyright _ _ 255 refl x.copyright.0 (omega arith) s2 in
    let s4 = small_if IPRD b.texts.product _ _ 255 refl x.product.0 (omega arith) s3 in
    let s5 = small_if IENG b.texts.engineers _ _ 255 refl x.engineers.0 (omega arith) s4 in
    let s6 = small_if ICRD b.texts.date _ _ 255 refl x.date.0 (omega arith) s5 in
    let k1 = length-text_body b.texts.name in
    let k2 = length-text_body b.texts.engine in
    let l1 = x.name.0 in
    let l2 = x.engine.0 in
    let s7 = small_cons INAM (text_body b.texts.name) _ _ 257 refl (omega (arith, k1, l1)) (omega arith) s6 in
    let s8 = small_cons ISNG (text_body b.texts.engine) _ _ 257 refl (omega (arith, k2, l2)) (omega arith) s7 in
    let s9 = small_cons IFIL (version b) _ _ 4 refl (omega arith) (omega arith) s8 in
    let r = s9.small_enough in
    record { fits = s9.fits; small_enough = omega (arith, r) }

pub sdta_small : (b : Parts) → IsValid b → Small 1000000100 (sdta b)
unfolding sdta SMPL
sdta_small b v =
    let l = length-word_bytes (all_points b) in
    let p = length-all_points b in
    let w = v.limits.points in
    let s =
    small_cons SMPL (flat_map word_bytes (all_points b)) [] 0 1000000000 refl (omega (arith, l, p, w))
    (omega arith) small_none in
    let r = s.small_enough in
    record { fits = s.fits; small_enough = omega (arith, r) }

pub pdta_small : (t : Tables) → Measured t → TablesCount t → Small 20000000 (pdta t)
unfolding pdta PHDR PBAG PMOD PGEN INST IBAG IMOD IGEN SHDR
pdta_small t m c =
    let a1 = m.phdr in
    let c1 = c.phdr.1 in let a2 = m.pbag in let c2 = c.pbag.1 in let a3 = m.pmod in let c3 = c.pmod.1 in
    let a4 = m.pgen in
    let c4 = c.pgen.1 in let a5 = m.inst in let c5 = c.inst.1 in let a6 = m.ibag in let c6 = c.ibag.1 in
    let a7 = m.imod in
    let c7 = c.imod.1 in let a8 = m.igen in let c8 = c.igen.1 in let a9 = m.shdr in let c9 = c.shdr.1 in
    let s9 =
    small_cons SHDR (flat_map sample_head_bytes t.shdr) [] 0 3014656 refl (omega (arith, a9, c9)) (omega arith)
    small_none in
    let s8 =
    small_cons IGEN (flat_map generator_bytes t.igen) _ _ 262144 refl (omega (arith, a8, c8)) (omega arith) s9 in
    let s7 =
    small_cons IMOD (flat_map modulator_bytes t.imod) _ _ 655360 refl (omega (arith, a7, c7)) (omega arith) s8 in
    let s6 = small_cons IBAG (flat_map bag_bytes t.ibag) _ _ 262144 refl (omega (arith, a6, c6)) (omega arith) s7 in
    let s5 =
    small_cons INST (flat_map instrument_head_bytes t.inst) _ _ 1441792 refl (omega (arith, a5, c5))
    (omega arith) s6 in
    let s4 =
    small_cons PGEN (flat_map generator_bytes t.pgen) _ _ 262144 refl (omega (arith, a4, c4)) (omega arith) s5 in
    let s3 =
    small_cons PMOD (flat_map modulator_bytes t.pmod) _ _ 655360 refl (omega (arith, a3, c3)) (omega arith) s4 in
    let s2 = small_cons PBAG (flat_map bag_bytes t.pbag) _ _ 262144 refl (omega (arith, a2, c2)) (omega arith) s3 in
    let s1 =
    small_cons PHDR (flat_map preset_head_bytes t.phdr) _ _ 2490368 refl (omega (arith, a1, c1)) (omega arith) s2
    in
    let r = s1.small_enough in
    record { fits = s1.fits; small_enough = omega (arith, r) }
