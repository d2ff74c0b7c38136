-- The chunks of a bank read as that bank, with all counts zero.
use Rattle.std.proofs.Common.{◌≡◌, ◌+◌, ℕ, List, [], ◌∷◌, length, map, Option, None, refl, ap, ◌∙◌, arith, is_some}
use Rattle.std.specs.Prelude.{flat_map, count_by}
use Rattle.std.proofs.lemmas.List.{length-append}
use Rattle.std.proofs.lemmas.List.Sums.{sum_by-cons}
use Rattle.sample_view.proofs.WordLaws.{words_of_bytes}
use Rattle.riff_chunks.specs.Finding.{first_body}
use Rattle.bank_parts.specs.Valid.{IsValid, point_total}
use Rattle.bank_parts.specs.Fits.{Fits}
use Rattle.bank_parts.specs.declared.parts.Sample.{Sample}
use Rattle.bank_parts.specs.declared.parts.Parts.{Parts}
use Rattle.hydra_records.specs.declared.head.SampleHead.{SampleHead}
use Rattle.bank_format.specs.Ids.{SMPL, SM24}
use Rattle.bank_format.specs.Windows.{without_terminal}
use Rattle.bank_format.specs.Tables.{tables_of, all_points, points_written, sample_heads_from, sample_end}
use Rattle.bank_format.specs.Samples.{sample_read, is_loop_lost, is_link_lost}
use Rattle.bank_format.specs.Canon.{info, sdta}
use Rattle.bank_format.specs.Chunks.{points_in}
use Rattle.bank_format.specs.Reading.{samples_read, bank_of, counts_of, no_counts, Content, content_of}
use Rattle.bank_format.proofs.CountLaws.{one_if}
use Rattle.bank_format.proofs.TextLaws.{texts-again, texts_counted, minor-again}
use Rattle.bank_format.proofs.WindowLaws.{without_terminal-push}
use Rattle.bank_format.proofs.TableLaws.{all_presets-again, all_instruments-again, zones_counted, gens_counted}
use Rattle.bank_format.proofs.TableLaws.{ranges_counted}
use Rattle.bank_format.proofs.SampleLaws.{length-sample_heads, length-points_written, samples-again, loops_counted}
use Rattle.bank_format.proofs.SampleLaws.{links_counted}

-- ---- points

pub points-again : (b : Parts) → points_in (sdta b) ≡ all_points b
unfolding points_in sdta SMPL
points-again b = words_of_bytes (all_points b)

length-flat_points : (ss : List Sample) → length (flat_map points_written ss) ≡ point_total ss
length-flat_points [] = refl
length-flat_points (s ∷ ss) =
    let a = length-append (points_written s) (flat_map points_written ss) in
    let one = length-points_written s in
    let rest = length-flat_points ss in
    let w = sum_by-cons (λ (s : Sample). length s.points + 46) s ss in
    omega (arith, a, one, rest, w)

pub length-all_points : (b : Parts) → length (all_points b) ≡ point_total b.samples
unfolding all_points
length-all_points b = length-flat_points b.samples

pub without_terminal-shdr : (b : Parts) → without_terminal (tables_of b).shdr ≡ sample_heads_from 0 b.samples
unfolding tables_of
without_terminal-shdr b = without_terminal-push (sample_heads_from 0 b.samples) sample_end

-- ---- the bank and the counts

samples_are : (b : Parts) → IsValid b → samples_read (points_in (sdta b)) (without_terminal (tables_of b).shdr) ≡ b.samples
unfolding all_points
samples_are b v =
    let n : length (sample_heads_from 0 b.samples) ≡ length b.samples = length-sample_heads 0 b.samples in
    (λ i. samples_read (points-again b i) (without_terminal-shdr b i))
    ∙ ap (λ (k : ℕ). map (sample_read k (all_points b)) (sample_heads_from 0 b.samples)) n
    ∙ samples-again (length b.samples) [] b.samples v.samples

pub bank-again : (b : Parts) → IsValid b → Fits b → bank_of (info b) (sdta b) (tables_of b) ≡ b
unfolding bank_of
bank-again b v f =
    let minor = minor-again b v.texts f.minor in
    let texts = texts-again b v.texts in
    let presets = all_presets-again b v in
    let instruments = all_instruments-again b v in
    let samples = samples_are b v in
    λ i.
    record
    { minor = minor i; texts = texts i; presets = presets i; instruments = instruments i; samples = samples i }

no_sm24 : (b : Parts) → first_body SM24 (sdta b) ≡ None
unfolding sdta SMPL SM24
no_sm24 b = refl

counts-again : (b : Parts) → IsValid b → counts_of (info b) (sdta b) (tables_of b) ≡ no_counts
unfolding counts_of
counts-again b v =
    let n : length (without_terminal (tables_of b).shdr) ≡ length b.samples =
    ap length (without_terminal-shdr b) ∙ length-sample_heads 0 b.samples in
    let texts = texts_counted b v.texts in
    let sm24 = ap (λ (o : Option (List ℕ)). one_if (is_some o)) (no_sm24 b) in
    let zones = zones_counted b v in
    let gens = gens_counted b v in
    let ranges = ranges_counted b v in
    let loops =
    ap (λ (hs : List SampleHead). count_by is_loop_lost hs) (without_terminal-shdr b)
    ∙ loops_counted (length b.samples) 0 b.samples v.samples in
    let links : count_by (is_link_lost (length (without_terminal (tables_of b).shdr))) (without_terminal (tables_of b).shdr) ≡ 0 =
    (λ i. count_by (is_link_lost (n i)) (without_terminal-shdr b i)) ∙ links_counted (length b.samples) 0 b.samples v.samples in
    λ i.
    record {
      texts =
          texts i;
      sm24 =
          sm24 i;
      zones = zones i;
      gens = gens i;
      ranges = ranges i;
      loops = loops i;
      links = links i;
    }

abbrev pub content : Parts → Content
content b = record { bank = b; counts = no_counts }

pub content-again : (b : Parts) → IsValid b → Fits b → content_of (info b) (sdta b) (tables_of b) ≡ content b
content-again b v f = let x = bank-again b v f in let y = counts-again b v in λ i. record { bank = x i; counts = y i }
