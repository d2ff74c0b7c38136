-- The sample read from a sample header is valid, and its fields are in range.
use Rattle.std.proofs.Common.{◌≡◌, ◌≤◌, ◌<◌, ◌+◌, ◌-◌, ◌/◌, ◌%◌, ℕ, Bool, true, false, cond, eqb, leb, ltb, ◌&&◌}
use Rattle.std.proofs.Common.{List, [], ◌∷◌, length, drop, map, Option, Some, None, refl, arith}
use Rattle.std.specs.Prelude.{sum_by}
use Rattle.std.specs.List.{AllByRecursion, slice_range}
use Rattle.std.proofs.lemmas.Bool.{ltb-true, leb-true, and_parts}
use Rattle.std.proofs.lemmas.List.{length-take, length-drop}
use Rattle.std.proofs.lemmas.List.Sums.{sum_by-cons}
use Rattle.sample_view.specs.Words.{AreWords}
use Rattle.sample_view.proofs.WordLaws.{AreWords-take, AreWords-drop}
use Rattle.bank_parts.specs.Valid.{IsSample, IsLoop, IsLink, point_total}
use Rattle.bank_parts.specs.Fits.{FitsLoop, FitsKind, FitsSample}
use Rattle.bank_parts.specs.declared.parts.Kind.{Kind}
use Rattle.bank_parts.specs.declared.parts.Kind.TheVariants.{Mono, Right, Left, Linked}
use Rattle.bank_parts.specs.declared.parts.Sample.{Sample}
use Rattle.hydra_records.specs.declared.head.SampleHead.{SampleHead}
use Rattle.hydra_records.specs.Fits.{FitsSampleHead}
use Rattle.hydra_records.specs.Records.{AreBytes, ReadFits, records}
use Rattle.hydra_records.specs.Encoding.{sample_head_of}
use Rattle.hydra_records.proofs.RecordTypeLaws.{sample_head_lawful}
use Rattle.hydra_records.proofs.RecordLaws.{records-fit}
use Rattle.bank_format.specs.FaultChecks.{first_fault}
use Rattle.bank_format.specs.Samples.{has_loop, loop_read, link_read, kind_read, sample_read}
use Rattle.bank_format.specs.ReadChecks.{sample_checks, total_checks}
use Rattle.bank_format.proofs.CheckLaws.{split_none}
use Rattle.bank_format.proofs.ReadBytes.{take_bytes}
use Rattle.bank_format.proofs.ReadTexts.{name_valid}

-- a header read from bytes
pub record ReadHead (h : SampleHead) : Type 0 where
  pub fits : FitsSampleHead h
  pub name : AreBytes h.name

head_read : ReadFits 46 sample_head_of ReadHead
unfolding sample_head_of
head_read bytes b e = record { fits = sample_head_lawful.read_fits bytes b e; name = take_bytes 20 bytes b }

pub heads_read : (bytes : List ℕ) → AreBytes bytes → AllByRecursion ReadHead (records 46 sample_head_of bytes)
heads_read = records-fit 46 sample_head_of ReadHead head_read

-- a header that passes its checks
pub record GoodHead (points : ℕ) (h : SampleHead) : Type 0 where
  pub order : h.start ≤ h.end
  pub inside : h.end ≤ points

pub good_head : (points : ℕ) (h : SampleHead) → first_fault (sample_checks points h) ≡ None → GoodHead points h
unfolding sample_checks
good_head points h e =
    let kind = split_none (eqb (h.kind / 16 % 2) 0) _ _ e in
    let rom = split_none (eqb (h.kind / 32768 % 2) 0) _ _ kind.1 in
    let range = split_none (leb h.start h.end && leb h.end points) _ _ rom.1 in
    let both = and_parts (leb h.start h.end) (leb h.end points) range.0 in
    record { order = leb-true _ _ both.0; inside = leb-true _ _ both.1 }

length-range : (points : List ℕ) (a b : ℕ) → a ≤ b → b ≤ length points → length (slice_range points a b) ≡ b - a
length-range points a b le inside = omega (arith, length-take (b - a) (drop a points), length-drop a points)

-- ---- the loop and the kind

module _ (P : Option (ℕ × ℕ) → Type 0) (h : SampleHead) where
  loop_has : P None → (has_loop h ≡ true → P (Some (h.loop_start - h.start, h.loop_end - h.start))) → P (loop_read h)
  unfolding loop_read
  loop_has none some = by_test (has_loop h) refl
    where
      by_test : (b : Bool) → has_loop h ≡ b → P (cond b (Some (h.loop_start - h.start, h.loop_end - h.start)) None)
      by_test false t = none
      by_test true t = some t

loop_valid : (n : ℕ) (h : SampleHead) → n ≡ h.end - h.start → IsLoop n (loop_read h)
loop_valid n h e = loop_has (IsLoop n) h tt (λ t.
    let last = and_parts (leb h.start h.loop_start && ltb h.loop_start h.loop_end) (leb h.loop_end h.end) t in
    let first = and_parts (leb h.start h.loop_start) (ltb h.loop_start h.loop_end) last.0 in
    let p = leb-true _ _ first.0 in
    let q = ltb-true _ _ first.1 in
    let r = leb-true _ _ last.1 in
    (omega (arith, p, q), omega (arith, p, q, r, e)))

loop_fits : (h : SampleHead) → FitsSampleHead h → FitsLoop (loop_read h)
loop_fits h f =
    let s = f.loop_start in let e = f.loop_end in loop_has FitsLoop h tt (λ t. (omega (arith, s), omega (arith, e)))

module _ (P : Kind → Type 0) (mono : P Mono) (n : ℕ) where
  link_has : (kind : ℕ → Kind) (link : ℕ) → (link < n → P (kind link)) → P (link_read n kind link)
  link_has kind link h = by_test (ltb link n) refl
    where
      by_test : (b : Bool) → ltb link n ≡ b → P (cond b (kind link) Mono)
      by_test true t = h (ltb-true _ _ t)
      by_test false t = mono

  choose : (b : Bool) (x y : Kind) → P x → P y → P (cond b x y)
  choose true x y p q = p
  choose false x y p q = q

  kind_has : (h : SampleHead) → (h.link < n → P (Right h.link)) → (h.link < n → P (Left h.link))
      → (h.link < n → P (Linked h.link)) → P (kind_read n h)
  unfolding kind_read
  kind_has h right left linked =
      choose (eqb h.kind 2) _ _ (link_has Right h.link right)
      (choose (eqb h.kind 4) _ _ (link_has Left h.link left)
      (choose (eqb h.kind 8) (link_read n Linked h.link) Mono (link_has Linked h.link linked) mono))

-- ---- the sample

pub sample_valid : (n : ℕ) (points : List ℕ) (h : SampleHead) → ReadHead h → GoodHead (length points) h
    → IsSample n (sample_read n points h)
unfolding sample_read
sample_valid n points h r g =
    let len = length-range points h.start h.end g.order g.inside in
    record {
      name = name_valid h.name r.name r.fits.name;
      looped = loop_valid (length (slice_range points h.start h.end)) h len;
      kind = kind_has (IsLink n) tt n h (λ p. p) (λ p. p) (λ p. p);
    }

pub sample_fits : (n : ℕ) (points : List ℕ) (h : SampleHead) → AreWords points → ReadHead h
    → FitsSample (sample_read n points h)
unfolding sample_read
sample_fits n points h w r = record {
  name = name_valid h.name r.name r.fits.name;
  points = AreWords-take (h.end - h.start) (drop h.start points) (AreWords-drop h.start points w);
  looped = loop_fits h r.fits;
  rate = r.fits.rate;
  key = r.fits.key;
  correction = r.fits.correction;
  kind = kind_has FitsKind tt n h (λ p. r.fits.link) (λ p. r.fits.link) (λ p. r.fits.link);
}

-- ---- all samples

pub samples_valid : (n : ℕ) (points : List ℕ) (hs : List SampleHead) → AllByRecursion ReadHead hs
    → AllByRecursion (GoodHead (length points)) hs
    → AllByRecursion (IsSample n) (map (sample_read n points) hs)
samples_valid n points [] r g = tt
samples_valid n points (h ∷ hs) r g = (sample_valid n points h r.0 g.0, samples_valid n points hs r.1 g.1)

pub samples_fit : (n : ℕ) (points : List ℕ) (hs : List SampleHead) → AreWords points → AllByRecursion ReadHead hs
    → AllByRecursion FitsSample (map (sample_read n points) hs)
samples_fit n points [] w r = tt
samples_fit n points (h ∷ hs) w r = (sample_fits n points h w r.0, samples_fit n points hs w r.1)

abbrev head_size : SampleHead → ℕ
head_size h = h.end - h.start + 46

pub point_total-read : (n : ℕ) (points : List ℕ) (hs : List SampleHead) → AllByRecursion (GoodHead (length points)) hs
    → point_total (map (sample_read n points) hs) ≡ sum_by head_size hs
unfolding sample_read
point_total-read n points [] g = refl
point_total-read n points (h ∷ hs) g =
    let len = length-range points h.start h.end g.0.order g.0.inside in
    let rest = point_total-read n points hs g.1 in
    let old = sum_by-cons head_size h hs in
    let new =
    sum_by-cons (λ (s : Sample). length s.points + 46) (sample_read n points h) (map (sample_read n points) hs)
    in
    omega (arith, len, rest, old, new)

pub total_small : (hs : List SampleHead) → first_fault (total_checks hs) ≡ None → sum_by head_size hs ≤ 500000000
unfolding total_checks
total_small hs e = leb-true _ _ (split_none (leb (sum_by head_size hs) 500000000) _ _ e).0
