-- The raw changes of one sample: each keeps a bank sound, and can be undone.
use Rattle.std.proofs.Common.{◌≡◌, ◌<◌, ◌≤◌, ◌+◌, ◌-◌, ◌++◌, ◌^◌, ℕ, nat_lt, true, false, List, [], ◌∷◌, zero, suc}
use Rattle.std.proofs.Common.{length, take, drop, Option, Some, None, Result, Ok, Err, OnErr, if◌then◌else◌, refl}
use Rattle.std.proofs.Common.{sym, ◌∙◌, ap, arith}
use Rattle.std.specs.Prelude.{slice_get, slice_set, slice_range, IfSome}
use Rattle.std.specs.Option.{option_map}
use Rattle.std.proofs.lemmas.Bool.Decides.{nat_tests}
use Rattle.std.proofs.lemmas.List.{length-append, length-take, length-take-le, length-drop, take-append-drop}
use Rattle.std.proofs.lemmas.List.{append_assoc, take_at, drop_at}
use Rattle.std.proofs.lemmas.List.Folds.{drop_split}
use Rattle.std.proofs.lemmas.List.Sums.{sum_by-cons}
use Rattle.std.proofs.lemmas.List.Elements.{All-append, All-take, All-drop, All-from_recursion, recursion_from_All}
use Rattle.sf_base.specs.declared.limits.TheConstants.{POINTS, ZERO_POINTS}
use Rattle.sample_view.specs.Words.{AreWords}
use Rattle.base_numbered_lists.specs.Moved.{changed}
use Rattle.base_numbered_lists.proofs.Lists.{slice_get-found, slice_get-changed, slice_set_same, length-slice_set}
use Rattle.base_numbered_lists.proofs.Lists.{changed-found}
use Rattle.bank_parts.specs.declared.parts.Sample.{Sample}
use Rattle.bank_parts.specs.declared.parts.Parts.{Parts}
use Rattle.bank_parts.specs.Counts.{counted}
use Rattle.bank_parts.specs.Valid.{IsSample, IsLoop, point_total}
use Rattle.bank_parts.specs.Fits.{FitsSample, FitsLoop}
use Rattle.bank_parts.specs.Sound.{IsSound}
use Rattle.bank_validity.specs.declared.totals.Totals.{Totals}
use Rattle.bank_validity.specs.declared.limits.Limit.TheVariants as limit
use Rattle.bank_validity.specs.Limits.{totals_of, broken, broken_limit}
use Rattle.bank_validity.proofs.LimitLaws.{AreWithin, within_totals, not_over, broken_points, limits_of, no_limit_of}
use Rattle.bank_changes.specs.Points.{points_of, trimmed, extended, sample_changed, sample_trimmed, sample_extended}
use Rattle.bank_changes.proofs.Changes.{all_set, all_found, sum-exchanged}

-- after a failed allocation the bank is unchanged
pub stays : {A B : Type 0} (b : Parts) (i : ℕ) (r : Result A B) (s new : Sample) → slice_get b.samples i ≡ Some s
    → OnErr r (new ≡ s)
    → OnErr r ((let t : Parts = record b { samples = slice_set b.samples i new } in t) ≡ b)
stays b i (Ok x) s new e h = h
stays b i (Err x) s new e h =
    ap (λ (ss : List Sample). record b { samples = ss }) (rw h (slice_set_same b.samples i s e))

-- one sample has no more points than all samples together
pub among : (samples : List Sample) (i : ℕ) (s : Sample) → slice_get samples i ≡ Some s
    → length s.points ≤ point_total samples
among [] i s e = cc
among (z ∷ zs) zero s e =
    let here : z ≡ s = cc in
    let whole = sum_by-cons (λ (t : Sample). length t.points + ZERO_POINTS) z zs in
    let same = ap (λ (t : Sample). length t.points) here in
    omega (arith, whole, same)
among (z ∷ zs) (suc i) s e =
    let whole = sum_by-cons (λ (t : Sample). length t.points + ZERO_POINTS) z zs in
    let rest = among zs i s e in
    omega (arith, whole, rest)

-- ---- a sample changed by f

pub there_valid : (b : Parts) (i : ℕ) (s : Sample) → slice_get b.samples i ≡ Some s → IsSound b
    → IsSample (length b.samples) s
there_valid b i s e sound = all_found (IsSample (length b.samples)) b.samples i s e sound.valid.samples

pub there_fits : (b : Parts) (i : ℕ) (s : Sample) → slice_get b.samples i ≡ Some s → IsSound b → FitsSample s
there_fits b i s e sound = all_found FitsSample b.samples i s e sound.fits.samples

module _ (b : Parts) (i : ℕ) (f : Sample → Sample) (s : Sample) (e : slice_get b.samples i ≡ Some s) where
  is : changed b.samples i f ≡ slice_set b.samples i (f s)
  is = changed-found b.samples i f s e

  pub length-sample_changed : length (changed b.samples i f) ≡ length b.samples
  length-sample_changed = rw is (length-slice_set b.samples i (f s))

  points_then : point_total (changed b.samples i f) + length s.points ≡ point_total b.samples + length (f s).points
  points_then =
      rw is
      (let h =
      sum-exchanged (λ (t : Sample). length t.points + ZERO_POINTS) b.samples i s (f s) e in omega (arith, h))

  pub totals-changed : (p : ℕ) → p + length s.points ≡ point_total b.samples + length (f s).points
      → totals_of (sample_changed b i f) ≡ (let t : Totals = record (totals_of b) { points = p } in t)
  unfolding totals_of
  totals-changed p h =
      let sum = points_then in
      let points : point_total (changed b.samples i f) ≡ p = omega (arith, sum, h) in
      λ k. record (totals_of b) { samples = length-sample_changed k; points = points k }

  -- f keeps the number of points
  pub totals-kept : length (f s).points ≡ length s.points → totals_of (sample_changed b i f) ≡ totals_of b
  unfolding totals_of
  totals-kept same = totals-changed (point_total b.samples) (ap (λ n. point_total b.samples + n) (sym same))

  pub changed_sound : IsSound b → IsSample (length b.samples) (f s) → FitsSample (f s)
      → broken_limit (sample_changed b i f) ≡ None → IsSound (sample_changed b i f)
  changed_sound sound valid fits within =
      let v = sound.valid in
      let g = sound.fits in
      record {
        valid = record {
          texts = v.texts;
          presets = v.presets;
          instruments = rw length-sample_changed v.instruments;
          samples =
              rw (length-sample_changed, is)
              (all_set (IsSample (length b.samples)) b.samples i (f s) valid v.samples);
          limits = limits_of (sample_changed b i f) within;
        };
        fits = record {
          minor = g.minor;
          texts = g.texts;
          presets = g.presets;
          instruments = g.instruments;
          samples = rw is (all_set FitsSample b.samples i (f s) fits g.samples);
        };
      }

-- f keeps the number of points
pub totals_stay : (b : Parts) (i : ℕ) (f : Sample → Sample) → i < length b.samples
    → ((s : Sample) → length (f s).points ≡ length s.points) → totals_of b ≡ totals_of (sample_changed b i f)
totals_stay b i f lt same =
    let (s, e) = slice_get-found b.samples i lt in sym (totals-kept b i f s e (same s))

-- ---- removal of points

-- no removed point belongs to the loop
abbrev pub OutsideLoop : ℕ → ℕ → ℕ → Option (ℕ × ℕ) → Type 0
OutsideLoop n front back None = Unit {0}
OutsideLoop n front back (Some ends) = (front ≤ ends.0) × (ends.1 + back ≤ n)

pub length-trimmed : (front back : ℕ) (s : Sample) → front + back ≤ length s.points
    → length (trimmed front back s).points + (front + back) ≡ length s.points
length-trimmed front back s le =
    omega (arith, le, length-take (length s.points - back - front) (drop front s.points), length-drop front s.points)

all_between : (points : List ℕ) (from to : ℕ) → AreWords points → AreWords (slice_range points from to)
all_between points from to h =
    let P : ℕ → Type 0 = λ p. p < 2 ^ 16 in
    recursion_from_All P (slice_range points from to)
    (All-take P (to - from) (drop from points) (All-drop P from points (All-from_recursion P points h)))

loop_trimmed : (n m front back : ℕ) (l : Option (ℕ × ℕ)) → m + (front + back) ≡ n → OutsideLoop n front back l
    → IsLoop n l → IsLoop m (option_map (λ (ends : ℕ × ℕ). (ends.0 - front, ends.1 - front)) l)
loop_trimmed n m front back None size out is = tt
loop_trimmed n m front back (Some ends) size out is = (omega arith, omega arith)

loop_trimmed_fits : (front : ℕ) (l : Option (ℕ × ℕ)) → FitsLoop l
    → FitsLoop (option_map (λ (ends : ℕ × ℕ). (ends.0 - front, ends.1 - front)) l)
loop_trimmed_fits front None h = tt
loop_trimmed_fits front (Some ends) h = (omega arith, omega arith)

module _ (b : Parts) (i front back : ℕ) (s : Sample) (e : slice_get b.samples i ≡ Some s)
    (le : front + back ≤ length s.points) where
  pub totals-trimmed : totals_of (sample_trimmed b i front back)
      ≡ (let t : Totals = record (totals_of b) { points = point_total b.samples - (front + back) } in t)
  totals-trimmed =
      let less = length-trimmed front back s le in
      let all = among b.samples i s e in
      totals-changed b i (trimmed front back) s e (point_total b.samples - (front + back))
      (omega (arith, less, all, le))

  pub within_trimmed : IsSound b → broken_limit (sample_trimmed b i front back) ≡ None
  unfolding totals_of
  within_trimmed sound =
      let w = within_totals (totals_of b) (no_limit_of b sound.valid.limits) in
      ap broken totals-trimmed
      ∙
      (broken_points (totals_of b) w (point_total b.samples - (front + back))
      ∙ rw (not_over POINTS (point_total b.samples - (front + back)) (omega arith)) refl)

  pub trimmed_sound : IsSound b → OutsideLoop (length s.points) front back s.looped
      → IsSound (sample_trimmed b i front back)
  trimmed_sound sound out =
      let v = there_valid b i s e sound in
      let g = there_fits b i s e sound in
      changed_sound b i (trimmed front back) s e sound
      (record {
        name =
            v.name;
        looped =
            loop_trimmed (length s.points) (length (trimmed front back s).points) front back s.looped
            (length-trimmed front back s le) out v.looped;
        kind =
            v.kind;
      })
      (record {
        name =
            g.name;
        points =
            all_between s.points front (length s.points - back) g.points;
        looped =
            loop_trimmed_fits front s.looped g.looped;
        rate =
            g.rate;
        key = g.key;
        correction = g.correction;
        kind = g.kind;
      })
      (within_trimmed sound)

-- ---- addition of points

pub length-extended : (front back : List ℕ) (s : Sample)
    → length (extended front back s).points ≡ length s.points + (length front + length back)
length-extended front back s = omega (arith, length-append (front ++ s.points) back, length-append front s.points)

all_joined : (front points back : List ℕ) → AreWords front → AreWords points → AreWords back
    → AreWords (front ++ points ++ back)
all_joined front points back h k l =
    let P : ℕ → Type 0 = λ p. p < 2 ^ 16 in
    recursion_from_All P (front ++ points ++ back)
    (All-append P (front ++ points) back
    (All-append P front points (All-from_recursion P front h) (All-from_recursion P points k))
    (All-from_recursion P back l))

loop_extended : (n m by : ℕ) (l : Option (ℕ × ℕ)) → n + by ≤ m → IsLoop n l
    → IsLoop m (option_map (λ (ends : ℕ × ℕ). (ends.0 + by, ends.1 + by)) l)
loop_extended n m by None size is = tt
loop_extended n m by (Some ends) size is =
    let order = is.0 in let high = is.1 in (omega (arith, order), omega (arith, size, high))

-- a loop within so few points fits its fields
pub loop_fits : (n : ℕ) (l : Option (ℕ × ℕ)) → n ≤ POINTS → IsLoop n l → FitsLoop l
loop_fits n None few is = tt
loop_fits n (Some ends) few is =
    let order = is.0 in let high = is.1 in (omega (arith, order, high, few), omega (arith, high, few))

module _ (b : Parts) (i : ℕ) (front back : List ℕ) (s : Sample) (e : slice_get b.samples i ≡ Some s) where
  pub totals-extended : totals_of (sample_extended b i front back)
      ≡
      (let t : Totals =
      record (totals_of b) { points = point_total b.samples + (length front + length back) } in t)
  totals-extended =
      let more = length-extended front back s in
      totals-changed b i (extended front back) s e (point_total b.samples + (length front + length back))
      (omega (arith, more))

  -- no more points than the limit
  pub few_points : broken_limit (sample_extended b i front back) ≡ None → length (extended front back s).points ≤ POINTS
  unfolding totals_of
  few_points within =
      let few = (limits_of (sample_extended b i front back) within).points in
      let all =
      among (changed b.samples i (extended front back)) i (extended front back s)
      (slice_get-changed b.samples i (extended front back) s e) in
      omega (arith, few, all)

  pub extended_sound : IsSound b → AreWords front → AreWords back
      → broken_limit (sample_extended b i front back) ≡ None → IsSound (sample_extended b i front back)
  extended_sound sound f k within =
      let v = there_valid b i s e sound in
      let g = there_fits b i s e sound in
      let more = length-extended front back s in
      let loop =
      loop_extended (length s.points) (length (extended front back s).points) (length front) s.looped
      (omega (arith, more)) v.looped in
      changed_sound b i (extended front back) s e sound
      (record { name = v.name; looped = loop; kind = v.kind })
      (record {
        name =
            g.name;
        points =
            all_joined front s.points back f g.points k;
        looped =
            loop_fits (length (extended front back s).points) (extended front back s).looped
            (few_points within) loop;
        rate =
            g.rate;
        key = g.key;
        correction = g.correction;
        kind = g.kind;
      })
      within

-- ---- what the code requires and keeps when points are added

module _ (b : Parts) (i : ℕ) (front back : List ℕ) (lt : i < length b.samples) where
  pub few_then : IsSound (sample_extended b i front back) → length front + length (points_of b i) + length back ≤ POINTS
  few_then sound =
      let (s, e) = slice_get-found b.samples i lt in
      let few = few_points b i front back s e (no_limit_of (sample_extended b i front back) sound.valid.limits) in
      let more = length-extended front back s in
      rw e (omega (arith, few, more))

  pub loop_then : IsSound (sample_extended b i front back)
      → IfSome (slice_get b.samples i)
      (λ (s : Sample). let longer : Sample = extended front back s in FitsLoop longer.looped)
  loop_then sound =
      let (s, e) = slice_get-found b.samples i lt in
      let fits =
      there_fits (sample_extended b i front back) i (extended front back s)
      (slice_get-changed b.samples i (extended front back) s e) sound in
      rw e fits.looped

  pub points_extended : point_total (changed b.samples i (extended front back))
      ≡ point_total b.samples + (length front + length back)
  unfolding totals_of
  points_extended =
      let (s, e) = slice_get-found b.samples i lt in ap (λ (u : Totals). u.points) (totals-extended b i front back s e)

  pub room_then : IsSound (sample_extended b i front back)
      → point_total b.samples + (length front + length back) ≤ POINTS
  room_then sound =
      let points = points_extended in
      let within = sound.valid.limits.points in
      omega (arith, points, within)

-- ---- the same when points are removed

module _ (b : Parts) (i front back : ℕ) (lt : i < length b.samples) (le : front + back ≤ length (points_of b i)) where
  pub had_points : front + back ≤ point_total b.samples
  had_points =
      let (s, e) = slice_get-found b.samples i lt in
      let inside : front + back ≤ length s.points = rw e at le in
      let all = among b.samples i s e in
      omega (arith, inside, all)

  pub points_trimmed : point_total (changed b.samples i (trimmed front back)) ≡ point_total b.samples - (front + back)
  unfolding totals_of
  points_trimmed =
      let (s, e) = slice_get-found b.samples i lt in
      let inside : front + back ≤ length s.points = rw e at le in
      ap (λ (u : Totals). u.points) (totals-trimmed b i front back s e inside)

-- ---- the limit of points

module _ (b : Parts) (sound : IsSound b) where
  w : AreWithin (totals_of b)
  w = within_totals (totals_of b) (no_limit_of b sound.valid.limits)

  module _ (more i : ℕ) (front back : List ℕ) (lt : i < length b.samples)
      (many : more ≡ counted (length front + length back)) where
    limit_found : broken_limit (sample_extended b i front back)
        ≡ (if nat_lt POINTS (point_total b.samples + (length front + length back)) then Some limit.Points else None)
    limit_found =
        let (s, e) = slice_get-found b.samples i lt in
        ap broken (totals-extended b i front back s e)
        ∙ broken_points (totals_of b) w (point_total b.samples + (length front + length back))

    pub points_full : POINTS - point_total b.samples < more
        → Some limit.Points ≡ broken_limit (sample_extended b i front back)
    points_full over =
        let few = sound.valid.limits.points in
        let past : nat_lt POINTS (point_total b.samples + (length front + length back)) ≡ true =
        grind (arith, nat_tests, few, many, over) in
        sym (limit_found ∙ rw past refl)

    pub points_fit : more ≤ POINTS - point_total b.samples → None ≡ broken_limit (sample_extended b i front back)
    points_fit room =
        let few = sound.valid.limits.points in
        let past : nat_lt POINTS (point_total b.samples + (length front + length back)) ≡ false =
        not_over POINTS (point_total b.samples + (length front + length back))
        (omega (arith, few, many, room)) in
        sym (limit_found ∙ rw past refl)

-- ---- undo

loop_returned : (n front back : ℕ) (l : Option (ℕ × ℕ)) → OutsideLoop n front back l → IsLoop n l
    → option_map (λ (ends : ℕ × ℕ). (ends.0 + front, ends.1 + front))
    (option_map (λ (ends : ℕ × ℕ). (ends.0 - front, ends.1 - front)) l)
    ≡ l
loop_returned n front back None out is = refl
loop_returned n front back (Some ends) out is =
    let first : ends.0 - front + front ≡ ends.0 = omega arith in
    let last : ends.1 - front + front ≡ ends.1 = omega arith in
    λ k. Some (first k, last k)

loop_back : (by : ℕ) (l : Option (ℕ × ℕ))
    → option_map (λ (ends : ℕ × ℕ). (ends.0 - by, ends.1 - by))
    (option_map (λ (ends : ℕ × ℕ). (ends.0 + by, ends.1 + by)) l)
    ≡ l
loop_back by None = refl
loop_back by (Some ends) =
    let first : ends.0 + by - by ≡ ends.0 = omega arith in
    let last : ends.1 + by - by ≡ ends.1 = omega arith in
    λ k. Some (first k, last k)

-- the points that a trim removes, added again
module _ (front back : ℕ) (s : Sample) (le : front + back ≤ length s.points) where
  whole : take front s.points ++ slice_range s.points front (length s.points - back)
      ++ drop (length s.points - back) s.points
      ≡ s.points
  whole =
      append_assoc (take front s.points) (slice_range s.points front (length s.points - back))
      (drop (length s.points - back) s.points)
      ∙ ap (λ rest. take front s.points ++ rest)
      (sym (drop_split s.points front (length s.points - back) (omega (arith, le))))
      ∙ take-append-drop front s.points

  pub length-front : length (take front s.points) ≡ front
  length-front = length-take-le front s.points (omega (arith, le))

  pub length-back : length (drop (length s.points - back) s.points) ≡ back
  length-back = omega (arith, le, length-drop (length s.points - back) s.points)

  pub trim_returned : OutsideLoop (length s.points) front back s.looped → IsLoop (length s.points) s.looped
      → extended (take front s.points) (drop (length s.points - back) s.points) (trimmed front back s) ≡ s
  trim_returned out is =
      let by : length (take front s.points) ≡ front = length-front in
      let looped : option_map
      (λ (ends : ℕ × ℕ). (ends.0 + length (take front s.points), ends.1 + length (take front s.points)))
      (trimmed front back s).looped
      ≡ s.looped =
      rw by (loop_returned (length s.points) front back s.looped out is) in
      λ k. record s { points = whole k; looped = looped k }

outside : (n m by back : ℕ) (l : Option (ℕ × ℕ)) → m ≡ n + (by + back) → IsLoop n l
    → OutsideLoop m by back (option_map (λ (ends : ℕ × ℕ). (ends.0 + by, ends.1 + by)) l)
outside n m by back None size is = tt
outside n m by back (Some ends) size is = let high = is.1 in (omega arith, omega (arith, size, high))

-- the added points, removed again
module _ (front back : List ℕ) (s : Sample) where
  end : length (extended front back s).points - length back ≡ length front + length s.points
  end = omega (arith, length-extended front back s)

  middle : slice_range (front ++ s.points ++ back) (length front) (length (front ++ s.points ++ back) - length back)
      ≡ s.points
  middle =
      let size : length (front ++ s.points ++ back) - length back - length front ≡ length s.points =
      omega (arith, length-extended front back s) in
      rw (size, append_assoc front s.points back, drop_at front (s.points ++ back) (length front) refl)
      (take_at s.points back (length s.points) refl)

  pub front_cut : take (length front) (extended front back s).points ≡ front
  front_cut =
      ap (take (length front)) (append_assoc front s.points back)
      ∙ take_at front (s.points ++ back) (length front) refl

  pub back_cut : drop (length (extended front back s).points - length back) (extended front back s).points ≡ back
  back_cut =
      rw end (drop_at (front ++ s.points) back (length front + length s.points) (length-append front s.points))

  pub extension_returned : trimmed (length front) (length back) (extended front back s) ≡ s
  extension_returned = λ k. record s { points = middle k; looped = loop_back (length front) s.looped k }

  pub extension_outside : IsLoop (length s.points) s.looped
      → OutsideLoop (length (extended front back s).points) (length front) (length back)
      (extended front back s).looped
  extension_outside is =
      outside (length s.points) (length (extended front back s).points) (length front) (length back) s.looped
      (length-extended front back s) is
