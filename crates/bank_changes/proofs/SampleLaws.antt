-- The raw changes of samples: each keeps a bank sound, and can be undone.
use Rattle.std.proofs.Common.{◌≡◌, ◌++◌, ◌∷◌, [], Result, Ok, Err, OnOk, ◌<◌, ◌≤◌, ◌+◌, ◌^◌, ◌==◌, false, ℕ, List}
use Rattle.std.proofs.Common.{length, map, insert, remove, slice_get, Some, None, refl, sym, ◌∙◌, ap, subst, arith}
use Rattle.std.proofs.lemmas.List.{length-map}
use Rattle.std.proofs.lemmas.List.Edits.{length-insert, length-remove}
use Rattle.std.proofs.lemmas.List.Sums.{sum_by-insert}
use Rattle.std.specs.Prelude.{All}
use Rattle.std.specs.List.{AllByRecursion}
use Rattle.std.proofs.lemmas.List.Elements.{All-from_recursion}
use Rattle.sf_base.specs.Names.{IsName}
use Rattle.base_numbered_lists.specs.declared.renumbering.Renumbering.{Renumbering}
use Rattle.base_numbered_lists.specs.declared.renumbering.Renumbering.TheVariants.{Insertion, Removal, Move}
use Rattle.base_numbered_lists.specs.Renumbered.{renumbered}
use Rattle.base_numbered_lists.specs.Moved.{moved}
use Rattle.base_numbered_lists.proofs.Lists.{slice_get-found, slice_get-within, length-changed, length-moved}
use Rattle.base_numbered_lists.proofs.Lists.{insert-remove, remove-insert}
use Rattle.base_numbered_lists.proofs.Numbers.{insertion_returned, removal_returned_by_test, insertion_below}
use Rattle.base_numbered_lists.proofs.Numbers.{removal_below_by_test, insertion_keeps, insertion_misses_by_test}
use Rattle.base_numbered_lists.proofs.Numbers.{removal_no_more, move_below, move_returned}
use Rattle.bank_parts.specs.declared.parts.Sample.{Sample}
use Rattle.bank_parts.specs.Fits.{Fits, FitsSample}
use Rattle.bank_parts.specs.declared.parts.Parts.{Parts}
use Rattle.bank_validity.specs.declared.totals.Totals.{Totals}
use Rattle.bank_parts.specs.Links.{IfLinked}
use Rattle.bank_parts.specs.Renumbered.{sample_renumbered, owner_renumbered, samples_renumbered}
use Rattle.bank_parts.specs.Sound.{IsSound}
use Rattle.bank_changes.specs.Samples.{named, sample_in_use, sample_renamed, sample_added, sample_removed, sample_moved}
use Rattle.bank_parts.specs.Valid.{IsSample, IsValid, point_total}
use Rattle.bank_validity.specs.Limits.{totals_of, broken, broken_limit, with_sample}
use Rattle.bank_changes.proofs.Everywhere.{all_weaker, all_insert, all_remove}
use Rattle.bank_changes.proofs.Moves.{all_moved, sum-moved, moved_back-sent}
use Rattle.bank_changes.proofs.OwnerReferences.{removal_keeps}
use Rattle.bank_changes.proofs.References.{fits_refs, OfSampleRefs, link_weaker, refs_weaker, refs_always}
use Rattle.bank_changes.proofs.References.{refs_within, refs_both, refs_renumbered, samples_valid, instruments_valid}
use Rattle.bank_changes.proofs.References.{refs_kept, refs_back, unused, not_in_use}
use Rattle.sf_base.specs.declared.limits.TheConstants.{ZERO_POINTS}
use Rattle.bank_validity.proofs.LimitLaws.{limits_of, no_limit_of}
use Rattle.bank_changes.proofs.Changes.{all_changed, sum-changed, sum-removed}
use Rattle.bank_changes.proofs.TotalsLaws.{without_sample_within, level_kept, points_kept}

-- ---- renaming

pub totals-renamed : (b : Parts) (i : ℕ) (name : List ℕ) → totals_of (sample_renamed b i name) ≡ totals_of b
unfolding totals_of
totals-renamed b i name =
    let points = sum-changed (λ (s : Sample). length s.points + ZERO_POINTS) (named name) (λ s. refl) b.samples i in
    λ k. record (totals_of b) { samples = length-changed b.samples i (named name) k; points = points k }

renamed_valid : (b : Parts) (number : ℕ) (name : List ℕ) → IsValid b → IsName name
    → IsValid (sample_renamed b number name)
renamed_valid b number name v h =
    let n = length-changed b.samples number (named name) in
    record {
      texts = v.texts;
      presets = v.presets;
      instruments = rw n v.instruments;
      samples =
          rw n
          (all_changed (named name) (IsSample (length b.samples))
          (λ s is. record { name = h; looped = is.looped; kind = is.kind }) b.samples number v.samples);
      limits =
          limits_of (sample_renamed b number name)
          (ap broken (totals-renamed b number name) ∙ no_limit_of b v.limits);
    }

renamed_fits : (b : Parts) (number : ℕ) (name : List ℕ) → Fits b → IsName name → Fits (sample_renamed b number name)
renamed_fits b number name f h = record {
  minor = f.minor;
  texts = f.texts;
  presets = f.presets;
  instruments = f.instruments;
  samples = all_changed (named name) FitsSample
      (λ s fits.
      record {
        name =
            h;
        points =
            fits.points;
        looped =
            fits.looped;
        rate =
            fits.rate;
        key = fits.key;
        correction = fits.correction;
        kind = fits.kind;
      })
      b.samples number f.samples;
}

pub renamed_sound : (b : Parts) (number : ℕ) (name : List ℕ) → IsSound b → IsName name
    → IsSound (sample_renamed b number name)
renamed_sound b number name s h =
    record { valid = renamed_valid b number name s.valid h; fits = renamed_fits b number name s.fits h }

-- ---- adding

pub totals-added : (b : Parts) (i : ℕ) (s : Sample) → i ≤ length b.samples
    → totals_of (sample_added b i s) ≡ with_sample (totals_of b) (length s.points)
unfolding totals_of
totals-added b i s le =
    let by = Insertion i in
    let same = length-map b.samples (sample_renumbered by) in
    let samples : length (insert (map (sample_renumbered by) b.samples) i s) ≡ length b.samples + 1 =
    let more = length-insert (map (sample_renumbered by) b.samples) i s (omega (arith, same)) in
    omega (arith, same, more) in
    let points : point_total (insert (map (sample_renumbered by) b.samples) i s)
    ≡ point_total b.samples + (length s.points + ZERO_POINTS) =
    let more =
    sum_by-insert (λ (t : Sample). length t.points + ZERO_POINTS) (map (sample_renumbered by) b.samples) i s in
    let kept = points_kept by b.samples in omega (arith, more, kept) in
    λ k. record (totals_of b) {
      instruments = level_kept by b.instruments k;
      samples = samples k;
      points = points k;
    }

added_valid : (b : Parts) (i : ℕ) (s : Sample) → IsValid b → i ≤ length b.samples → IsSample (length b.samples + 1) s
    → broken_limit (sample_added b i s) ≡ None → IsValid (sample_added b i s)
added_valid b i s v le h e =
    let n : ℕ = length b.samples in
    let by = Insertion i in
    let same = length-map b.samples (sample_renumbered by) in
    let size : length (sample_added b i s).samples ≡ n + 1 =
    let more = length-insert (map (sample_renumbered by) b.samples) i s (omega (arith, same)) in
    omega (arith, same, more) in
    let refs = refs_within b v in
    let to : (x : ℕ) → x < n → renumbered by x < n + 1 = λ x lt. insertion_below i x n lt in
    record {
      texts = v.texts;
      presets = rw (length-map b.instruments (owner_renumbered by)) v.presets;
      instruments = rw size (instruments_valid (λ x. x < n) by n (n + 1) to b.instruments v.instruments refs.targets);
      samples =
          rw size
          (all_insert (IsSample (n + 1)) (map (sample_renumbered by) b.samples) i s h
          (samples_valid (λ x. x < n) by n (n + 1) to b.samples v.samples refs.links));
      limits = limits_of (sample_added b i s) e;
    }

added_fits : (b : Parts) (i : ℕ) (s : Sample) → IsValid b → Fits b → FitsSample s → Fits (sample_added b i s)
added_fits b i s v f g =
    let n : ℕ = length b.samples in
    let r = fits_refs (Insertion i) n (λ x lt. let h = insertion_below i x n lt in omega arith) b f (refs_within b v) in
    record {
      minor =
          r.minor;
      texts =
          r.texts;
      presets =
          r.presets;
      instruments =
          r.instruments;
      samples =
          all_insert FitsSample (map (sample_renumbered (Insertion i)) b.samples) i s g r.samples;
    }

pub added_sound : (b : Parts) (i : ℕ) (s : Sample) → IsSound b → i ≤ length b.samples
    → IsSample (length b.samples + 1) s → FitsSample s → broken_limit (sample_added b i s) ≡ None
    → IsSound (sample_added b i s)
added_sound b i s sound le is fits e =
    record { valid = added_valid b i s sound.valid le is e; fits = added_fits b i s sound.valid sound.fits fits }

-- an append renumbers nothing
pub added_last : (b : Parts) (s : Sample) → IsValid b → samples_renumbered (Insertion (length b.samples)) b ≡ b
added_last b s v = refs_kept (Insertion (length b.samples)) b
    (refs_weaker (λ x. x < length b.samples) (λ x. renumbered (Insertion (length b.samples)) x ≡ x)
    (λ x lt. insertion_keeps (length b.samples) x lt) b (refs_within b v))

insert_last : {X : Type 0} (xs : List X) (x : X) → insert xs (length xs) x ≡ xs ++ x ∷ []
insert_last [] x = refl
insert_last (y ∷ ys) x = ap (λ zs. y ∷ zs) (insert_last ys x)

pub pushed : (b : Parts) (i : ℕ) (s : Sample) (new : List Sample) (r : Result (Unit {0}) Sample) → IsValid b
    → i ≡ length b.samples → OnOk r (new ≡ b.samples ++ s ∷ [])
    → OnOk r ((let t : Parts = record b { samples = new } in t) ≡ sample_added b i s)
pushed b i s new (Ok u) v e h =
    let kept : samples_renumbered (Insertion i) b ≡ b = rw e (added_last b s v) in
    let last : insert b.samples i s ≡ new = rw e (insert_last b.samples s ∙ sym h) in
    sym
    (ap (λ (r : Parts). let t : Parts = record r { samples = insert r.samples i s } in t) kept
    ∙ ap (λ (ss : List Sample). let t : Parts = record b { samples = ss } in t) last)
pushed b i s new (Err x) v e h = h

-- ---- removing

-- each renumbered link fits 16 bits
links_fit : (by : Renumbering) (n : ℕ) → ((x : ℕ) → x < n → renumbered by x < 2 ^ 16) → (ss : List Sample)
    → AllByRecursion (λ (s : Sample). IfLinked (λ x. x < n) s.kind) ss
    → All (λ (s : Sample). IfLinked (λ x. renumbered by x < 2 ^ 16) s.kind) ss
links_fit by n to ss within =
    let P : Sample → Type 0 = λ s. IfLinked (λ x. renumbered by x < 2 ^ 16) s.kind in
    All-from_recursion P ss
    (all_weaker (λ (s : Sample). IfLinked (λ x. x < n) s.kind) P
    (λ s. link_weaker (λ x. x < n) (λ x. renumbered by x < 2 ^ 16) to s.kind) ss within)

pub links_fit-removed : (b : Parts) (i : ℕ) → IsValid b
    → All (λ (s : Sample). IfLinked (λ x. renumbered (Removal i) x < 2 ^ 16) s.kind) (remove b.samples i)
links_fit-removed b i v =
    links_fit (Removal i) (length b.samples) (λ x lt. let h = removal_no_more i x in omega arith) (remove b.samples i)
    (all_remove (λ (s : Sample). IfLinked (λ x. x < length b.samples) s.kind) b.samples i (refs_within b v).links)

pub totals-removed : (b : Parts) (i : ℕ) (s : Sample) → slice_get b.samples i ≡ Some s
    → with_sample (totals_of (sample_removed b i)) (length s.points) ≡ totals_of b
unfolding totals_of
totals-removed b i s e =
    let by = Removal i in
    let lt = slice_get-within b.samples i s e in
    let left : List Sample = remove b.samples i in
    let samples : length (map (sample_renumbered by) left) + 1 ≡ length b.samples =
    let same = length-map left (sample_renumbered by) in
    let less = length-remove b.samples i lt in omega (arith, same, less) in
    let points : point_total (map (sample_renumbered by) left) + (length s.points + ZERO_POINTS)
    ≡ point_total b.samples =
    let less = sum-removed (λ (t : Sample). length t.points + ZERO_POINTS) b.samples i s e in
    let kept = points_kept by left in omega (arith, less, kept) in
    λ k. record (totals_of b) {
      instruments = level_kept by b.instruments k;
      samples = samples k;
      points = points k;
    }

removed_valid : (b : Parts) (i : ℕ) → IsValid b → i < length b.samples → sample_in_use b i ≡ false
    → IsValid (sample_removed b i)
removed_valid b i v lt free =
    let left : Parts = record b { samples = remove b.samples i } in
    let n : ℕ = length b.samples in
    let m : ℕ = length left.samples in
    let by = Removal i in
    let less = length-remove b.samples i lt in
    let size = length-map left.samples (sample_renumbered by) in
    let (s, e) = slice_get-found b.samples i lt in
    let within = refs_within b v in
    let stay : OfSampleRefs (λ x. x < n) left =
    record {
      links =
          all_remove (λ (t : Sample). IfLinked (λ x. x < n) t.kind) b.samples i within.links;
      targets =
          within.targets;
    }
    in
    let P : ℕ → Type 0 = λ x. ((x == i) ≡ false) × (x < n) in
    let refs = refs_both (λ x. (x == i) ≡ false) (λ x. x < n) left (unused b i free) stay in
    let to : (x : ℕ) → P x → renumbered by x < m = λ x h. let below = h.1 in
    removal_below_by_test i x m h.0 (omega (arith, less)) (omega (arith, less, below)) in
    record {
      texts = v.texts;
      presets = rw (length-map b.instruments (owner_renumbered by)) v.presets;
      instruments = rw size (instruments_valid P by n m to b.instruments v.instruments refs.targets);
      samples =
          rw size
          (samples_valid P by n m to left.samples (all_remove (IsSample n) b.samples i v.samples) refs.links);
      limits = limits_of (sample_removed b i) (without_sample_within (totals_of (sample_removed b i)) (length s.points)
          (ap broken (totals-removed b i s e) ∙ no_limit_of b v.limits));
    }

removed_fits : (b : Parts) (i : ℕ) → IsValid b → Fits b → Fits (sample_removed b i)
removed_fits b i v f =
    let n : ℕ = length b.samples in
    let left : Parts = record b { samples = remove b.samples i } in
    let within = refs_within b v in
    fits_refs (Removal i) n (λ x lt. let h = removal_no_more i x in omega arith) left
    (record {
      minor =
          f.minor;
      texts =
          f.texts;
      presets =
          f.presets;
      instruments = f.instruments;
      samples = all_remove FitsSample b.samples i f.samples;
    })
    (record {
      links =
          all_remove (λ (t : Sample). IfLinked (λ x. x < n) t.kind) b.samples i within.links;
      targets =
          within.targets;
    })

pub removed_sound : (b : Parts) (i : ℕ) → IsSound b → i < length b.samples → sample_in_use b i ≡ false
    → IsSound (sample_removed b i)
removed_sound b i sound lt free =
    record { valid = removed_valid b i sound.valid lt free; fits = removed_fits b i sound.valid sound.fits }

-- removal of the last one renumbers nothing
pub removed_last : (b : Parts) (i : ℕ) → IsValid b → i < length b.samples → length (remove b.samples i) ≤ i
    → (let t : Parts = record b { samples = remove b.samples i } in t) ≡ sample_removed b i
removed_last b i v lt last =
    let n : ℕ = length b.samples in
    let left : Parts = record b { samples = remove b.samples i } in
    let less = length-remove b.samples i lt in
    let within = refs_within b v in
    sym (refs_kept (Removal i) left (refs_weaker (λ x. x < n) (λ x. renumbered (Removal i) x ≡ x)
    (λ x h. removal_keeps i x (omega (arith, less, last, h))) left
    (record {
      links = all_remove (λ (t : Sample). IfLinked (λ x. x < n) t.kind) b.samples i within.links;
      targets = within.targets;
    })))

-- ---- undo

pub restored_removed : (b : Parts) (i : ℕ) (s : Sample) → slice_get b.samples i ≡ Some s → sample_in_use b i ≡ false
    → sample_added (sample_removed b i) i s ≡ b
restored_removed b i s e free =
    let left : Parts = record b { samples = remove b.samples i } in
    let back : samples_renumbered (Insertion i) (samples_renumbered (Removal i) left) ≡ left =
    refs_back (Removal i) (Insertion i) left
    (refs_weaker (λ x. (x == i) ≡ false) (λ x. renumbered (Insertion i) (renumbered (Removal i) x) ≡ x)
    (λ x h. removal_returned_by_test i x h) left (unused b i free))
    in
    ap (λ (r : Parts). let t : Parts = record r { samples = insert r.samples i s } in t) back
    ∙ ap (λ (ss : List Sample). let t : Parts = record b { samples = ss } in t) (insert-remove b.samples i s e)

module _ (b : Parts) (i : ℕ) (s : Sample) (le : i ≤ length b.samples) where
  out : remove (sample_added b i s).samples i ≡ map (sample_renumbered (Insertion i)) b.samples
  out =
      let same = length-map b.samples (sample_renumbered (Insertion i)) in
      remove-insert (map (sample_renumbered (Insertion i)) b.samples) i s (omega (arith, same))

  pub restored_added : sample_removed (sample_added b i s) i ≡ b
  restored_added =
      ap
      (λ (ss : List Sample). let t : Parts =
      samples_renumbered (Removal i) (record (samples_renumbered (Insertion i) b) { samples = ss }) in t)
      out
      ∙ refs_back (Insertion i) (Removal i) b
      (refs_always (λ x. renumbered (Removal i) (renumbered (Insertion i) x) ≡ x) (λ x. insertion_returned i x) b)

  -- nothing refers to the new sample
  pub added_unused : sample_in_use (sample_added b i s) i ≡ false
  added_unused =
      let free : OfSampleRefs (λ x. (x == i) ≡ false) (samples_renumbered (Insertion i) b) =
      refs_renumbered (λ x. Unit {0}) (λ x. (x == i) ≡ false) (Insertion i) (λ x u. insertion_misses_by_test i x) b
      (refs_always (λ x. Unit {0}) (λ x. tt) b) in
      not_in_use (sample_added b i s) i
      (subst
      (λ (ss : List Sample).
      OfSampleRefs (λ x. (x == i) ≡ false)
      (let t : Parts = record (samples_renumbered (Insertion i) b) { samples = ss } in t))
      (sym out) free)

-- ---- moving

module _ (b : Parts) (i j : ℕ) (lt : i < length b.samples) (lu : j < length b.samples) where
  pub length-sample_moved : length (sample_moved b i j).samples ≡ length b.samples
  length-sample_moved =
      length-map (moved b.samples i j) (sample_renumbered (Move i j)) ∙ length-moved b.samples i j lt lu

  pub totals-moved : totals_of (sample_moved b i j) ≡ totals_of b
  unfolding totals_of
  totals-moved =
      let by = Move i j in
      let points =
      points_kept by (moved b.samples i j)
      ∙ sum-moved (λ (s : Sample). length s.points + ZERO_POINTS) b.samples i j lt in
      λ k. record (totals_of b) {
        instruments = level_kept by b.instruments k;
        samples = length-sample_moved k;
        points = points k;
      }

  pub moved_valid : IsValid b → IsValid (sample_moved b i j)
  moved_valid v =
      let n : ℕ = length b.samples in
      let by = Move i j in
      let within = refs_within b v in
      let to : (x : ℕ) → x < n → renumbered by x < n = λ x h. move_below i j x n lt lu h in
      record {
        texts = v.texts;
        presets = rw (length-map b.instruments (owner_renumbered by)) v.presets;
        instruments =
            rw length-sample_moved
            (instruments_valid (λ x. x < n) by n n to b.instruments v.instruments within.targets);
        samples = rw length-sample_moved (samples_valid (λ x. x < n) by n n to (moved b.samples i j)
            (all_moved (IsSample n) b.samples i j lt v.samples)
            (all_moved (λ (s : Sample). IfLinked (λ x. x < n) s.kind) b.samples i j lt within.links));
        limits = limits_of (sample_moved b i j) (ap broken totals-moved ∙ no_limit_of b v.limits);
      }

  moved_fits : IsValid b → Fits b → Fits (sample_moved b i j)
  moved_fits v f =
      let n : ℕ = length b.samples in
      let within = refs_within b v in
      fits_refs (Move i j) n (λ x h. let below = move_below i j x n lt lu h in omega arith)
      (record b { samples = moved b.samples i j })
      (record {
        minor =
            f.minor;
        texts =
            f.texts;
        presets =
            f.presets;
        instruments =
            f.instruments;
        samples = all_moved FitsSample b.samples i j lt f.samples;
      })
      (record {
        links =
            all_moved (λ (s : Sample). IfLinked (λ x. x < n) s.kind) b.samples i j lt within.links;
        targets =
            within.targets;
      })

  pub links_fit-moved : IsValid b
      → All (λ (s : Sample). IfLinked (λ x. renumbered (Move i j) x < 2 ^ 16) s.kind) (moved b.samples i j)
  links_fit-moved v =
      links_fit (Move i j) (length b.samples)
      (λ x h. let below = move_below i j x (length b.samples) lt lu h in omega arith) (moved b.samples i j)
      (all_moved (λ (s : Sample). IfLinked (λ x. x < length b.samples) s.kind) b.samples i j lt (refs_within b v).links)

  pub moved_sound : IsSound b → IsSound (sample_moved b i j)
  moved_sound sound = record { valid = moved_valid sound.valid; fits = moved_fits sound.valid sound.fits }

  pub restored_moved : sample_moved (sample_moved b i j) j i ≡ b
  restored_moved =
      ap
      (λ (ss : List Sample). let t : Parts =
      samples_renumbered (Move j i) (record (samples_renumbered (Move i j) b) { samples = ss }) in t)
      (moved_back-sent (sample_renumbered (Move i j)) b.samples i j lt lu)
      ∙ refs_back (Move i j) (Move j i) b
      (refs_always (λ x. renumbered (Move j i) (renumbered (Move i j) x) ≡ x) (λ x. move_returned i j x) b)

-- ---- the points of one sample more, or less

pub points_added : (b : Parts) (i : ℕ) (s : Sample) → i ≤ length b.samples
    → point_total (sample_added b i s).samples ≡ point_total b.samples + (length s.points + ZERO_POINTS)
unfolding totals_of
points_added b i s le = ap (λ (t : Totals). t.points) (totals-added b i s le)

pub points_removed : (b : Parts) (i : ℕ) (s : Sample) → slice_get b.samples i ≡ Some s
    → point_total (sample_removed b i).samples + (length s.points + ZERO_POINTS) ≡ point_total b.samples
unfolding totals_of
points_removed b i s e = ap (λ (t : Totals). t.points) (totals-removed b i s e)
