-- What is promised of the merged bank.
use Rattle.std.proofs.Common.{◌≡◌, ◌+◌, ◌<◌, ℕ, zero, suc, Bool, true, false, cond, List, [], ◌∷◌, ◌++◌, length, map}
use Rattle.std.proofs.Common.{Option, Some, None, slice_get, refl, sym, ap, subst, ◌∙◌, arith, nat_lt, ◌==◌, ◌&&◌, eq-eqb}
use Rattle.std.specs.List.{find}
use Rattle.std.specs.Option.{option_map, option_or, is_some}
use Rattle.std.specs.Cmp.{both_ways, unsigned_Decides}
use Rattle.std.proofs.lemmas.Option.{slice_get-map}
use Rattle.std.proofs.lemmas.List.Folds.{find-append}
use Rattle.bank_parts.specs.declared.parts.Head.{Head}
use Rattle.bank_parts.specs.declared.parts.Zone.{Zone}
use Rattle.bank_parts.specs.declared.parts.ZoneOwner.{ZoneOwner}
use Rattle.bank_parts.specs.declared.parts.Sample.{Sample}
use Rattle.bank_parts.specs.declared.parts.Parts.{Parts}
use Rattle.bank_parts.specs.Owners.{head_at}
use Rattle.edit_forms.specs.declared.edit.Edit.{Edit}
use Rattle.edit_drafts.specs.Drafts.{Drafted}
use Rattle.bank_edits.specs.Runs.{after_all}
use Rattle.script_of_bank.specs.LeadsTo.{Leads}
use Rattle.plan_presets.specs.declared.fault.PresetFault.{PresetFault}
use Rattle.plan_presets.specs.declared.fault.PresetFault.TheVariants.{InUse, BankTooHigh}
use Rattle.plan_presets.specs.declared.numbers.PresetNumbers.{PresetNumbers}
use Rattle.plan_presets.specs.declared.numbers.TakenPreset.{TakenPreset}
use Rattle.plan_take.specs.Taking.{is_numbered, preset_with, has_preset, OfEach, IsTakeable, IsCopied}
use Rattle.plan_take.specs.TakeFaults.{numbers_of}
use Rattle.plan_take.specs.Additions.{KeepsVoices, AddsMembers, AddsPresets}
use Rattle.plan_take.specs.Matches.{AreBoth, SamplesMatch, ZonesMatch, OwnersMatch}
use Rattle.plan_take.specs.Shifted.{zone_shifted, targets_shifted, sample_shifted, bank_shifted, preset_shifted, merged}
use Rattle.plan_take.specs.Merging.{shifted_numbers, taken_shifted, BANKS, shift_fault, first_shift_fault, merge_fault}
use Rattle.plan_take.specs.Merging.{IsMerging}
use Rattle.plan_take.proofs.VoiceLaws.{AreRelated, AllRelated, same_selected}
use Rattle.plan_take.proofs.JoinLaws.{Adds, added_at, length-mapped, changed_and_shifted}
use Rattle.plan_take.proofs.AdditionLaws.{adds_next, taking}

-- ---- presets that are added to a draft

-- a preset of the list is one of the bank, with its bank number increased
by_original : (shift : ℕ) (o : Option (ZoneOwner Head)) (p : TakenPreset) → option_map (taken_shifted shift) o ≡ Some p
    → (P : TakenPreset → Type 0) → ((q : ZoneOwner Head) → o ≡ Some q → P (taken_shifted shift q)) → P p
by_original shift None p at P h = absurd cc
by_original shift (Some q) p at P h = let same : taken_shifted shift q ≡ p = cc in subst P same (h q refl)

pub adds_next_shifted : (shift : ℕ) (presets : List (ZoneOwner Head)) (i : ℕ) (a b c : Drafted) → i < length presets
    → AddsPresets (map (taken_shifted shift) presets) a b → c.first ≡ b.first
    → ((h : Head) → head_at presets i ≡ Some h → KeepsVoices (shifted_numbers shift h) b.bank c.bank)
    → AddsPresets (map (taken_shifted shift) presets) a c
adds_next_shifted shift presets i a b c lt h first keeps =
    let f = taken_shifted shift in
    adds_next (map f presets) i a b c (subst (λ n. i < n) (sym (length-mapped f presets)) lt) h first
    (λ p at.
    by_original shift (slice_get presets i) p (sym (slice_get-map f presets i) ∙ at)
    (λ (x : TakenPreset). KeepsVoices x.to b.bank c.bank)
    (λ q e. keeps q.head (ap (option_map (λ (x : ZoneOwner Head). x.head)) e)))

-- ---- presets without a fault

first_none : (o r : Option PresetFault) → option_or o r ≡ None → o ≡ None
first_none None r h = refl
first_none (Some f) r h = absurd cc

rest_none : (o r : Option PresetFault) → option_or o r ≡ None → r ≡ None
rest_none None r h = h
rest_none (Some f) r h = absurd cc

free_if_none : (low used : Bool) (k : PresetNumbers) (f : PresetFault)
    → cond low (cond used (Some (InUse k)) None) (Some f) ≡ None → used ≡ false
free_if_none true true k f h = absurd cc
free_if_none true false k f h = refl
free_if_none false used k f h = absurd cc

found_at : {X : Type 0} (test : X → Bool) (xs : List X) (i : ℕ) (x : X) → slice_get xs i ≡ Some x → test x ≡ true
    → is_some (find test xs) ≡ true
found_at test [] i x at t = absurd cc
found_at test (y ∷ ys) zero x at t =
    let same : y ≡ x = cc in ap (λ q. is_some (cond q (Some y) (find test ys))) (ap test same ∙ t)
found_at test (y ∷ ys) (suc i) x at t = by (test y) (found_at test ys i x at t)
  where
    by : (q : Bool) → is_some (find test ys) ≡ true → is_some (cond q (Some y) (find test ys)) ≡ true
    by true r = refl
    by false r = r

each_free : (b : Parts) (shift : ℕ) (ps : List (ZoneOwner Head)) → first_shift_fault b shift ps ≡ None
    → (i : ℕ) (q : ZoneOwner Head) → slice_get ps i ≡ Some q
    → has_preset b.presets (shifted_numbers shift q.head) ≡ false
unfolding first_shift_fault
each_free b shift [] h i q at = absurd cc
each_free b shift (p ∷ ps) h zero q at =
    let same : p ≡ q = cc in
    let none = first_none (shift_fault b shift p.head) (first_shift_fault b shift ps) h in
    subst (λ (x : ZoneOwner Head). has_preset b.presets (shifted_numbers shift x.head) ≡ false) same
    (free_if_none (nat_lt (p.head.bank + shift) BANKS) (has_preset b.presets (shifted_numbers shift p.head))
    (shifted_numbers shift p.head) (BankTooHigh (record { bank = p.head.bank; number = p.head.number })) none)
each_free b shift (p ∷ ps) h (suc i) q at =
    each_free b shift ps (rest_none (shift_fault b shift p.head) (first_shift_fault b shift ps) h) i q at

numbered_self : (q : ZoneOwner Head) → is_numbered (numbers_of q) q.head ≡ true
numbered_self q = λ i. eq-eqb q.head.bank q.head.bank refl i && eq-eqb q.head.number q.head.number refl i

pub takeable_shifted : (from b : Parts) (shift : ℕ) → merge_fault from b shift ≡ None
    → OfEach (IsTakeable from b) (map (taken_shifted shift) from.presets)
takeable_shifted from b shift h i p at =
    by_original shift (slice_get from.presets i) p (sym (slice_get-map (taken_shifted shift) from.presets i) ∙ at)
    (IsTakeable from b)
    (λ q e. record {
      there = found_at (λ (x : ZoneOwner Head). is_numbered (numbers_of q) x.head) from.presets i q e (numbered_self q);
      free = each_free b shift from.presets h i q e;
    })

-- ---- the first preset with some numbers

eq_added : (a b c : ℕ) → (a + c == b + c) ≡ (a == b)
eq_added a b c =
    both_ways (a + c == b + c) (a == b)
    (λ t. (let e = (unsigned_Decides (a + c) (b + c)).0 t in (unsigned_Decides a b).1 (omega (arith, e))))
    (λ t. (unsigned_Decides (a + c) (b + c)).1 (ap (λ x. x + c) ((unsigned_Decides a b).0 t)))

find_mapped : {X : Type 0} (f : X → Bool) (g : X → X) (xs : List X)
    → find f (map g xs) ≡ option_map g (find (λ x. f (g x)) xs)
find_mapped f g [] = refl
find_mapped f g (x ∷ xs) = by (f (g x)) (find_mapped f g xs)
  where
    by : (q : Bool) → find f (map g xs) ≡ option_map g (find (λ y. f (g y)) xs)
        → cond q (Some (g x)) (find f (map g xs)) ≡ option_map g (cond q (Some x) (find (λ y. f (g y)) xs))
    by true r = refl
    by false r = r

none_found : {X : Type 0} (o : Option X) → is_some o ≡ false → o ≡ None
none_found None h = refl
none_found (Some x) h = absurd cc

shifted_found : (from b : Parts) (shift n : ℕ) (q : ZoneOwner Head)
    → has_preset b.presets (shifted_numbers shift q.head) ≡ false
    → preset_with (b.presets ++ map (preset_shifted shift n) from.presets) (shifted_numbers shift q.head)
    ≡ option_map (preset_shifted shift n) (preset_with from.presets (numbers_of q))
shifted_found from b shift n q free =
    let f : ZoneOwner Head → Bool = λ p. is_numbered (shifted_numbers shift q.head) p.head in
    let g = preset_shifted shift n in
    let same : (p : ZoneOwner Head) → f (g p) ≡ is_numbered (numbers_of q) p.head =
    λ p. ap (λ t. t && p.head.number == q.head.number) (eq_added p.head.bank q.head.bank shift) in
    find-append f b.presets (map g from.presets)
    ∙ ap (λ o. option_or o (find f (map g from.presets))) (none_found (find f b.presets) free)
    ∙ find_mapped f g from.presets
    ∙ ap (λ t. option_map g (find t from.presets)) (λ i p. same p i)

-- ---- members that match

sample_related : (n : ℕ) (o : Option Sample) → AreRelated SamplesMatch o (option_map (sample_shifted n) o)
sample_related n None = tt
sample_related n (Some s) = record { points = refl; looped = refl; rate = refl; key = refl; correction = refl }

zones_both : (n : ℕ) (zs : List Zone) (k : ℕ) → k < length zs
    → AreBoth (ZonesMatch (Adds n)) (slice_get zs k) (slice_get (map (zone_shifted n) zs) k)
zones_both n [] k lt = absurd (omega arith)
zones_both n (z ∷ zs) zero lt = record { gens = refl; mods = refl; target = refl }
zones_both n (z ∷ zs) (suc k) lt = zones_both n zs k (omega arith)

owner_related : {H : Type 0} (f : H → H) (n : ℕ) (o : Option (ZoneOwner H))
    → AreRelated (OwnersMatch (Adds n)) o (option_map (changed_and_shifted f n) o)
owner_related f n None = tt
owner_related f n (Some x) = record {
  global = refl;
  count = sym (length-mapped (zone_shifted n) x.zones);
  zones = zones_both n x.zones;
}

heard : (from b : Parts) (shift : ℕ)
    → AllRelated SamplesMatch (Adds (length b.samples)) from.samples (merged from shift b).samples
unfolding merged
heard from b shift i j e =
    let n = length b.samples in
    let all = b.samples ++ map (sample_shifted n) from.samples in
    let at : slice_get all j ≡ option_map (sample_shifted n) (slice_get from.samples i) =
    ap (slice_get all) e ∙ added_at (sample_shifted n) b.samples from.samples i in
    subst (AreRelated SamplesMatch (slice_get from.samples i)) (sym at) (sample_related n (slice_get from.samples i))

played : (from b : Parts) (shift : ℕ)
    → AllRelated (OwnersMatch (Adds (length b.samples))) (Adds (length b.instruments)) from.instruments
    (merged from shift b).instruments
unfolding merged
played from b shift i j e =
    let n = length b.samples in
    let all = b.instruments ++ map (targets_shifted n) from.instruments in
    let at : slice_get all j ≡ option_map (targets_shifted n) (slice_get from.instruments i) =
    ap (slice_get all) e ∙ added_at (targets_shifted n) b.instruments from.instruments i in
    subst (AreRelated (OwnersMatch (Adds n)) (slice_get from.instruments i)) (sym at)
    (owner_related (λ h. h) n (slice_get from.instruments i))

chosen : (from b : Parts) (shift : ℕ) (q : ZoneOwner Head) → has_preset b.presets (shifted_numbers shift q.head) ≡ false
    → AreRelated (OwnersMatch (Adds (length b.instruments))) (preset_with from.presets (numbers_of q))
    (preset_with (merged from shift b).presets (shifted_numbers shift q.head))
unfolding merged
chosen from b shift q free =
    let n = length b.instruments in
    subst (AreRelated (OwnersMatch (Adds n)) (preset_with from.presets (numbers_of q)))
    (sym (shifted_found from b shift n q free))
    (owner_related (bank_shifted shift) n (preset_with from.presets (numbers_of q)))

pub copied_shifted : (from b : Parts) (shift : ℕ) → merge_fault from b shift ≡ None
    → OfEach (IsCopied from (merged from shift b)) (map (taken_shifted shift) from.presets)
copied_shifted from b shift h i p at =
    by_original shift (slice_get from.presets i) p (sym (slice_get-map (taken_shifted shift) from.presets i) ∙ at)
    (IsCopied from (merged from shift b))
    (λ q e n.
    sym
    (same_selected n (numbers_of q) (shifted_numbers shift q.head) from (merged from shift b) (Adds (length b.samples))
    (Adds (length b.instruments)) (heard from b shift) (played from b shift)
    (chosen from b shift q (each_free b shift from.presets h i q e))))

-- ---- the merged bank

pub merged_is : (from b all : Parts) (shift : ℕ) → all.minor ≡ b.minor → all.texts ≡ b.texts
    → all.samples ≡ b.samples ++ map (sample_shifted (length b.samples)) from.samples
    → all.instruments ≡ b.instruments ++ map (targets_shifted (length b.samples)) from.instruments
    → all.presets ≡ b.presets ++ map (preset_shifted shift (length b.instruments)) from.presets
    → all ≡ merged from shift b
unfolding merged
merged_is from b all shift minor texts samples instruments presets = λ i. record {
  minor = minor i;
  texts = texts i;
  presets = presets i;
  instruments = instruments i;
  samples = samples i;
}

same_texts_merged : (from b : Parts) (shift : ℕ) → (merged from shift b).texts ≡ b.texts
unfolding merged
same_texts_merged from b shift = refl

-- a draft with samples, then instruments, then presets added
pub merging : (from b : Parts) (shift : ℕ) (d0 d1 d2 d3 : Drafted) (edits : List Edit) → merge_fault from b shift ≡ None
    → d0.first ≡ b → d0.bank ≡ b → AddsMembers d0 d1 → AddsMembers d1 d2
    → AddsPresets (map (taken_shifted shift) from.presets) d2 d3 → d3.bank ≡ merged from shift b
    → Leads d3.first edits d3.bank → IsMerging from shift b edits
merging from b shift d0 d1 d2 d3 edits free start same samples instruments added result leads =
    let presets = map (taken_shifted shift) from.presets in
    let first : d3.first ≡ b = added.first ∙ instruments.first ∙ samples.first ∙ start in
    record {
      taken =
          taking from b presets d0 d1 d2 d3 edits (takeable_shifted from b shift free) start same samples instruments added
          (subst (λ (x : Parts). OfEach (IsCopied from x) presets) (sym result) (copied_shifted from b shift free))
          (ap (λ (x : Parts). x.texts) result ∙ same_texts_merged from b shift) leads;
      result = subst (λ f. after_all f edits ≡ d3.bank) first leads.given ∙ result;
    }
