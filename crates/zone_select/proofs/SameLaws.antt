-- Banks with the same pairs, each with the same voice: the zones of their instruments and presets are the same except
-- for their targets. From the samples up, with one member changed, and with other numbers.
use Rattle.std.proofs.Common.{◌≡◌, ℕ, ◌-◌, ◌==◌, ◌&&◌, Bool, true, false, cond, Option, Some, None, List, []}
use Rattle.std.proofs.Common.{length, map, slice_get, refl, sym, ap, subst, ◌∙◌}
use Rattle.std.specs.List.{flat_map, find, filter, range_with_len}
use Rattle.std.specs.Option.{option_map, option_and_then}
use Rattle.base_numbered_lists.specs.declared.renumbering.Renumbering.{Renumbering}
use Rattle.base_numbered_lists.specs.Moved.{changed}
use Rattle.base_numbered_lists.specs.Renumbered.{renumbered}
use Rattle.script_notes.specs.Notes.{Numbers}
use Rattle.bank_parts.specs.declared.parts.Head.{Head}
use Rattle.bank_parts.specs.declared.parts.GlobalZone.{GlobalZone}
use Rattle.bank_parts.specs.declared.parts.Zone.{Zone}
use Rattle.bank_parts.specs.declared.parts.ZoneOwner.{ZoneOwner}
use Rattle.bank_parts.specs.declared.parts.Sample.{Sample}
use Rattle.bank_parts.specs.declared.parts.Parts.{Parts}
use Rattle.bank_parts.specs.Renumbered.{zone_renumbered, owner_renumbered}
use Rattle.bank_changes.proofs.Everywhere.{all_weaker}
use Rattle.bank_changes.proofs.OwnerReferences.{OfTargets, OfOwners}
use Rattle.zone_select.specs.Ranges.{holds}
use Rattle.zone_select.specs.ZoneSettings.{ZoneSettings, zone_settings, setting}
use Rattle.zone_select.specs.Select.{Voice, voice_of, has_preset_numbers}
use Rattle.zone_select.specs.Pairs.{holds_at, held, held_inside, pairs_at, pairs, SelectedPair, pair_of_instrument}
use Rattle.zone_select.specs.Pairs.{pair_of_zone, pair_of_preset, selected_pair, selected_pair_voice}
use Rattle.zone_select.specs.Alike.{HaveSamePairs}
use Rattle.zone_select.proofs.Matched.{Matched, MatchedOption, matched-get, matched-find, matched-map, matched-same}
use Rattle.zone_select.proofs.Matched.{matched-changed, matched-option_same, matched-long, matched-same_or}
use Rattle.zone_select.proofs.AlikeLaws.{HaveSameVoices, sound_same, same_voices}

abbrev Instrument : Type 0
Instrument = ZoneOwner (List ℕ)

abbrev Preset : Type 0
Preset = ZoneOwner Head

-- two zones that are the same except for their targets, which T relates
record ZonesSame (T : ℕ → ℕ → Type 0) (z w : Zone) : Type 0 where
  gens : z.gens ≡ w.gens
  mods : z.mods ≡ w.mods
  target : T z.target w.target

-- two presets or instruments with the same zones except for their targets
record OwnersSame {H : Type 0} (T : ℕ → ℕ → Type 0) (x y : ZoneOwner H) : Type 0 where
  global : x.global ≡ y.global
  zones : Matched (ZonesSame T) x.zones y.zones

abbrev SamplesAt : Parts → Parts → ℕ → ℕ → Type 0
SamplesAt b c t s = MatchedOption HaveSameVoices (slice_get b.samples t) (slice_get c.samples s)

abbrev InstrumentsSame : Parts → Parts → Instrument → Instrument → Type 0
InstrumentsSame b c = OwnersSame (SamplesAt b c)

abbrev InstrumentsAt : Parts → Parts → ℕ → ℕ → Type 0
InstrumentsAt b c t s = MatchedOption (InstrumentsSame b c) (slice_get b.instruments t) (slice_get c.instruments s)

abbrev PresetsSame : Parts → Parts → Preset → Preset → Type 0
PresetsSame b c p q =
    (p.head.bank ≡ q.head.bank) × (p.head.number ≡ q.head.number) × OwnersSame (InstrumentsAt b c) p q

-- ---- zones

module _ (T : ℕ → ℕ → Type 0) (n : Numbers) (a d : GlobalZone) (e : a ≡ d) where
  same_holds : (z w : Zone) → ZonesSame T z w → holds n a z ≡ holds n d w
  unfolding holds
  same_holds z w s = λ i.
      (let x : Zone = record { target = z.target; gens = s.gens i; mods = s.mods i } in holds n (e i) x)

  same_settings : (z w : Zone) → ZonesSame T z w → zone_settings a z ≡ zone_settings d w
  unfolding zone_settings setting
  same_settings z w s = λ i.
      (let x : Zone = record { target = z.target; gens = s.gens i; mods = s.mods i } in zone_settings (e i) x)

  same_held : (xs ys : List Zone) (k : ℕ) → Matched (ZonesSame T) xs ys → held n a xs k ≡ held n d ys k
  same_held xs ys k m =
      let at : (j : ℕ) → holds_at n a xs j ≡ holds_at n d ys j = λ j.
      matched-same_or (ZonesSame T) (holds n a) (holds n d) false same_holds (slice_get xs j) (slice_get ys j)
      (matched-get (ZonesSame T) xs ys j m) in
      let long : length xs ≡ length ys = matched-long (ZonesSame T) xs ys m in
      λ i. filter (λ j. at j i) (range_with_len k (long i - k))

-- ---- the voice of a pair

-- the voice of an instrument's zone, with the settings of a preset's
abbrev voice_inside : Parts → Numbers → ZoneSettings → ℕ → Instrument → Option Voice
voice_inside b n u l i = option_and_then (selected_pair_voice b n) (pair_of_instrument n u l i)

abbrev inside_held : Parts → Numbers → ZoneSettings → GlobalZone → Option Zone → Option Voice
inside_held b n u a o =
    option_and_then (selected_pair_voice b n)
    (option_map
    (λ (y : Zone). let r : SelectedPair =
    record { instrument_zone = zone_settings a y; preset_zone = u; sample = y.target } in r)
    o)

same_inside : (b c : Parts) (n : Numbers) (u v : ZoneSettings) (l : ℕ) (i j : Instrument) → u ≡ v → InstrumentsSame b c i j
    → voice_inside b n u l i ≡ voice_inside c n v l j
same_inside b c n u v l i j e s =
    from (slice_get i.zones l) (slice_get j.zones l)
    (matched-get (ZonesSame (SamplesAt b c)) i.zones j.zones l s.zones)
  where
    tested : (t : Bool) (z w : Zone) → ZonesSame (SamplesAt b c) z w
        → inside_held b n u i.global (cond t (Some z) None) ≡ inside_held c n v j.global (cond t (Some w) None)
    tested true z w m =
        (λ k.
        option_map (voice_of n (same_settings (SamplesAt b c) n i.global j.global s.global z w m k) (e k))
        (slice_get b.samples z.target))
        ∙ same_voices n v (zone_settings j.global w) (slice_get b.samples z.target) (slice_get c.samples w.target) m.target
    tested false z w m = refl

    from : (o p : Option Zone) → MatchedOption (ZonesSame (SamplesAt b c)) o p
        → inside_held b n u i.global
        (option_and_then (λ (z : Zone). cond (holds n i.global z) (Some z) None) o)
        ≡ inside_held c n v j.global (option_and_then (λ (z : Zone). cond (holds n j.global z) (Some z) None) p)
    from None None m = refl
    from None (Some w) m = absurd m
    from (Some z) None m = absurd m
    from (Some z) (Some w) m =
        ap (λ (t : Bool). inside_held b n u i.global (cond t (Some z) None))
        (same_holds (SamplesAt b c) n i.global j.global s.global z w m)
        ∙ tested (holds n j.global w) z w m

-- the voice of a preset's pair
abbrev voice_outside : Parts → Numbers → ℕ × ℕ → Preset → Option Voice
voice_outside b n q p = option_and_then (selected_pair_voice b n) (pair_of_preset b n q p)

same_target : (b c : Parts) (n : Numbers) (u v : ZoneSettings) (l : ℕ) → u ≡ v → (o p : Option Instrument)
    → MatchedOption (InstrumentsSame b c) o p
    → option_and_then (selected_pair_voice b n) (option_and_then (pair_of_instrument n u l) o)
    ≡ option_and_then (selected_pair_voice c n) (option_and_then (pair_of_instrument n v l) p)
same_target b c n u v l e None None m = refl
same_target b c n u v l e None (Some j) m = absurd m
same_target b c n u v l e (Some i) None m = absurd m
same_target b c n u v l e (Some i) (Some j) m = same_inside b c n u v l i j e m

abbrev outside_held : Parts → Numbers → GlobalZone → ℕ → Option Zone → Option Voice
outside_held b n a l o = option_and_then (selected_pair_voice b n) (option_and_then (pair_of_zone b n a l) o)

same_outside : (b c : Parts) (n : Numbers) (q : ℕ × ℕ) (p r : Preset) → OwnersSame (InstrumentsAt b c) p r
    → voice_outside b n q p ≡ voice_outside c n q r
same_outside b c n q p r s =
    from (slice_get p.zones q.0) (slice_get r.zones q.0)
    (matched-get (ZonesSame (InstrumentsAt b c)) p.zones r.zones q.0 s.zones)
  where
    tested : (t : Bool) (z w : Zone) → ZonesSame (InstrumentsAt b c) z w
        → outside_held b n p.global q.1 (cond t (Some z) None) ≡ outside_held c n r.global q.1 (cond t (Some w) None)
    tested true z w m =
        same_target b c n (zone_settings p.global z) (zone_settings r.global w) q.1
        (same_settings (InstrumentsAt b c) n p.global r.global s.global z w m) (slice_get b.instruments z.target)
        (slice_get c.instruments w.target) m.target
    tested false z w m = refl

    from : (o y : Option Zone) → MatchedOption (ZonesSame (InstrumentsAt b c)) o y
        → outside_held b n p.global q.1
        (option_and_then (λ (z : Zone). cond (holds n p.global z) (Some z) None) o)
        ≡ outside_held c n r.global q.1 (option_and_then (λ (z : Zone). cond (holds n r.global z) (Some z) None) y)
    from None None m = refl
    from None (Some w) m = absurd m
    from (Some z) None m = absurd m
    from (Some z) (Some w) m =
        ap (λ (t : Bool). outside_held b n p.global q.1 (cond t (Some z) None))
        (same_holds (InstrumentsAt b c) n p.global r.global s.global z w m)
        ∙ tested (holds n r.global w) z w m

-- ---- the pairs

abbrev pairs_of : Parts → Numbers → Preset → List (ℕ × ℕ)
pairs_of b n p = flat_map (pairs_at b n p.zones) (held n p.global p.zones 0)

same_pairs : (b c : Parts) (n : Numbers) (p r : Preset) → OwnersSame (InstrumentsAt b c) p r
    → pairs_of b n p ≡ pairs_of c n r
same_pairs b c n p r s =
    let inside : (t u : ℕ) → InstrumentsAt b c t u → held_inside b n t 0 ≡ held_inside c n u 0 = λ t u m.
    matched-same_or (InstrumentsSame b c) (λ (i : Instrument). held n i.global i.zones 0)
    (λ (i : Instrument). held n i.global i.zones 0) []
    (λ i j e. same_held (SamplesAt b c) n i.global j.global e.global i.zones j.zones 0 e.zones)
    (slice_get b.instruments t) (slice_get c.instruments u) m in
    let row : (k : ℕ) → pairs_at b n p.zones k ≡ pairs_at c n r.zones k = λ k.
    matched-same_or (ZonesSame (InstrumentsAt b c))
    (λ (z : Zone). map (λ (l : ℕ). let q : ℕ × ℕ = (k, l) in q) (held_inside b n z.target 0))
    (λ (z : Zone). map (λ (l : ℕ). let q : ℕ × ℕ = (k, l) in q) (held_inside c n z.target 0)) []
    (λ z w m. ap (map (λ (l : ℕ). let q : ℕ × ℕ = (k, l) in q)) (inside z.target w.target m.target))
    (slice_get p.zones k) (slice_get r.zones k)
    (matched-get (ZonesSame (InstrumentsAt b c)) p.zones r.zones k s.zones) in
    let zones = same_held (InstrumentsAt b c) n p.global r.global s.global p.zones r.zones 0 s.zones in
    λ i. flat_map (λ k. row k i) (zones i)

have_same : (b c : Parts) → Matched (PresetsSame b c) b.presets c.presets → HaveSamePairs b c
unfolding pairs selected_pair has_preset_numbers
have_same b c m n =
    let found = matched-find (PresetsSame b c) (has_preset_numbers n) (has_preset_numbers n)
    (λ p q e. λ i. e.0 i == n.bank && e.1 i == n.number) b.presets c.presets m in (
      matched-same_or (PresetsSame b c) (pairs_of b n) (pairs_of c n) [] (λ p r e. same_pairs b c n p r e.2)
          (find (has_preset_numbers n) b.presets) (find (has_preset_numbers n) c.presets) found,
      λ q. voices q (find (has_preset_numbers n) b.presets) (find (has_preset_numbers n) c.presets) found,
    )
  where
    voices : (q : ℕ × ℕ) (o y : Option Preset) → MatchedOption (PresetsSame b c) o y
        → option_and_then (selected_pair_voice b n) (option_and_then (pair_of_preset b n q) o)
        ≡ option_and_then (selected_pair_voice c n) (option_and_then (pair_of_preset c n q) y)
    voices q None None h = refl
    voices q None (Some r) h = absurd h
    voices q (Some p) None h = absurd h
    voices q (Some p) (Some r) h = same_outside b c n q p r h.2

-- ---- reflexivity

owner_same : {H : Type 0} (T : ℕ → ℕ → Type 0) → ((t : ℕ) → T t t) → (x : ZoneOwner H) → OwnersSame T x x
owner_same T h x = record {
  global = refl;
  zones =
      matched-same (ZonesSame T) (λ z. record { gens = refl; mods = refl; target = h z.target }) x.zones;
}

-- each target gets a new number
owner_renumbered-same : {H : Type 0} (T : ℕ → ℕ → Type 0) (by : Renumbering) (x : ZoneOwner H)
    → OfTargets (λ t. T t (renumbered by t)) x.zones → OwnersSame T x (owner_renumbered by x)
owner_renumbered-same T by x h = record {
  global = refl;
  zones =
      matched-map (ZonesSame T) (zone_renumbered by) x.zones
      (all_weaker (λ (z : Zone). T z.target (renumbered by z.target))
      (λ (z : Zone). ZonesSame T z (zone_renumbered by z))
      (λ z e. record { gens = refl; mods = refl; target = e }) x.zones h);
}

-- the same samples
instrument_same : (b c : Parts) → ((t : ℕ) → SamplesAt b c t t) → (i : Instrument) → InstrumentsSame b c i i
instrument_same b c h = owner_same (SamplesAt b c) h

-- the same presets over instruments that are the same
same_presets : (b c : Parts) → ((t : ℕ) → InstrumentsAt b c t t) → (p : Preset) → PresetsSame b c p p
same_presets b c h p = (refl, refl, owner_same (InstrumentsAt b c) h p)

-- ---- one member replaced

-- samples with the same voices
pub samples-same : (b : Parts) (samples : List Sample) → Matched HaveSameVoices b.samples samples
    → HaveSamePairs b (record b { samples = samples })
samples-same b samples h =
    let c : Parts = record b { samples = samples } in
    have_same b c (matched-same (PresetsSame b c)
    (same_presets b c
    (λ t.
    matched-option_same (InstrumentsSame b c)
    (instrument_same b c (λ k. matched-get HaveSameVoices b.samples samples k h)) (slice_get b.instruments t)))
    b.presets)

-- an instrument with another name
pub head-same : (b : Parts) (k : ℕ) (f : Instrument → Instrument)
    → ((i : Instrument) → (i.global ≡ (f i).global) × (i.zones ≡ (f i).zones))
    → HaveSamePairs b (record b { instruments = changed b.instruments k f })
head-same b k f h =
    let c : Parts = record b { instruments = changed b.instruments k f } in
    let same : (i : Instrument) → InstrumentsSame b c i i =
    instrument_same b c (λ t. matched-option_same HaveSameVoices sound_same (slice_get b.samples t)) in
    have_same b c (matched-same (PresetsSame b c)
    (same_presets b c
    (λ t.
    matched-get (InstrumentsSame b c) b.instruments c.instruments t
    (matched-changed (InstrumentsSame b c) same f b.instruments k
    (λ i e. record {
      global = (h i).0;
      zones = subst (Matched (ZonesSame (SamplesAt b c)) i.zones) (h i).1 (same i).zones;
    }))))
    b.presets)

-- ---- other numbers

-- samples with other numbers, which zones follow
pub samples_renumbered-same : (b : Parts) (by : Renumbering) (samples : List Sample)
    → OfOwners (λ t. MatchedOption HaveSameVoices (slice_get b.samples t) (slice_get samples (renumbered by t)))
    b.instruments
    → HaveSamePairs b (record b { samples = samples; instruments = map (owner_renumbered by) b.instruments })
samples_renumbered-same b by samples h =
    let c : Parts = record b { samples = samples; instruments = map (owner_renumbered by) b.instruments } in
    let P : ℕ → Type 0 = λ t. SamplesAt b c t (renumbered by t) in
    have_same b c (matched-same (PresetsSame b c)
    (same_presets b c (λ t. matched-get (InstrumentsSame b c) b.instruments c.instruments t
    (matched-map (InstrumentsSame b c) (owner_renumbered by) b.instruments
    (all_weaker (λ (i : Instrument). OfTargets P i.zones)
    (λ (i : Instrument). InstrumentsSame b c i (owner_renumbered by i))
    (λ i. owner_renumbered-same (SamplesAt b c) by i) b.instruments h))))
    b.presets)

-- instruments with other numbers, which zones follow
pub instruments_renumbered-same : (b : Parts) (by : Renumbering) (instruments : List Instrument)
    → OfOwners (λ t. slice_get instruments (renumbered by t) ≡ slice_get b.instruments t) b.presets
    → HaveSamePairs b (record b { instruments = instruments; presets = map (owner_renumbered by) b.presets })
instruments_renumbered-same b by instruments h =
    let c : Parts = record b { instruments = instruments; presets = map (owner_renumbered by) b.presets } in
    let P : ℕ → Type 0 = λ t. slice_get instruments (renumbered by t) ≡ slice_get b.instruments t in
    let same : (i : Instrument) → InstrumentsSame b c i i =
    instrument_same b c (λ t. matched-option_same HaveSameVoices sound_same (slice_get b.samples t)) in
    let found : (t : ℕ) → P t → InstrumentsAt b c t (renumbered by t) = λ t e.
    subst (MatchedOption (InstrumentsSame b c) (slice_get b.instruments t)) (sym e)
    (matched-option_same (InstrumentsSame b c) same (slice_get b.instruments t)) in
    let one : (p : Preset) → OfTargets P p.zones → PresetsSame b c p (owner_renumbered by p) = λ p a. (
      refl,
      refl,
      owner_renumbered-same (InstrumentsAt b c) by p
          (all_weaker (λ (z : Zone). P z.target) (λ (z : Zone). InstrumentsAt b c z.target (renumbered by z.target))
          (λ z. found z.target) p.zones a),
    ) in
    have_same b c (matched-map (PresetsSame b c) (owner_renumbered by) b.presets
    (all_weaker (λ (p : Preset). OfTargets P p.zones)
    (λ (p : Preset). PresetsSame b c p (owner_renumbered by p)) one b.presets h))
