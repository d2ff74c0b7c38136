-- The edits that change no sound, form by form, for relations R of two banks.
use Rattle.std.proofs.Common.{◌≡◌, ◌≢◌, ℕ, ◌+◌, ◌≤◌, ◌==◌, true, false, Option, Some, List, map, length, slice_get}
use Rattle.std.proofs.Common.{insert, remove, refl, sym, ap, subst, ◌∙◌, arith}
use Rattle.std.specs.Prelude.{unwrap_or}
use Rattle.std.specs.Option.{option_map}
use Rattle.std.proofs.lemmas.Bool.Decides.{nat_tests}
use Rattle.std.proofs.lemmas.List.{length-map}
use Rattle.std.proofs.lemmas.Option.{slice_get-map}
use Rattle.base_numbered_lists.specs.declared.renumbering.Renumbering.TheVariants.{Insertion, Removal, Move}
use Rattle.base_numbered_lists.specs.Moved.{moved}
use Rattle.base_numbered_lists.specs.Renumbered.{renumbered}
use Rattle.base_numbered_lists.proofs.Following.{insertion_followed, removal_followed, move_followed}
use Rattle.generators.specs.declared.level.Level.{Level}
use Rattle.generators.specs.declared.level.Level.TheVariants as level
use Rattle.bank_parts.specs.declared.parts.Head.{Head}
use Rattle.bank_parts.specs.declared.parts.Zone.{Zone}
use Rattle.bank_parts.specs.declared.parts.ZoneOwner.{ZoneOwner}
use Rattle.bank_parts.specs.declared.parts.Sample.{Sample}
use Rattle.bank_parts.specs.declared.parts.Parts.{Parts}
use Rattle.bank_parts.specs.Owners.{with_head}
use Rattle.bank_parts.specs.Renumbered.{sample_renumbered}
use Rattle.bank_parts.specs.Valid.{IsZone, IsOwner, IsPreset, IsInstrument, AreGenerators}
use Rattle.bank_zone_ranges.specs.declared.axes.Axis.{Axis}
use Rattle.bank_zone_ranges.specs.declared.axes.Keep.{Keep}
use Rattle.bank_zone_ranges.specs.Ranges.{low_end, high_end, whole_range, own_range}
use Rattle.bank_zone_ranges.specs.Splits.{zones_split, zones_joined, is_splittable_at, is_joinable_at}
use Rattle.bank_zone_ranges.proofs.SplitLaws.{split_at, joined_at}
use Rattle.bank_zone_ranges.proofs.PartLaws.{own_holds}
use Rattle.bank_zone_ranges.proofs.Existing.{there_split, there_joined}
use Rattle.bank_changes.specs.declared.members.Owner.TheVariants as owner
use Rattle.bank_changes.specs.Samples.{named}
use Rattle.bank_changes.specs.Points.{with_kind}
use Rattle.bank_changes.proofs.Changes.{all_found}
use Rattle.bank_changes.proofs.OwnerReferences.{owners_always, owners_weaker, untargeted}
use Rattle.zone_select.specs.Select.{Voice, voice_of}
use Rattle.zone_select.specs.Amounts.{parameters_of, is_looped}
use Rattle.zone_select.specs.Pairs.{pairs, selected_pair}
use Rattle.zone_select.specs.Alike.{HaveSamePairs}
use Rattle.zone_select.specs.Neutral.{SampleAdded, SampleRemoved, SampleMoved, SampleRenamed}
use Rattle.zone_select.specs.Neutral.{KindSet, InstrumentAdded, InstrumentRemoved}
use Rattle.zone_select.specs.Neutral.{InstrumentMoved, InstrumentRenamed, ZoneMoved, ZoneSplit}
use Rattle.zone_select.specs.Neutral.{ZoneJoined, InfoSet}
use Rattle.zone_select.proofs.Given.{GivenAlike}
use Rattle.zone_select.proofs.Matched.{MatchedOption, matched-option_map, matched-changed}
use Rattle.zone_select.proofs.ZoneVoices.{CanSplit, CanJoin, voices_of-moved, voices_of-split, voices_of-joined}
use Rattle.zone_select.proofs.AlikeLaws.{HaveSameVoices, sound_same, owner_changed-alike}
use Rattle.zone_select.proofs.SameLaws.{samples-same, head-same, samples_renumbered-same, instruments_renumbered-same}

-- a sample found under a new number; its own link is renumbered too
renumbered_found : (xs ys : List Sample) (f : Sample → Sample) (t q : ℕ) → ((s : Sample) → HaveSameVoices s (f s))
    → slice_get ys q ≡ slice_get xs t → MatchedOption HaveSameVoices (slice_get xs t) (slice_get (map f ys) q)
renumbered_found xs ys f t q h e =
    subst (MatchedOption HaveSameVoices (slice_get xs t)) (sym (slice_get-map f ys q ∙ ap (option_map f) e))
    (matched-option_map HaveSameVoices f h (slice_get xs t))

differs : (t i : ℕ) → (t == i) ≡ false → t ≢ i
differs t i h = grind (arith, nat_tests)

can_split_there : {H : Type 0} (owners : List (ZoneOwner H)) (i k : ℕ) (axis : Axis) (m : ℕ) (x : ZoneOwner H)
    → is_splittable_at axis m owners i k ≡ true → slice_get owners i ≡ Some x → CanSplit axis m x.global x.zones k
can_split_there owners i k axis m x h e z f =
    split_at axis m x.global z
    (sym (there_split axis m owners i k (record { member = x; there = e; zone = z; zone_there = f })) ∙ h)

-- the own range of a valid zone, if it has one, is in order
rises : (at : Level) (axis : Axis) (z : Zone) (w : ℕ) → AreGenerators at z.gens → own_range axis z ≡ Some w
    → low_end w ≤ high_end w
rises at axis z w v e =
    subst (λ w. low_end w ≤ high_end w) (ap (λ o. unwrap_or o whole_range) e) (own_holds at axis z v).0

can_join_there : {H : Type 0} (name_of : H → List ℕ) (at : Level) (targets : ℕ) (owners : List (ZoneOwner H))
    (i k : ℕ) (axis : Axis) (keep : Keep) (x : ZoneOwner H)
    → IsOwner name_of at targets x → is_joinable_at axis keep owners i k ≡ true → slice_get owners i ≡ Some x
    → CanJoin axis keep x.global x.zones k
can_join_there name_of at targets owners i k axis keep x v h e y z f g =
    let both =
    joined_at axis keep x.global y z
    (sym (there_joined axis keep owners i k (record { member = x; there = e; zone = y; zone_there = f }) z g)
    ∙ h)
    in
    record {
      both = both;
      rises =
          rises at axis y both.first (all_found (IsZone at targets) x.zones k y f v.zones.zones).gens both.own_first;
      rises_too =
          rises at axis z both.second (all_found (IsZone at targets) x.zones (k + 1) z g v.zones.zones).gens
          both.own_second;
    }

-- ---- no zone gets another number: R holds for two banks with the same pairs and voices

module _ (R : Parts → Parts → Type 0) (same : (b c : Parts) → HaveSamePairs b c → R b c) where
  -- ---- samples

  pub sample_renamed_alike : SampleRenamed R
  unfolding voice_of parameters_of is_looped
  sample_renamed_alike b i name =
      same b _ (samples-same b _ (matched-changed HaveSameVoices sound_same (named name) b.samples i (λ s e n v u. refl)))

  pub kind_set_alike : KindSet R
  unfolding voice_of parameters_of is_looped
  kind_set_alike b i kind =
      same b _ (samples-same b _ (matched-changed HaveSameVoices sound_same (with_kind kind) b.samples i (λ s e n v u. refl)))

  pub sample_added_alike : SampleAdded R
  unfolding voice_of parameters_of is_looped
  sample_added_alike b i s inside =
      let renumbered_samples : List Sample = map (sample_renumbered (Insertion i)) b.samples in
      let long : i ≤ length renumbered_samples = simp length-map inside in
      same b _ (samples_renumbered-same b (Insertion i) (insert renumbered_samples i s)
      (owners_always (λ t. MatchedOption HaveSameVoices (slice_get b.samples t)
      (slice_get (insert renumbered_samples i s) (renumbered (Insertion i) t)))
      (λ t.
      subst (MatchedOption HaveSameVoices (slice_get b.samples t)) (sym (insertion_followed renumbered_samples i s t long))
      (renumbered_found b.samples b.samples (sample_renumbered (Insertion i)) t t (λ x n v u. refl) refl))
      b.instruments))

  pub sample_moved_alike : SampleMoved R
  unfolding voice_of parameters_of is_looped
  sample_moved_alike b i j there place =
      let renumbered_samples : List Sample = map (sample_renumbered (Move i j)) (moved b.samples i j) in
      same b _ (samples_renumbered-same b (Move i j) renumbered_samples
      (owners_always (λ t. MatchedOption HaveSameVoices (slice_get b.samples t) (slice_get renumbered_samples (renumbered (Move i j) t)))
      (λ t.
      renumbered_found b.samples (moved b.samples i j) (sample_renumbered (Move i j)) t (renumbered (Move i j) t)
      (λ s n v u. refl) (move_followed b.samples i j t there place))
      b.instruments))

  pub sample_removed_alike : SampleRemoved R
  unfolding voice_of parameters_of is_looped
  sample_removed_alike b i free =
      let renumbered_samples : List Sample = map (sample_renumbered (Removal i)) (remove b.samples i) in
      same b _ (samples_renumbered-same b (Removal i) renumbered_samples
      (owners_weaker (λ t. (t == i) ≡ false)
      (λ t. MatchedOption HaveSameVoices (slice_get b.samples t) (slice_get renumbered_samples (renumbered (Removal i) t)))
      (λ t e.
      renumbered_found b.samples (remove b.samples i) (sample_renumbered (Removal i)) t (renumbered (Removal i) t)
      (λ s n v u. refl) (removal_followed b.samples i t (differs t i e)))
      b.instruments (untargeted i b.instruments free)))

  -- ---- instruments

  pub instrument_renamed_alike : InstrumentRenamed R
  instrument_renamed_alike b i name = same b _ (head-same b i (with_head name) (λ x. (refl, refl)))

  pub instrument_added_alike : InstrumentAdded R
  instrument_added_alike b i x inside =
      same b _ (instruments_renumbered-same b (Insertion i) (insert b.instruments i x)
      (owners_always
      (λ t. slice_get (insert b.instruments i x) (renumbered (Insertion i) t) ≡ slice_get b.instruments t)
      (λ t. insertion_followed b.instruments i x t inside) b.presets))

  pub instrument_moved_alike : InstrumentMoved R
  instrument_moved_alike b i j there place =
      same b _ (instruments_renumbered-same b (Move i j) (moved b.instruments i j)
      (owners_always (λ t. slice_get (moved b.instruments i j) (renumbered (Move i j) t) ≡ slice_get b.instruments t)
      (λ t. move_followed b.instruments i j t there place) b.presets))

  pub instrument_removed_alike : InstrumentRemoved R
  instrument_removed_alike b i free =
      same b _ (instruments_renumbered-same b (Removal i) (remove b.instruments i)
      (owners_weaker (λ t. (t == i) ≡ false)
      (λ t. slice_get (remove b.instruments i) (renumbered (Removal i) t) ≡ slice_get b.instruments t)
      (λ t e. removal_followed b.instruments i t (differs t i e)) b.presets (untargeted i b.presets free)))

  -- ---- texts

  pub info_set_alike : InfoSet R
  unfolding pairs selected_pair
  info_set_alike b id text = same b _ (λ n. (refl, λ q. refl))

-- ---- zones get other numbers: R holds for two banks whose zones have the same voices for each note

module _ {X : Type 0} (g : Option Voice → List X) (R : Parts → Parts → Type 0)
    (h : (b c : Parts) → GivenAlike g b c → R b c) where
  pub zone_moved_alike : ZoneMoved R
  zone_moved_alike b (owner.Preset p) i j =
      h b _ (owner_changed-alike g b (owner.Preset p) (λ global zones. moved zones i j)
      (λ x e inside n. voices_of-moved inside n x.global x.zones i j))
  zone_moved_alike b (owner.Inst k) i j =
      h b _ (owner_changed-alike g b (owner.Inst k) (λ global zones. moved zones i j)
      (λ x e inside n. voices_of-moved inside n x.global x.zones i j))

  pub zone_split_alike : ZoneSplit R
  zone_split_alike b (owner.Preset p) k axis m small can =
      h b _ (owner_changed-alike g b (owner.Preset p) (λ global zones. zones_split axis m global zones k)
      (λ x e inside n.
      voices_of-split inside n axis m x.global x.zones k small (can_split_there b.presets p k axis m x can e)))
  zone_split_alike b (owner.Inst i) k axis m small can =
      h b _ (owner_changed-alike g b (owner.Inst i) (λ global zones. zones_split axis m global zones k)
      (λ x e inside n.
      voices_of-split inside n axis m x.global x.zones k small (can_split_there b.instruments i k axis m x can e)))

  pub zone_joined_alike : ZoneJoined R
  zone_joined_alike b (owner.Preset p) k axis keep v can =
      h b _ (owner_changed-alike g b (owner.Preset p) (λ global zones. zones_joined axis keep zones k)
      (λ x e inside n. voices_of-joined inside n axis keep x.global x.zones k
      (can_join_there (λ (h : Head). h.name) level.Preset (length b.instruments) b.presets p k axis keep x
      (all_found (IsPreset (length b.instruments)) b.presets p x e v.presets) can e)))
  zone_joined_alike b (owner.Inst i) k axis keep v can =
      h b _ (owner_changed-alike g b (owner.Inst i) (λ global zones. zones_joined axis keep zones k)
      (λ x e inside n. voices_of-joined inside n axis keep x.global x.zones k
      (can_join_there (λ name. name) level.Inst (length b.samples) b.instruments i k axis keep x
      (all_found (IsInstrument (length b.samples)) b.instruments i x e v.instruments) can e)))
