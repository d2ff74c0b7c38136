-- The findings of a kind among all.
use Rattle.std.proofs.Common.{◌≡◌, ◌<◌, ◌+◌, ℕ, zero, suc, get_or, List, [], ◌∷◌, ◌++◌, refl, sym, ap, ◌∙◌, arith}
use Rattle.std.proofs.Common.{Bool, true, false, cond, ◌||◌, ◌&&◌, length, take}
use Rattle.std.proofs.Common.{Option, Some, None, append_assoc}
use Rattle.std.specs.Prelude.{◌==◌, ◌-◌, nat_lt, slice_get, IfSome}
use Rattle.std.specs.List.{filter, filter_map, flat_map, cons_option}
use Rattle.std.specs.Option.{option_map, option_and_then}
use Rattle.std.proofs.lemmas.Bool.{eq-eqb, ne_eqb}
use Rattle.std.proofs.lemmas.List.{append-nil}
use Rattle.std.proofs.lemmas.List.Elements.{filter-append}
use Rattle.bank_parts.specs.declared.parts.Head.{Head}
use Rattle.bank_parts.specs.declared.parts.Sample.{Sample}
use Rattle.bank_parts.specs.declared.parts.Parts.{Parts}
use Rattle.bank_changes.specs.declared.members.Place.TheVariants as place
use Rattle.bank_changes.specs.Members.{head_of}
use Rattle.zone_select.specs.Remaining.{zones_in}
use Rattle.show_zone_map.specs.Rectangles.{zone_numbers}
use Rattle.show_findings.specs.declared.finding.Finding.{Finding}
use Rattle.show_findings.specs.declared.finding.Finding.TheVariants.{HiddenPreset, UnselectableZone, UnusedInstrument}
use Rattle.show_findings.specs.declared.finding.Finding.TheVariants.{UnusedSample, OneSidedLink, ShortLoop, UnusualRate}
use Rattle.show_findings.specs.declared.finding.Finding.TheVariants.{ClickingLoop, ClippedSample, SilentSample}
use Rattle.show_findings.specs.declared.finding.Finding.TheVariants.{OffsetSample, OverriddenGenerator}
use Rattle.show_findings.specs.Numbers.{numbers, preset_owners, instrument_owners, owners}
use Rattle.show_findings.specs.Presets.{has_numbers_of, first_preset, hidden_preset, hidden_presets}
use Rattle.show_findings.specs.Zones.{is_selectable, unselectable_zone, unselectable_zones}
use Rattle.show_findings.specs.Uses.{targets_of, links_in, has, unused_instrument, unused_instruments, unused_sample}
use Rattle.show_findings.specs.Uses.{unused_samples}
use Rattle.show_findings.specs.Samples.{in_samples, side_link, links_to, one_sided_link, one_sided_links, short_loop}
use Rattle.show_findings.specs.Samples.{short_loops, is_usual_rate, unusual_rate, unusual_rates}
use Rattle.show_findings.specs.Clicks.{is_within, clicks, loop_jump, loop_step, clicking_loop}
use Rattle.show_findings.specs.Points.{is_silent, silent_sample, clipped_points, clipped_sample, mean_of, has_offset}
use Rattle.show_findings.specs.Points.{offset_sample}
use Rattle.show_findings.specs.Samples.{clicking_loops, clipped_samples, silent_samples, offset_samples}
use Rattle.show_findings.specs.Overridden.{entries_of, is_set_by_all, overridden_generator, overridden_generators}
use Rattle.show_findings.specs.Kinds.{kind_of, OfKind, AddsKind}

abbrev of : ℕ → List Finding → List Finding
of n fs = filter (λ f. kind_of f == n) fs

with_option : (n : ℕ) (o : Option Finding) (fs : List Finding) → IfSome o (λ f. kind_of f ≡ n) → OfKind n fs
    → OfKind n (cons_option o fs)
with_option n None fs h k = k
with_option n (Some f) fs h k = (h, k)

pub options_kind : {X : Type 0} (n : ℕ) (g : X → Option Finding) → ((x : X) → IfSome (g x) (λ f. kind_of f ≡ n))
    → (xs : List X) → OfKind n (filter_map g xs)
options_kind n g h [] = tt
options_kind n g h (x ∷ xs) = with_option n (g x) (filter_map g xs) (h x) (options_kind n g h xs)

appended : (n : ℕ) (fs gs : List Finding) → OfKind n fs → OfKind n gs → OfKind n (fs ++ gs)
appended n [] gs h k = k
appended n (f ∷ fs) gs h k = (h.0, appended n fs gs h.1 k)

pub lists_kind : {X : Type 0} (n : ℕ) (g : X → List Finding) → ((x : X) → OfKind n (g x)) → (xs : List X)
    → OfKind n (flat_map g xs)
lists_kind n g h [] = tt
lists_kind n g h (x ∷ xs) = appended n (g x) (flat_map g xs) (h x) (lists_kind n g h xs)

same : (n : ℕ) (fs : List Finding) → OfKind n fs → of n fs ≡ fs
same n [] h = refl
same n (f ∷ fs) h =
    ap (λ c. cond c (f ∷ of n fs) (of n fs)) (eq-eqb _ _ h.0) ∙ ap (λ gs. f ∷ gs) (same n fs h.1)

apart : (n m : ℕ) (fs : List Finding) → OfKind n fs → (n == m) ≡ false → of m fs ≡ []
apart n m [] h e = refl
apart n m (f ∷ fs) h e =
    ap (λ c. cond c (f ∷ of m fs) (of m fs)) (ap (λ k. k == m) h.0 ∙ e) ∙ apart n m fs h.1 e

-- ---- adding findings of one kind

pub kind_start : (n : ℕ) (fs : List Finding) → AddsKind n fs fs
kind_start n fs = record { more = []; is = sym (append-nil fs); kind = tt }

pub kind_more : (n : ℕ) (old now next : List Finding) (f : Finding) → kind_of f ≡ n → next ≡ now ++ f ∷ []
    → AddsKind n old now → AddsKind n old next
kind_more n old now next f e is h = record {
  more = h.more ++ f ∷ [];
  is = is ∙ ap (λ (fs : List Finding). fs ++ f ∷ []) h.is ∙ append_assoc old h.more (f ∷ []);
  kind = appended n h.more (f ∷ []) h.kind (e, tt);
}

-- ---- lists of findings, each of one kind

-- the lists one after the other
abbrev pub all_of : List (List Finding) → List Finding
all_of lists = flat_map (λ fs. fs) lists

-- the first list is of kind n, the next of kind n + 1, and so on
abbrev pub ByKind : ℕ → List (List Finding) → Type 0
ByKind n [] = Unit {0}
ByKind n (fs ∷ lists) = OfKind n fs × ByKind (n + 1) lists

later : (m n : ℕ) (lists : List (List Finding)) → m < n → ByKind n lists → of m (all_of lists) ≡ []
later m n [] lt h = refl
later m n (fs ∷ lists) lt h =
    filter-append (λ f. kind_of f == m) fs (all_of lists)
    ∙ ap (λ gs. gs ++ of m (all_of lists)) (apart n m fs h.0 (ne_eqb n m (λ e. omega (arith, e, lt))))
    ∙ later m (n + 1) lists (omega (arith, lt)) h.1

-- those of a kind are the list with its number
pub listed : (m n : ℕ) (lists : List (List Finding)) → ByKind n lists → of (n + m) (all_of lists) ≡ get_or lists m []
listed m n [] h = refl
listed zero n (fs ∷ lists) h =
    let z : n + 0 ≡ n = omega arith in
    rw z
    (filter-append (λ f. kind_of f == n) fs (all_of lists)
    ∙ ap (λ gs. gs ++ of n (all_of lists)) (same n fs h.0)
    ∙ ap (λ gs. fs ++ gs) (later n (n + 1) lists (omega arith) h.1) ∙ append-nil fs)
listed (suc m) n (fs ∷ lists) h =
    let s : n + suc m ≡ n + 1 + m = omega arith in
    rw s
    (filter-append (λ f. kind_of f == n + 1 + m) fs (all_of lists)
    ∙ ap (λ gs. gs ++ of (n + 1 + m) (all_of lists))
    (apart n (n + 1 + m) fs h.0 (ne_eqb n (n + 1 + m) (λ e. omega (arith, e))))
    ∙ listed m (n + 1) lists h.1)

-- ---- the kinds of each list

tested : (n : ℕ) (t : Bool) (f : Finding) → kind_of f ≡ n → IfSome (cond t None (Some f)) (λ g. kind_of g ≡ n)
tested n true f e = tt
tested n false f e = e

hidden_kind : (p : ℕ) (o : Option ℕ) → IfSome (option_map (λ (q : ℕ). HiddenPreset p q) o) (λ f. kind_of f ≡ 0)
unfolding kind_of
hidden_kind p None = tt
hidden_kind p (Some q) = refl

pub hidden_kinds : (b : Parts) → OfKind 0 (hidden_presets b)
unfolding hidden_presets
hidden_kinds b =
    options_kind 0 (hidden_preset b)
    (λ p. elim (head_of b p) as
    (λ (o : Option Head).
    IfSome
    (option_and_then
    (λ (h : Head). option_map (λ (q : ℕ). HiddenPreset p q) (first_preset (has_numbers_of h) (take p b.presets))) o)
    (λ f. kind_of f ≡ 0)) [
      | None ↦ tt
      | Some h ↦ hidden_kind p (first_preset (has_numbers_of h) (take p b.presets))
    ])
    (numbers (length b.presets))

pub zone_kinds : (b : Parts) → OfKind 1 (unselectable_zones b)
unfolding unselectable_zones kind_of
zone_kinds b =
    lists_kind 1 (λ o. filter_map (unselectable_zone b o) (zone_numbers b o))
    (λ o. options_kind 1 (unselectable_zone b o) (λ k. tested 1 (is_selectable b o k) (UnselectableZone o k) refl)
    (zone_numbers b o))
    (owners b)

pub instrument_kinds : (b : Parts) → OfKind 2 (unused_instruments b)
unfolding unused_instruments kind_of
instrument_kinds b =
    options_kind 2 (unused_instrument b)
    (λ i. tested 2 (has (targets_of b (preset_owners b)) i) (UnusedInstrument i) refl) (numbers (length b.instruments))

pub sample_kinds : (b : Parts) → OfKind 3 (unused_samples b)
unfolding unused_samples kind_of
sample_kinds b =
    options_kind 3 (unused_sample b)
    (λ s. tested 3 (has (targets_of b (instrument_owners b)) s || has (links_in b) s) (UnusedSample s) refl)
    (numbers (length b.samples))

-- ---- the kinds of what single samples show

module _ (n : ℕ) (test : ℕ → Sample → Option Finding) (b : Parts)
    (h : (k : ℕ) (s : Sample) → IfSome (test k s) (λ f. kind_of f ≡ n)) where
  at_sample : (k : ℕ) (o : Option Sample) → IfSome (option_and_then (test k) o) (λ f. kind_of f ≡ n)
  at_sample k None = tt
  at_sample k (Some s) = h k s

  pub in_samples_kind : OfKind n (in_samples test b)
  in_samples_kind =
      options_kind n (λ k. option_and_then (test k) (slice_get b.samples k)) (λ k. at_sample k (slice_get b.samples k))
      (numbers (length b.samples))

passed : (n : ℕ) (t : Bool) (f : Finding) → kind_of f ≡ n → IfSome (cond t (Some f) None) (λ g. kind_of g ≡ n)
passed n true f e = e
passed n false f e = tt

pub link_kinds : (b : Parts) → OfKind 7 (one_sided_links b)
unfolding one_sided_links kind_of
link_kinds b =
    in_samples_kind 7 (one_sided_link b) b
    (λ k s. elim (side_link s.kind) as
    (λ (o : Option ℕ).
    IfSome (option_and_then (λ (t : ℕ). cond (t == k || links_to b t k) None (Some (OneSidedLink k t))) o)
    (λ f. kind_of f ≡ 7)) [
      | None ↦ tt
      | Some t ↦ tested 7 (t == k || links_to b t k) (OneSidedLink k t) refl
    ])

pub loop_kinds : (b : Parts) → OfKind 8 (short_loops b)
unfolding short_loops kind_of
loop_kinds b =
    in_samples_kind 8 short_loop b
    (λ k s. elim s.looped as
    (λ (o : Option (ℕ × ℕ)).
    IfSome
    (option_and_then
    (λ (looped : ℕ × ℕ).
    cond (nat_lt (looped.1 - looped.0) 32) (Some (ShortLoop k (looped.1 - looped.0))) None) o)
    (λ f. kind_of f ≡ 8)) [
      | None ↦ tt
      | Some looped ↦ passed 8 (nat_lt (looped.1 - looped.0) 32) (ShortLoop k (looped.1 - looped.0)) refl
    ])

pub click_kinds : (b : Parts) → OfKind 9 (clicking_loops b)
unfolding clicking_loops kind_of
click_kinds b =
    in_samples_kind 9 clicking_loop b
    (λ k s. elim s.looped as
    (λ (o : Option (ℕ × ℕ)).
    IfSome
    (option_and_then
    (λ (looped : ℕ × ℕ).
    cond (is_within s.points looped && clicks s.points looped)
    (Some (ClickingLoop k (loop_jump s.points looped) (loop_step s.points looped))) None)
    o)
    (λ f. kind_of f ≡ 9)) [
      | None ↦ tt
      | Some looped ↦
          passed 9 (is_within s.points looped && clicks s.points looped)
          (ClickingLoop k (loop_jump s.points looped) (loop_step s.points looped)) refl
    ])

pub rate_kinds : (b : Parts) → OfKind 10 (unusual_rates b)
unfolding unusual_rates kind_of
rate_kinds b =
    in_samples_kind 10 unusual_rate b (λ k s. tested 10 (is_usual_rate s.rate) (UnusualRate k s.rate) refl)

pub silent_kinds : (b : Parts) → OfKind 12 (silent_samples b)
unfolding silent_samples kind_of
silent_kinds b = in_samples_kind 12 silent_sample b (λ k s. passed 12 (is_silent s.points) (SilentSample k) refl)

pub clipped_kinds : (b : Parts) → OfKind 11 (clipped_samples b)
unfolding clipped_samples kind_of
clipped_kinds b =
    in_samples_kind 11 clipped_sample b
    (λ k s. passed 11 (nat_lt 0 (clipped_points s.points)) (ClippedSample k (clipped_points s.points)) refl)

pub offset_kinds : (b : Parts) → OfKind 13 (offset_samples b)
unfolding offset_samples kind_of
offset_kinds b =
    in_samples_kind 13 offset_sample b
    (λ k s. passed 13 (has_offset s.points) (OffsetSample k (mean_of s.points)) refl)

pub overridden_kinds : (b : Parts) → OfKind 5 (overridden_generators b)
unfolding overridden_generators kind_of
overridden_kinds b =
    lists_kind 5 (λ o. filter_map (overridden_generator b o) (entries_of b o place.Global))
    (λ o. options_kind 5 (overridden_generator b o)
    (λ e. passed 5 (nat_lt 0 (zones_in b o) && is_set_by_all b o e.0) (OverriddenGenerator o e.0) refl)
    (entries_of b o place.Global))
    (owners b)
