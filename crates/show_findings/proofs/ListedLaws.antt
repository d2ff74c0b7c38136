-- The findings of all kinds, one kind after the other.
use Rattle.std.proofs.Common.{◌≡◌, List, [], ◌∷◌, ◌++◌, ℕ, ◌+◌, ap, ◌∙◌, arith, subst, append_assoc, get_or}
use Rattle.std.specs.Prelude.{◌==◌}
use Rattle.std.specs.List.{filter}
use Rattle.std.proofs.lemmas.List.{append-nil}
use Rattle.bank_parts.specs.declared.parts.Parts.{Parts}
use Rattle.show_findings.specs.declared.finding.Finding.{Finding}
use Rattle.show_findings.specs.Kinds.{kind_of, AddsKind}
use Rattle.show_findings.specs.Presets.{hidden_presets}
use Rattle.show_findings.specs.Zones.{unselectable_zones}
use Rattle.show_findings.specs.Uses.{unused_instruments, unused_samples}
use Rattle.show_findings.specs.Overridden.{overridden_generators}
use Rattle.show_findings.specs.Samples.{one_sided_links, short_loops, clicking_loops, unusual_rates}
use Rattle.show_findings.specs.Samples.{clipped_samples, silent_samples, offset_samples}
use Rattle.show_findings.specs.Findings.{AreFindings, unused_findings, AddsZoneFindings, sample_findings}
use Rattle.show_findings.proofs.KindLaws.{all_of, ByKind, listed, hidden_kinds, zone_kinds, instrument_kinds}
use Rattle.show_findings.proofs.KindLaws.{sample_kinds}
use Rattle.show_findings.proofs.KindLaws.{overridden_kinds, link_kinds, loop_kinds, click_kinds, rate_kinds}
use Rattle.show_findings.proofs.KindLaws.{clipped_kinds, silent_kinds}
use Rattle.show_findings.proofs.KindLaws.{offset_kinds}

module _ (b : Parts) (none unused zones samples all : List Finding) (empty : none ≡ [])
    (adds : unused ≡ none ++ unused_findings b) (z : AddsZoneFindings b unused zones)
    (more : samples ≡ zones ++ sample_findings b) (p : AddsKind 14 samples all) where
  abbrev lists : List (List Finding)
  lists =
      hidden_presets b ∷ unselectable_zones b ∷ unused_instruments b ∷ unused_samples b ∷ z.keys
      ∷ overridden_generators b
      ∷ z.outside ∷ one_sided_links b ∷ short_loops b ∷ clicking_loops b ∷ unusual_rates b ∷ clipped_samples b
      ∷ silent_samples b ∷ offset_samples b ∷ p.more
      ∷ []

  by_kind : ByKind 0 lists
  by_kind = (
    hidden_kinds b,
    (
      zone_kinds b,
      (
        instrument_kinds b,
        (
          sample_kinds b,
          (
            z.are_keys,
            (
              overridden_kinds b,
              (
                z.are_outside,
                (
                  link_kinds b,
                  (
                    loop_kinds b,
                    (
                      click_kinds b,
                      (
                        rate_kinds b,
                        (clipped_kinds b, (silent_kinds b, (offset_kinds b, (p.kind, tt)))),
                      ),
                    ),
                  ),
                ),
              ),
            ),
          ),
        ),
      ),
    ),
  )

  whole : all ≡ all_of lists
  whole =
      p.is
      ∙ ap (λ (fs : List Finding). fs ++ p.more)
      (more
      ∙ ap (λ (fs : List Finding). fs ++ sample_findings b)
      (z.is
      ∙ ap (λ (fs : List Finding). fs ++ (z.keys ++ (overridden_generators b ++ z.outside)))
      (adds ∙ ap (λ (fs : List Finding). fs ++ unused_findings b) empty)))
      ∙ simp (append_assoc, append-nil)

  kind : (m : ℕ) → filter (λ f. kind_of f == m) all ≡ get_or lists m []
  kind m =
      let z : 0 + m ≡ m = omega arith in
      ap (filter (λ f. kind_of f == m)) whole
      ∙ subst (λ k. filter (λ f. kind_of f == k) (all_of lists) ≡ get_or lists m []) z (listed m 0 lists by_kind)

  pub are_findings : AreFindings b all
  are_findings = record {
    hidden_presets = kind 0;
    unselectable_zones = kind 1;
    unused_instruments = kind 2;
    unused_samples = kind 3;
    overridden_generators = kind 5;
    one_sided_links = kind 7;
    short_loops = kind 8;
    clicking_loops = kind 9;
    unusual_rates = kind 10;
    clipped_samples = kind 11;
    silent_samples = kind 12;
    offset_samples = kind 13;
  }
