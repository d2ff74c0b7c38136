-- The findings of a bank.
use Rattle.std.specs.Prelude.{◌≡◌, List, ◌++◌}
use Rattle.std.specs.List.{filter}
use Rattle.bank_parts.specs.declared.parts.Parts.{Parts}
use Rattle.show_findings.specs.declared.finding.Finding.{Finding}
use Rattle.show_findings.specs.declared.findings.TheConstants.{SILENT_KEYS, OUTSIDE_RANGE}
use Rattle.show_findings.specs.Kinds.{is_hidden_preset, is_unselectable_zone, is_unused_instrument, is_unused_sample}
use Rattle.show_findings.specs.Kinds.{is_overridden_generator, is_one_sided_link, is_short_loop, is_clicking_loop}
use Rattle.show_findings.specs.Kinds.{is_unusual_rate}
use Rattle.show_findings.specs.Kinds.{is_clipped_sample, is_silent_sample, is_offset_sample, OfKind}
use Rattle.show_findings.specs.Presets.{hidden_presets}
use Rattle.show_findings.specs.Zones.{unselectable_zones}
use Rattle.show_findings.specs.Uses.{unused_instruments, unused_samples}
use Rattle.show_findings.specs.Overridden.{overridden_generators}
use Rattle.show_findings.specs.Samples.{one_sided_links, short_loops, clicking_loops, unusual_rates}
use Rattle.show_findings.specs.Samples.{clipped_samples, silent_samples, offset_samples}

-- Findings of the bank: of the kinds that are defined, exactly those that it has, in order.
pub record AreFindings (b : Parts) (findings : List Finding) : Type 0 where
  pub hidden_presets : filter is_hidden_preset findings ≡ hidden_presets b
  pub unselectable_zones : filter is_unselectable_zone findings ≡ unselectable_zones b
  pub unused_instruments : filter is_unused_instrument findings ≡ unused_instruments b
  pub unused_samples : filter is_unused_sample findings ≡ unused_samples b
  pub overridden_generators : filter is_overridden_generator findings ≡ overridden_generators b
  pub one_sided_links : filter is_one_sided_link findings ≡ one_sided_links b
  pub short_loops : filter is_short_loop findings ≡ short_loops b
  pub clicking_loops : filter is_clicking_loop findings ≡ clicking_loops b
  pub unusual_rates : filter is_unusual_rate findings ≡ unusual_rates b
  pub clipped_samples : filter is_clipped_sample findings ≡ clipped_samples b
  pub silent_samples : filter is_silent_sample findings ≡ silent_samples b
  pub offset_samples : filter is_offset_sample findings ≡ offset_samples b

-- ---- findings by groups of kinds, in the order of the kinds

-- those of unused members, and of presets and zones that no note reaches
abbrev pub unused_findings : Parts → List Finding
unused_findings b = hidden_presets b ++ (unselectable_zones b ++ (unused_instruments b ++ unused_samples b))

-- findings about what zones set are added
pub record AddsZoneFindings (b : Parts) (old new : List Finding) : Type 0 where
  pub keys : List Finding
  pub outside : List Finding
  pub are_keys : OfKind SILENT_KEYS keys
  pub are_outside : OfKind OUTSIDE_RANGE outside
  pub is : new ≡ old ++ (keys ++ (overridden_generators b ++ outside))

-- those of single samples
abbrev pub sample_findings : Parts → List Finding
sample_findings b =
    one_sided_links b
    ++ (short_loops b
    ++ (clicking_loops b ++ (unusual_rates b ++ (clipped_samples b ++ (silent_samples b ++ offset_samples b)))))
