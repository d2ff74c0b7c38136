use Rattle.std.proofs.Common.{ℕ, Option, unwrap_or, SFits, refl, ap, ◌∙◌, rules}
use Rattle.std.specs.Int.{w16, w32}
use Rattle.std.specs.Option.{is_some}
use Rattle.std.proofs.lemmas.Int.{to_z-of_z}
use Rattle.zone_select.specs.Amounts.{parameters_of}
use Rattle.zone_select.proofs.SampleRangeLaws.{loop_there, loop_start_is, loop_end_is}
use Rattle.zone_select.specs.ZoneSettings.{settings_of}
use Rattle.zone_select.proofs.parameters.parameters_of.Goals as goal

pub returns : goal.returns
unfolding parameters_of
returns c =
    let v = (settings_of c.args.zones.now.instrument) in
    let u = (settings_of c.args.zones.now.preset) in
    let s = c.args.sample.now in
    let ends =
    c.unwrap_or-loop_start.ensures
    ∙ ap (λ (o : Option (ℕ × ℕ)). unwrap_or o (0, 0)) c.loop_within-looped.ensures in
    let first = ap (λ (p : ℕ × ℕ). p.0) ends ∙ loop_start_is v u s in
    let after = ap (λ (p : ℕ × ℕ). p.1) ends ∙ loop_end_is v u s in
    let there =
    c.is_some.ensures ∙ ap (λ (o : Option (ℕ × ℕ)). is_some o) c.loop_within-looped.ensures ∙ loop_there v u s in
    let fa : SFits w32 c.attenuation.result = search rules in
    let fp : SFits w32 c.pan.result = search rules in
    let fc : SFits w16 c.exclusive_class.result = search rules in
    let attenuation = to_z-of_z w32 c.attenuation.result fa ∙ c.attenuation.ensures in
    let pan = to_z-of_z w32 c.pan.result fp ∙ c.pan.ensures in
    let class = to_z-of_z w16 c.exclusive_class.result fc ∙ c.exclusive_class.ensures in
    rw (
      c.sample_range-played.ensures.start,
      c.sample_range-played.ensures.end,
      first,
      after,
      there,
      c.requires.mode,
      c.phase_increment_of.ensures,
      c.time.ensures,
      c.moved_time.ensures,
      c.time-2.ensures,
      c.moved_time-2.ensures,
      c.moved_time-3.ensures,
      c.sustain.ensures,
      attenuation,
      pan,
      c.length.ensures.value,
      class,
    )
    refl
