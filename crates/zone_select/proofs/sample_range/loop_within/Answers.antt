use Rattle.std.proofs.Common.{rules, ◌≡◌, ◌==◌, ◌||◌, Bool, ℕ, ℤ, ◌+ℤ◌, pos, to_z, of_z, sym, ap, ◌∙◌, arith}
use Rattle.std.specs.Int.{w64}
use Rattle.std.proofs.lemmas.Int.{ints}
use Rattle.zone_select.proofs.SampleRangeLaws.{no_loop, not_asked, loop_by}
use Rattle.zone_select.specs.ZoneSettings.{settings_of}
use Rattle.zone_select.proofs.sample_range.loop_within.Goals as goal

-- whether a sample mode has a loop
abbrev mode_loops : ℕ → Bool
mode_loops mode = mode == 1 || mode == 3

pub returns-in_err-first : goal.returns-in_err-first
returns-in_err-first c =
    rw
    (sym
    (no_loop (settings_of c.args.zones.now.instrument)
    (settings_of c.args.zones.now.preset) c.args.sample.now c.in_err-first.was))
    (search rules)

pub returns-then-not-mode_has_loop : goal.returns-then-not-mode_has_loop
returns-then-not-mode_has_loop c =
    not_asked (settings_of c.args.zones.now.instrument) (settings_of c.args.zones.now.preset)
    c.args.sample.now (ap mode_loops (sym c.requires.mode) ∙ sym c.mode_has_loop.ensures ∙ c.if-not-mode_has_loop.true)

pub returns : goal.returns
returns c =
    let v = (settings_of c.args.zones.now.instrument) in
    let u = (settings_of c.args.zones.now.preset) in
    let later = c.offset-later.ensures.within in
    let longer = c.offset-longer.ensures.within in
    let x : to_z w64 (of_z w64 (to_z w64 (of_z w64 c.from.result) +ℤ to_z w64 (of_z w64 c.offset-later.result)))
    ≡ pos c.in_ok-first.first +ℤ c.offset-later.result =
    omega (arith, ints, c.from.ensures, later.0, later.1) in
    let y : to_z w64 (of_z w64 (to_z w64 (of_z w64 c.from-2.result) +ℤ to_z w64 (of_z w64 c.offset-longer.result)))
    ≡ pos c.in_ok-first.after +ℤ c.offset-longer.result =
    omega (arith, ints, c.from-2.ensures, longer.0, longer.1) in
    c.ends_within.ensures
    ∙ loop_by v u c.args.sample.now (c.in_ok-first.first, c.in_ok-first.after)
    (to_z w64 (of_z w64 (to_z w64 (of_z w64 c.from.result) +ℤ to_z w64 (of_z w64 c.offset-later.result))))
    (to_z w64 (of_z w64 (to_z w64 (of_z w64 c.from-2.result) +ℤ to_z w64 (of_z w64 c.offset-longer.result))))
    c.args.played.now.start c.args.played.now.end c.in_ok-first.was
    (ap mode_loops (sym c.requires.mode) ∙ sym c.mode_has_loop.ensures ∙ c.if-not-mode_has_loop.false)
    (x ∙ ap (λ (z : ℤ). pos c.in_ok-first.first +ℤ z) c.offset-later.ensures.value)
    (y ∙ ap (λ (z : ℤ). pos c.in_ok-first.after +ℤ z) c.offset-longer.ensures.value) c.requires.start
    c.requires.end
