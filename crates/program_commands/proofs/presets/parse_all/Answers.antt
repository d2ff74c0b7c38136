use Rattle.program_commands.proofs.PresetLaws.{none_of_all, one_value_more}
use Rattle.program_commands.proofs.presets.parse_all.Goals as goal

-- A text names no value.
pub returns-in_default : goal.returns-in_default
returns-in_default g c = (
  tt,
  λ values named. absurd (none_of_all g.T.Named.IsNamed c.args.texts.now c.loop-text.text-index _ values.items
      c.loop-text-test.true c.in_default.ensures named),
)

-- Each text adds its value.
pub loop-text-preserved : goal.loop-text-preserved
loop-text-preserved g c = rw c.in_ok-push.ensures.items (one_value_more g.T.Named.IsNamed c.args.texts.now
    c.loop-text.text-index _ c.loop-text.values.items c.in-Some.value c.loop-text-test.true c.loop-text.invariant
    c.in-Some.ensures.0)
