use Rattle.sfbank_c.proofs.ScriptLaws.{SoFar}
use Rattle.sfbank_c.proofs.scripts.run_lines.Given as goal

-- the lines so far are done
abbrev pub invariant-loop-line : goal.invariant-loop-line
invariant-loop-line l = SoFar l.fn.session l.session l.fn.lines.items l.line-iterator.rest.items
