use Rattle.std.proofs.Common.{◌≡◌, [], ◌∷◌, ◌++◌, ◌∙◌, ap, rules}
use Rattle.sfbank_c.proofs.ScriptLaws.{done_more, one_more}
use Rattle.sfbank_c.proofs.scripts.run_lines.Goals as goal

pub loop-line-preserved : goal.loop-line-preserved
loop-line-preserved c =
    let s = c.loop-line.invariant in
    let l = c.in-Some.line in
    let rest : c.loop-line.line-iterator.rest.items ≡ l ∷ c.next.new.self.rest.items = search rules in
    record {
      before = s.before ++ l ∷ [];
      parts = s.parts ∙ ap (λ lines. s.before ++ lines) rest ∙ one_more s.before c.next.new.self.rest.items l;
      done =
          done_more c.args.session.now c.loop-line.session c.run_line.new.session s.before l s.done
          c.in_ok-run_line.ensures.done;
    }
