use Rattle.std.proofs.Common.{◌≡◌, ◌∙◌, max, arith}
use Rattle.mixer.proofs.Selected.{release_first, release_next, release_last}
use Rattle.mixer.proofs.rendering.last_release.Goals as goal

pub loop-pair-init : goal.loop-pair-init
loop-pair-init c = record {
  can_next = tt;
  is_finite = tt;
  left =
      release_first c.args.bank.now c.args.note.now _
      (c.into_iter-pair-iterator.ensures.into_iter_gives ∙ c.matches-pair-items.ensures);
  most = omega arith;
}

pub loop-pair-preserved : goal.loop-pair-preserved
loop-pair-preserved c =
    let more : c.max-last.result ≡ max c.release_of.result c.loop-pair.last = omega arith in
    record {
      can_next = tt;
      is_finite = tt;
      left =
          release_next c.args.bank.now c.args.note.now c.in-Some.pair c.next.new.self c.loop-pair.pair-iterator
          c.release_of.result c.loop-pair.last c.max-last.result _
          c.in-Some.ensures.steps c.release_of.ensures.value more c.loop-pair.invariant.left;
      most = omega (arith, c.release_of.ensures.most, c.loop-pair.invariant.most);
    }

pub returns-clause-value : goal.returns-clause-value
returns-clause-value c =
    release_last c.args.bank.now c.args.note.now c.loop-pair.pair-iterator c.loop-pair.last _
    c.in-None.ensures.steps.0 c.loop-pair.invariant.left
