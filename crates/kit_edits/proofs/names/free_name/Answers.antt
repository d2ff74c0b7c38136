use Rattle.std.proofs.Common.{◌+◌, Bool, List, ℕ, Some, None, sym, ap, ◌∙◌}
use Rattle.kit_edits.specs.Names.{has_name, is_free, candidate}
use Rattle.kit_edits.proofs.SearchLaws.{found_here, not_here, nowhere, is_free_name}
use Rattle.kit_edits.proofs.names.free_name.Goals as goal

pub loop-i-preserved : goal.loop-i-preserved
loop-i-preserved c =
    let test : List ℕ → Bool = is_free (has_name c.args.used.now) c.args.is_stereo in
    c.loop-i.invariant
    ∙ not_here test c.own_length-most.result c.args.stem.now c.loop-i.i c.loop-i-test.true
    (ap test (sym c.candidate-name.ensures.value) ∙ sym c.is_free.ensures ∙ c.if-is_free.false)

pub returns-then-is_free-clause-value : goal.returns-then-is_free-clause-value
returns-then-is_free-clause-value c =
    let test : List ℕ → Bool = is_free (has_name c.args.used.now) c.args.is_stereo in
    let most = c.own_length-most.result in
    let stem = c.args.stem.now in
    is_free_name (has_name c.args.used.now) c.args.is_stereo stem most c.candidate-name.result
    (Some (candidate most stem (c.loop-i.i + 1))) c.own_length-most.ensures
    (found_here test most stem c.loop-i.i c.loop-i-test.true c.loop-i.invariant
    (ap test (sym c.candidate-name.ensures.value) ∙ sym c.is_free.ensures ∙ c.if-is_free.true))
    c.candidate-name.ensures.value

pub returns-clause-value : goal.returns-clause-value
returns-clause-value c =
    let test : List ℕ → Bool = is_free (has_name c.args.used.now) c.args.is_stereo in
    let most = c.own_length-most.result in
    let stem = c.args.stem.now in
    is_free_name (has_name c.args.used.now) c.args.is_stereo stem most c.candidate.result None c.own_length-most.ensures
    (c.loop-i.invariant ∙ nowhere test most stem c.loop-i.i c.loop-i-test.false) c.candidate.ensures.value
