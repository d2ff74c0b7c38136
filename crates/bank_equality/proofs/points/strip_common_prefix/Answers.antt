use Rattle.std.proofs.Common.{◌≢◌, take, sym, ◌∙◌}
use Rattle.std.proofs.lemmas.Bool.Decides.{Decides-eqb}
use Rattle.std.proofs.lemmas.Slice.Eq.{slice_eq-Decides}
use Rattle.bank_equality.proofs.Reading.{go_on, begin_apart}
use Rattle.bank_equality.proofs.points.strip_common_prefix.Goals as goal

pub returns-then-eq-clause-value : goal.returns-then-eq-clause-value
returns-then-eq-clause-value c =
    let same =
    (slice_eq-Decides Decides-eqb c.split_at.result.0.now c.split_at-2.result.0.now c.eq.result c.eq.ensures).0
    c.if-eq.true in
    rw (c.split_at.ensures.back, c.split_at-2.ensures.back)
    (go_on c.args.a.now c.args.b.now c.min-count.result c.min-count.ensures
    (sym c.split_at.ensures.front ∙ same ∙ c.split_at-2.ensures.front))

pub returns-clause-value : goal.returns-clause-value
returns-clause-value c =
    let decided =
    slice_eq-Decides Decides-eqb c.split_at.result.0.now c.split_at-2.result.0.now c.eq.result c.eq.ensures in
    let apart : take c.min-count.result c.args.a.now ≢ take c.min-count.result c.args.b.now =
    λ e. let t =
    decided.1 (c.split_at.ensures.front ∙ e ∙ sym c.split_at-2.ensures.front) in let f =
    c.if-eq.false in absurd cc in
    begin_apart c.args.a.now c.args.b.now c.min-count.result c.min-count.ensures apart
