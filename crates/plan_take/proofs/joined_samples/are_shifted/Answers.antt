use Rattle.std.proofs.Common.{◌≡◌, ◌≤◌, length, ◌∙◌, sym, arith, rules}
use Rattle.std.proofs.lemmas.Option.{slice_get-map}
use Rattle.plan_take.specs.Shifted.{sample_shifted}
use Rattle.plan_take.proofs.JoinLaws.{same_members, length-mapped}
use Rattle.plan_take.proofs.joined_samples.are_shifted.Goals as goal

pub returns : goal.returns
returns c t =
    let samples = c.args.samples.now in
    let others = c.args.others.now in
    let f = sample_shifted c.args.by in
    let as_many : length samples ≡ length others = search rules in
    let all : length others ≤ c.loop-i.i = search rules in
    same_members samples _ (as_many ∙ sym (length-mapped f others))
    (λ m lt. c.loop-i.invariant m (omega (arith, as_many)) ∙ sym (slice_get-map f others m))
