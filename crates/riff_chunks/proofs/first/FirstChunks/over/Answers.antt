use Rattle.std.proofs.Common.{◌≡◌, ◌∷◌, ◌∙◌, Ok, List, sym, ap, subst, rules}
use Rattle.riff_chunks.specs.Walk.{Chunk, Item, walk}
use Rattle.riff_chunks.specs.Finding.{chunks_in, is_whole}
use Rattle.riff_chunks.specs.First.{AreFirstSoFar}
use Rattle.riff_chunks.proofs.FirstLaws.{first_more, first_all}
use Rattle.riff_chunks.proofs.first.FirstChunks.over.Goals as goal

pub loop-item-preserved : goal.loop-item-preserved
loop-item-preserved c =
    let chunk : Chunk = record { id = c.in_ok-chunk.chunk.0; body = c.in_ok-chunk.chunk.1.now } in
    let next : c.loop-item.item-iterator ≡ Ok chunk ∷ c.next.new.self = search rules in
    let inv = c.loop-item.invariant in
    let ids = c.args.ids.now in
    let all = chunks_in (walk c.args.window.now) in (
      tt,
      tt,
      sym (ap is_whole next) ∙ inv.2,
      first_more ids c.loop-item.bodies c.keep_first.new.bodies chunk (chunks_in c.next.new.self) all
          (subst (λ (is : List Item). AreFirstSoFar ids c.loop-item.bodies (chunks_in is) all) next inv.3)
          c.keep_first.ensures,
    )

pub invariant_of-result : goal.invariant_of-result
invariant_of-result c =
    let inv = c.loop-item.invariant in
    let ids = c.args.ids.now in
    let all = chunks_in (walk c.args.window.now) in
    first_all ids c.loop-item.bodies all
    (subst (λ (is : List Item). AreFirstSoFar ids c.loop-item.bodies (chunks_in is) all)
    c.in-None.ensures.steps.0 inv.3)
