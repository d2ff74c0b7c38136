use Rattle.std.proofs.Common.{◌≡◌, ◌∷◌, ℕ, drop, Ok, ap, sym, ◌∙◌, rules}
use Rattle.riff_chunks.specs.Walk.{Chunk}
use Rattle.wave_file.specs.Wave.{DATA}
use Rattle.wave_file.proofs.DataLaws.{goes_on, is_reached}
use Rattle.wave_file.proofs.data_range.data_range.Goals as goal

pub returns-then-eq : goal.returns-then-eq
unfolding DATA
returns-then-eq c =
    let chunk : Chunk = record { id = c.in-Ok.chunk.0; body = c.in-Ok.chunk.1.now } in
    let next : c.loop-item.item-iterator ≡ Ok chunk ∷ c.next.new.self = search rules in
    is_reached c.args.window.now c.loop-item.rest.now c.loop-item.item-iterator c.next.new.self chunk
    c.loop-item.invariant.2 next (sym c.eq.ensures ∙ c.if-eq.true)

pub loop-item-preserved : goal.loop-item-preserved
unfolding DATA
loop-item-preserved c =
    let chunk : Chunk = record { id = c.in-Ok.chunk.0; body = c.in-Ok.chunk.1.now } in
    let next : c.loop-item.item-iterator ≡ Ok chunk ∷ c.next.new.self = search rules in (
      tt,
      tt,
      goes_on c.args.window.now c.loop-item.rest.now c.rest_from-rest.result.now c.loop-item.item-iterator
          c.next.new.self chunk c.loop-item.invariant.2 next (sym c.eq.ensures ∙ c.if-eq.false)
          (c.rest_from-rest.ensures ∙ ap (λ (n : ℕ). drop n c.loop-item.rest.now) c.chunk_size.ensures),
    )
