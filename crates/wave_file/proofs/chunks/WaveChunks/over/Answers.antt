use Rattle.std.proofs.Common.{◌≡◌, ◌∷◌, ℕ, drop, Ok, Err, refl, ap, ◌∙◌, rules}
use Rattle.riff_chunks.specs.Walk.{Chunk}
use Rattle.wave_file.specs.Kept.{kept}
use Rattle.wave_file.proofs.KeptLaws.{walk_starts, walk_goes_on, walk_is_cut, walk_ends}
use Rattle.wave_file.proofs.chunks.WaveChunks.over.Goals as goal

pub loop-item-init : goal.loop-item-init
loop-item-init c = (
  tt,
  tt,
  walk_starts c.args.window.now c.into_iter-item-iterator.result (kept c.none-bodies.result) (search rules)
      c.none-bodies.ensures,
)

pub loop-item-preserved : goal.loop-item-preserved
loop-item-preserved c =
    let chunk : Chunk = record { id = c.in-Ok.chunk.0; body = c.in-Ok.chunk.1.now } in
    let next : c.loop-item.item-iterator ≡ Ok chunk ∷ c.next.new.self = search rules in (
      tt,
      tt,
      walk_goes_on c.args.window.now c.loop-item.item-iterator c.next.new.self chunk (kept c.loop-item.bodies)
          (kept c.keep.new.self) c.loop-item.rest.now c.rest_from-rest.result.now c.loop-item.invariant.2 next
          c.keep.ensures
          (c.rest_from-rest.ensures ∙ ap (λ (n : ℕ). drop n c.loop-item.rest.now) c.chunk_size.ensures),
    )

pub with_rest-requires-clause-cut : goal.with_rest-requires-clause-cut
with_rest-requires-clause-cut c =
    let next : c.loop-item.item-iterator ≡ Err c.in_default.field-0 ∷ c.next.new.self = search rules in
    (walk_is_cut _ _ _ _ _ _ c.loop-item.invariant.2 next).0

pub with_rest-requires-clause-rest : goal.with_rest-requires-clause-rest
with_rest-requires-clause-rest c =
    let next : c.loop-item.item-iterator ≡ Err c.in_default.field-0 ∷ c.next.new.self = search rules in
    (walk_is_cut _ _ _ _ _ _ c.loop-item.invariant.2 next).1

pub with_rest-requires-clause-found : goal.with_rest-requires-clause-found
with_rest-requires-clause-found c =
    let next : c.loop-item.item-iterator ≡ Err c.in_default.field-0 ∷ c.next.new.self = search rules in
    (walk_is_cut _ _ _ _ _ _ c.loop-item.invariant.2 next).2

pub invariant_of-result : goal.invariant_of-result
invariant_of-result c = (walk_ends _ _ _ _ c.loop-item.invariant.2 c.in-None.ensures.steps.0).1

pub returns : goal.returns
returns c =
    let whole = (walk_ends _ _ _ _ c.loop-item.invariant.2 c.in-None.ensures.steps.0).0 in
    (rw whole refl, refl)
