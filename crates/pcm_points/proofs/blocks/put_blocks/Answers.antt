use Rattle.std.proofs.Common.{◌≡◌, ◌<◌, ◌+◌, ◌*◌, ◌/◌, ℕ, List, length, drop, get_or, refl, ap, ◌∙◌, mul-pos, arith}
use Rattle.std.proofs.lemmas.List.{get_or-drop}
use Rattle.pcm_points.proofs.BlockLaws.{after_block, fewer_blocks}
use Rattle.pcm_points.proofs.blocks.put_blocks.Goals as goal

pub loop-rest-init : goal.loop-rest-init
loop-rest-init c =
    let size = c.size-size.ensures.value in
    record {
      all = refl;
      room = rw size c.requires.room;
      bytes = λ k. (c.type_inv.bytes k).fits;
    }

pub put_words-requires : goal.put_words-requires
put_words-requires c =
    let frame_size = c.args.channels * c.size-size.result in
    let below = c.requires.channel in
    let some : 0 < frame_size = mul-pos (omega (arith, below)) c.size-size.ensures.some in
    let whole = c.loop-rest-test.true in
    let fewer = fewer_blocks frame_size c.loop-rest.rest.now some (omega (arith, whole)) in
    let room = c.loop-rest.invariant.room in
    omega (arith, fewer, room)

pub loop-rest-preserved : goal.loop-rest-preserved
loop-rest-preserved c =
    let frame_size = c.args.channels * c.size-size.result in
    let rest = c.loop-rest.rest.now in
    let others = c.split_at.result.1.now in
    let back = c.split_at.ensures.back in
    let below = c.requires.channel in
    let some : 0 < frame_size = mul-pos (omega (arith, below)) c.size-size.ensures.some in
    let whole = c.loop-rest-test.true in
    let fewer = fewer_blocks frame_size rest some (omega (arith, whole)) in
    let count : length others / frame_size ≡ length (drop (8 * frame_size) rest) / frame_size =
    ap (λ (bs : List ℕ). length bs / frame_size) back in
    let len = c.put_words.ensures.len in
    let capacity = c.put_words.ensures.capacity in
    let room = c.loop-rest.invariant.room in
    let small = c.loop-rest.invariant.bytes in
    record {
      all =
          after_block c.args.encoding c.args.channels c.args.channel c.requires.is_integer below c.size-size.result
          c.shift-shift.result c.bias-bias.result c.size-size.ensures.value c.shift-shift.ensures.value
          c.bias-bias.ensures c.loop-rest.points.items c.put_words.new.points.items rest others c.windows.result
          c.align-numbers.result c.words.result small some whole back c.windows.ensures c.align-numbers.ensures
          c.words.ensures c.put_words.ensures.items
          ∙ c.loop-rest.invariant.all;
      room = omega (arith, fewer, count, len, capacity, room);
      bytes = λ k. let at : get_or others k 0 ≡ get_or rest (8 * frame_size + k) 0 =
          ap (λ (bs : List ℕ). get_or bs k 0) back ∙ get_or-drop (8 * frame_size) rest k 0 in
          let fits = small (8 * frame_size + k) in omega (arith, at, fits);
    }

pub returns-clause-all : goal.returns-clause-all
returns-clause-all c = c.loop-rest.invariant.all

pub returns-clause-room : goal.returns-clause-room
returns-clause-room c =
    let size = c.size-size.ensures.value in let room = c.loop-rest.invariant.room in rw size at room
