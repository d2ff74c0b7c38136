use Rattle.std.proofs.Common.{◌≡◌, ◌<◌, ◌+◌, ◌-◌, ◌*◌, ◌/◌, ℕ, List, ◌++◌, length, take, drop, ap, sym, ◌∙◌, append-nil}
use Rattle.std.proofs.Common.{mul-pos, arith}
use Rattle.rand_pcg.specs.Pcg.{output_xsh_rr}
use Rattle.pcm_points.specs.Dither.{wide, dithered_word}
use Rattle.pcm_points.proofs.ChannelLaws.{fewer_frames}
use Rattle.pcm_points.proofs.DitherLaws.{no_dithered_frame, after_dithered_frame}
use Rattle.pcm_points.proofs.dither.dithered_points.Goals as goal

pub loop-rest-preserved : goal.loop-rest-preserved
loop-rest-preserved c =
    let size = c.size-size.result in
    let frame_size = c.args.channels * size in
    let offset = c.args.channel * size in
    let rest = c.loop-rest.rest.now in
    let others = c.split_at.result.1.now in
    let state = c.loop-rest.generator.state in
    let below = c.requires.channel in
    let some : 0 < frame_size = mul-pos (omega (arith, below)) c.size-size.ensures.some in
    let fits = c.loop-rest-test.true in
    let exact : offset + size - offset ≡ size = omega arith in
    let word : c.dithered_word-word.result
    ≡ dithered_word (output_xsh_rr state)
    (wide c.args.encoding (take size (drop offset (take frame_size rest)))) =
    c.dithered_word-word.ensures.word
    ∙ (λ i. dithered_word (output_xsh_rr state)
    (wide c.args.encoding (take (exact i) (drop offset (c.split_at.ensures.front i))))) in
    let fewer = fewer_frames frame_size rest some fits in
    let count : length others / frame_size ≡ length (drop frame_size rest) / frame_size =
    ap (λ (bs : List ℕ). length bs / frame_size) c.split_at.ensures.back in
    let len = c.put_word.ensures.len in
    let capacity = c.put_word.ensures.capacity in
    let room = c.loop-rest.invariant.room in
    record {
      all =
          after_dithered_frame c.args.encoding c.args.channels c.args.channel size c.size-size.ensures.value
          c.loop-rest.generator c.dithered_word-word.new.generator c.loop-rest.points.items rest
          c.put_word.new.points.items others c.dithered_word-word.result some fits c.split_at.ensures.back word
          c.dithered_word-word.ensures.next c.put_word.ensures.items
          ∙ c.loop-rest.invariant.all;
      room = omega (arith, fewer, count, len, capacity, room);
    }

pub returns : goal.returns
returns c =
    let size = c.size-size.ensures.value in
    let none = no_dithered_frame c.args.encoding c.args.channels c.args.channel c.loop-rest.generator
    c.loop-rest.rest.now (rw size at c.loop-rest-test.false) in
    let all = c.loop-rest.invariant.all in
    sym (append-nil c.loop-rest.points.items) ∙ ap (λ (bs : List ℕ). c.loop-rest.points.items ++ bs) (sym none) ∙ all

pub put_word-requires : goal.put_word-requires
put_word-requires c =
    let frame_size = c.args.channels * c.size-size.result in
    let below = c.requires.channel in
    let some : 0 < frame_size = mul-pos (omega (arith, below)) c.size-size.ensures.some in
    let fewer = fewer_frames frame_size c.loop-rest.rest.now some c.loop-rest-test.true in
    let room = c.loop-rest.invariant.room in
    omega (arith, fewer, room)
