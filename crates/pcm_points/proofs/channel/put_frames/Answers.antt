use Rattle.std.proofs.Common.{◌≡◌, ◌<◌, ◌+◌, ◌-◌, ◌*◌, ◌/◌, ℕ, List, ◌++◌, length, take, drop}
use Rattle.std.proofs.Common.{refl, ap, sym, ◌∙◌, append-nil, mul-pos, arith}
use Rattle.pcm_points.specs.Points.{point_word}
use Rattle.pcm_points.proofs.ChannelLaws.{no_frame, after_frame, fewer_frames}
use Rattle.pcm_points.proofs.channel.put_frames.Goals as goal

pub loop-rest-init : goal.loop-rest-init
loop-rest-init c =
    let size = c.size-size.ensures.value in
    record { all = refl; room = rw size c.requires.room }

pub loop-rest-preserved : goal.loop-rest-preserved
loop-rest-preserved c =
    let size = c.size-size.result in
    let frame_size = c.args.channels * size in
    let offset = c.args.channel * size in
    let rest = c.loop-rest.rest.now in
    let others = c.split_at.result.1.now in
    let below = c.requires.channel in
    let some : 0 < frame_size = mul-pos (omega (arith, below)) c.size-size.ensures.some in
    let fits = c.loop-rest-test.true in
    let exact : offset + size - offset ≡ size = omega arith in
    let word : c.point_word-word.result ≡ point_word c.args.encoding (take size (drop offset (take frame_size rest))) =
    c.point_word-word.ensures
    ∙ (λ i. point_word c.args.encoding (take (exact i) (drop offset (c.split_at.ensures.front i)))) in
    let fewer = fewer_frames frame_size rest some fits in
    let count : length others / frame_size ≡ length (drop frame_size rest) / frame_size =
    ap (λ (bs : List ℕ). length bs / frame_size) c.split_at.ensures.back in
    let len = c.put_word.ensures.len in
    let capacity = c.put_word.ensures.capacity in
    let room = c.loop-rest.invariant.room in
    record {
      all =
          after_frame c.args.encoding c.args.channels c.args.channel size c.size-size.ensures.value
          c.loop-rest.points.items rest c.put_word.new.points.items others c.point_word-word.result some fits
          c.split_at.ensures.back word c.put_word.ensures.items
          ∙ c.loop-rest.invariant.all;
      room = omega (arith, fewer, count, len, capacity, room);
    }

pub returns : goal.returns
returns c =
    let size = c.size-size.ensures.value in
    let none = no_frame c.args.encoding c.args.channels c.args.channel c.loop-rest.rest.now
    (rw size at c.loop-rest-test.false) in
    let all = c.loop-rest.invariant.all in
    sym (append-nil c.loop-rest.points.items) ∙ ap (λ (bs : List ℕ). c.loop-rest.points.items ++ bs) (sym none) ∙ all
