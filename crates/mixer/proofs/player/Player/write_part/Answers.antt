use Rattle.std.proofs.Common.{◌≡◌, ℕ, ℤ, ◌+◌, ◌/◌, ◌<◌, ◌++◌, List, pos, get_or, map, drop, length, sym, ap, ◌∙◌, arith}
use Rattle.std.proofs.lemmas.Grind.{common_steps}
use Rattle.mixer.specs.declared.playing.PlayingVoice.{PlayingVoice}
use Rattle.mixer.specs.Events.{after_block, next_side}
use Rattle.mixer.specs.Ahead.{rewound}
use Rattle.mixer.proofs.Parts.{filter_all}
use Rattle.mixer.proofs.AheadLaws.{none_playing, room_of, ahead_later, playing_later, next_side_playing}
use Rattle.mixer.proofs.player.Player.write_part.Goals as goal

written_first : (new rest : List ℤ) (k : ℕ) → k < length new
    → get_or (new ++ rest) k (pos 0) ≡ get_or new k (pos 0)
written_first new rest k l = grind (arith, common_steps)

pub returns-then-self-eq0-clause-heard : goal.returns-then-self-eq0-clause-heard
returns-then-self-eq0-clause-heard g c k h =
    let a = c.sum_ahead.new.ahead in
    let vs = c.sum_ahead.new.voices.items in
    let none : a.left ≡ 0 = omega arith in
    let now : vs ≡ c.args.self.now =
    sym (none_playing a vs none ∙ filter_all vs (c.sum_ahead.ensures.sounding none)) ∙ c.sum_ahead.ensures.same
    ∙ c.self.view_is in
    let slice_is : c.as_mut_slice.result.now ≡ vs = grind (arith, common_steps) in
    let size : length c.mix_part.new.out ≡ c.min-n.result = grind (arith, common_steps) in
    let l : k < length c.mix_part.new.out = omega (arith, h, size) in
    written_first c.mix_part.new.out (drop c.min-n.result c.args.out.now) k l
    ∙ c.mix_part.ensures.value k l ∙ ap (λ (ps : List PlayingVoice). next_side ps k) (slice_is ∙ now)

pub returns-then-self-eq0-clause-live : goal.returns-then-self-eq0-clause-live
unfolding after_block
returns-then-self-eq0-clause-live g c =
    let a = c.sum_ahead.new.ahead in
    let vs = c.sum_ahead.new.voices.items in
    let ds = c.drop_over.new.voices.items in
    let none : a.left ≡ 0 = omega arith in
    let now : vs ≡ c.args.self.now =
    sym (none_playing a vs none ∙ filter_all vs (c.sum_ahead.ensures.sounding none)) ∙ c.sum_ahead.ensures.same
    ∙ c.self.view_is in
    let size : length c.mix_part.new.out ≡ c.min-n.result = grind (arith, common_steps) in
    let live : ds ≡ after_block vs (length c.mix_part.new.out / 2) = grind (arith, common_steps) in
    none_playing a ds none ∙ filter_all ds c.drop_over.ensures.sounding ∙ live
    ∙ (λ j. after_block (now j) (size j / 2))

pub write_frames-requires-clause-room : goal.write_frames-requires-clause-room
write_frames-requires-clause-room g c = room_of c.sum_ahead.new.ahead c.sum_ahead.new.voices.items c.sum_ahead.ensures.ahead

pub invariant_of-self-2 : goal.invariant_of-self-2
invariant_of-self-2 g c =
    ahead_later c.sum_ahead.new.ahead _ c.sum_ahead.new.voices.items _ c.write_frames.ensures.left c.write_frames.ensures.sums
    c.sum_ahead.ensures.ahead

pub returns-clause-heard : goal.returns-clause-heard
returns-clause-heard g c k h =
    let a = c.sum_ahead.new.ahead in
    let vs = c.sum_ahead.new.voices.items in
    let size : length c.write_frames.new.out ≡ c.min-n-2.result = grind (arith, common_steps) in
    let l : k < length c.write_frames.new.out = omega (arith, h, size) in
    written_first c.write_frames.new.out (drop c.min-n-2.result c.args.out.now) k l
    ∙ c.write_frames.ensures.heard (map (rewound a.left) vs) c.sum_ahead.ensures.ahead.sums k l
    ∙ next_side_playing a vs k
    ∙ ap (λ (ps : List PlayingVoice). next_side ps k) (c.sum_ahead.ensures.same ∙ c.self.view_is)

pub returns-clause-live : goal.returns-clause-live
returns-clause-live g c =
    let a = c.sum_ahead.new.ahead in
    let vs = c.sum_ahead.new.voices.items in
    let size : length c.write_frames.new.out ≡ c.min-n-2.result = grind (arith, common_steps) in
    let m : c.write_frames.new.self.left + c.min-n-2.result / 2 ≡ a.left = grind (arith, common_steps, c.write_frames.ensures.left) in
    playing_later a _ vs (c.min-n-2.result / 2) m c.sum_ahead.ensures.ahead
    ∙ ap (λ (ps : List PlayingVoice). after_block ps (c.min-n-2.result / 2)) (c.sum_ahead.ensures.same ∙ c.self.view_is)
