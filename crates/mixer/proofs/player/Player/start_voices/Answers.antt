use Rattle.std.proofs.Common.{◌≡◌, ◌++◌, ◌+◌, ◌<◌, ◌≤◌, List, map, filter, length, sym, ap, subst, ◌∙◌, arith}
use Rattle.std.proofs.lemmas.Grind.{common_steps}
use Rattle.mixer.specs.declared.playing.PlayingVoice.{PlayingVoice}
use Rattle.mixer.specs.Events.{after_start, unsilenced, is_sounding, aged}
use Rattle.mixer.specs.Ahead.{AreSums, IsAhead, playing_now}
use Rattle.mixer.proofs.AheadLaws.{room_of, started_ahead, started_playing}
use Rattle.mixer.proofs.player.Player.start_voices.Goals as goal

pub join-requires-clause-room : goal.join-requires-clause-room
join-requires-clause-room c = room_of c.silence_voices.new.ahead c.silence_voices.new.voices.items c.silence_voices.ensures.ahead

pub invariant_of-self-2 : goal.invariant_of-self-2
invariant_of-self-2 c =
    let a = c.silence_voices.new.ahead in
    let vs = c.silence_voices.new.voices.items in
    let new = c.drop_over.new.voices.items in
    let slice_is : c.as_mut_slice.result.now ≡ new = grind (arith, common_steps) in
    let few : 0 < a.left → length vs + length new ≤ 32767 = λ some. let f = c.silence_voices.ensures.few some in
    grind (arith, common_steps, f, c.drop_over.ensures.bound) in
    let e : c.append.new.self.items ≡ vs ++ map (aged a.left) new =
    grind (arith, common_steps, c.in-Ok.ensures.items) in
    subst (IsAhead c.join.new.self) (sym e)
    (started_ahead a c.join.new.self vs new c.join.ensures.left c.silence_voices.ensures.ahead c.drop_over.ensures.young few
    (λ qs h. subst (λ (ps : List PlayingVoice). AreSums c.join.new.self (qs ++ ps)) slice_is (c.join.ensures.sums qs h)))

pub returns-clause-done : goal.returns-clause-done
unfolding after_start
returns-clause-done c =
    let a = c.silence_voices.new.ahead in
    let vs = c.silence_voices.new.voices.items in
    let new = c.drop_over.new.voices.items in
    let all : c.as_slice.result.now ≡ c.args.new.items = cc in
    let kept : new ≡ filter is_sounding c.args.new.items = cc in
    let was : playing_now c.self.inside.ahead c.try_reserve.new.self.items ≡ c.args.self.now =
    ap (playing_now c.self.inside.ahead) c.try_reserve.ensures.items ∙ c.self.view_is in
    let e : c.append.new.self.items ≡ vs ++ map (aged a.left) new =
    grind (arith, common_steps, c.in-Ok.ensures.items) in
    ap (playing_now c.join.new.self) e
    ∙ started_playing a c.join.new.self vs new c.join.ensures.left c.drop_over.ensures.sounding
    ∙ (λ j. (c.silence_voices.ensures.unsilenced ∙ (λ i. unsilenced (all i) (was i))) j ++ kept j)
