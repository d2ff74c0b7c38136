-- A voice that is over stays over, and one that isn't reads before its end.
use Rattle.std.proofs.Common.{◌≡◌, sym, ◌∙◌, true≢false, List, ℕ, zero, suc, ◌+◌, ◌*◌, ◌<◌, ◌≤◌, Bool, true, false}
use Rattle.std.proofs.Common.{cond, not, ◌&&◌, refl, subst, arith, nat_le, ⊎_elim}
use Rattle.std.proofs.lemmas.Bool.{cases_eq}
use Rattle.std.proofs.lemmas.Bool.Decides.{nat_tests}
use Rattle.zone_select.specs.declared.parameters.VoiceParameters.{VoiceParameters}
use Rattle.voices.specs.Position.{position, is_looping, is_loop_left, is_over}
use Rattle.voices.specs.declared.voice_state.VoiceState.{VoiceState}
use Rattle.sound_envelopes.specs.Envelope.{envelope}
use Rattle.sound_envelopes.proofs.PhaseLaws.{constant_later}
use Rattle.voices.specs.VoiceState.{IsVoiceState}
use Rattle.zone_select.specs.Playable.{IsPlayable}
use Rattle.voices.proofs.PositionLaws.{position_inside, position_straight}

is_looped : (looped left : Bool) → (looped && not left) ≡ true → looped ≡ true
is_looped true left e = refl
is_looped false left e = e

-- an active loop lies within the sample
pub loop_start_inside : (n : ℕ) (v : VoiceParameters) (t : ℕ) → IsPlayable n v → is_looping v t ≡ true
    → v.loop_start < n
loop_start_inside n v t p e =
    let l : v.looped ≡ true = is_looped v.looped (is_loop_left v t) e in
    let a : v.loop_start < v.loop_end = p.ordered l in
    let b : v.loop_end ≤ v.end = p.loop_inside l in
    let d : v.end ≤ n = p.inside in omega arith

before_end : (ended looping : Bool) (at end : ℕ) → cond ended true (not looping && nat_le end at) ≡ false
    → (looping ≡ true → at < end) → at < end
before_end true looping at end e h = absurd cc
before_end false true at end e h = h refl
before_end false false at end e h = grind (arith, nat_tests)

-- a voice that isn't over reads before its end
pub position_sounds : (n : ℕ) (v : VoiceParameters) (t : ℕ) → IsPlayable n v → is_over v t ≡ false
    → position v t < 65536 * v.end
position_sounds n v t p e =
    before_end (nat_le (v.length + v.release) t) (is_looping v t) (position v t) (65536 * v.end) e
    (λ l.
    let a : position v t < 65536 * v.loop_end = position_inside v t l p.ordered in
    let b : v.loop_end ≤ v.end = p.loop_inside (is_looped v.looped (is_loop_left v t) l) in omega arith)

left_stays : (looped until : Bool) (l t : ℕ) → (looped && not (until && nat_le l t)) ≡ false
    → (looped && not (until && nat_le l (t + 1))) ≡ false
left_stays false until l t e = refl
left_stays true false l t e = absurd cc
left_stays true true l t e =
    let a : nat_le l t ≡ true = grind (arith, nat_tests) in
    let b : nat_le l (t + 1) ≡ true = grind (arith, nat_tests) in rw b refl

pub loop_left_stays : (v : VoiceParameters) (t : ℕ) → is_looping v t ≡ false → is_looping v (t + 1) ≡ false
loop_left_stays v t e = left_stays v.looped v.until_release v.length t e

over_case : (ended ended' looping looping' : Bool) (end at at' phase_increment : ℕ) → (ended ≡ true → ended' ≡ true)
    → (looping ≡ false → looping' ≡ false)
    → (looping ≡ false → at' ≡ at + phase_increment)
    → cond ended true (not looping && nat_le end at) ≡ true → cond ended' true (not looping' && nat_le end at') ≡ true
over_case true ended' looping looping' end at at' phase_increment f g h e = rw (f refl) refl
over_case false true looping looping' end at at' phase_increment f g h e = refl
over_case false false true looping' end at at' phase_increment f g h e = absurd cc
over_case false false false looping' end at at' phase_increment f g h e =
    let a : at' ≡ at + phase_increment = h refl in
    let b : nat_le end at' ≡ true = grind (arith, nat_tests) in rw (g refl, b) refl

pub over_next : (v : VoiceParameters) (t : ℕ) → is_over v t ≡ true → is_over v (t + 1) ≡ true
over_next v t e =
    over_case (nat_le (v.length + v.release) t) (nat_le (v.length + v.release) (t + 1)) (is_looping v t)
    (is_looping v (t + 1))
    (65536 * v.end) (position v t) (position v (t + 1)) v.phase_increment
    (λ l. grind (arith, nat_tests)) (loop_left_stays v t) (position_straight v t) e

pub over_stays : (v : VoiceParameters) (s t : ℕ) → s ≤ t → is_over v s ≡ true → is_over v t ≡ true
over_stays v s zero l e = subst (λ x. is_over v x ≡ true) (omega arith) e
over_stays v s (suc t) l e = ⊎_elim
    (λ q. subst (λ x. is_over v x ≡ true) q e)
    (λ apart. subst (λ x. is_over v x ≡ true) (omega arith) (over_next v t (over_stays v s t (omega arith) e)))
    (cases_eq s (suc t))

pub is_looped_at : (v : VoiceParameters) (t : ℕ) → is_looping v t ≡ true → v.looped ≡ true
is_looped_at v t e = is_looped v.looped (is_loop_left v t) e

-- the state of a voice that is over stays valid
pub state_stays : (points : List ℕ) (v : VoiceParameters) (s t : ℕ) (state : VoiceState) → s ≤ t → state.over ≡ true
    → IsVoiceState points v s state → IsVoiceState points v t state
state_stays points v s t state l e h = record {
  over = e ∙ sym (over_stays v s t l (sym h.over ∙ e));
  young = λ f. absurd (true≢false (sym e ∙ f));
  sounds = λ f. absurd (true≢false (sym e ∙ f));
  here = λ f. absurd (true≢false (sym e ∙ f));
  level = constant_later (envelope v) s t state.level l h.level;
  at_end = h.at_end;
  most = h.most;
  loudness = h.loudness;
  quiet = h.quiet;
  slice = h.slice;
}
