-- Voices whose note ends earlier or later.
use Rattle.std.proofs.Common.{◌≡◌, ℕ, ◌+◌, ◌-◌, ◌*◌, ◌<◌, ◌≤◌, ℤ, pos, Bool, true, false, cond, not, ◌&&◌, nat_le, nat_lt}
use Rattle.std.proofs.Common.{min, List, refl, sym, ap, ◌∙◌, subst, arith, inl, inr}
use Rattle.std.proofs.lemmas.Bool.{cases_lt}
use Rattle.std.proofs.lemmas.Bool.Decides.{nat_tests}
use Rattle.zone_select.specs.declared.parameters.VoiceParameters.{VoiceParameters}
use Rattle.zone_select.specs.Playable.{IsPlayable}
use Rattle.zone_select.specs.Select.{Voice}
use Rattle.sound_tables.specs.Tables.{gain_of}
use Rattle.sound_envelopes.specs.Gain.{scaled_by}
use Rattle.sound_envelopes.specs.Envelope.{held, decayed, released as release_gain, envelope}
use Rattle.voices.specs.Panning.{side}
use Rattle.voices.specs.Points.{point_of, follower}
use Rattle.voices.specs.Position.{looped_position, position, is_looping, is_loop_left, is_over}
use Rattle.voices.specs.Sound.{Live, snd, unpanned_frame_at, part_of}
use Rattle.voices.specs.Release.{lasting, voice_lasting, released, IsSameFrame}

pub playable_still : (count n : ℕ) (v : VoiceParameters) → IsPlayable count v → IsPlayable count (lasting n v)
playable_still count n v h = record {
  inside = h.inside;
  ordered = h.ordered;
  loop_inside = h.loop_inside;
  phase_increment = h.phase_increment;
  left = h.left;
  right = h.right;
}

-- ---- before the end

not_left : (v : VoiceParameters) (m t : ℕ) → t < m → is_loop_left (lasting m v) t ≡ false
not_left v m t h =
    let now : nat_le m t ≡ false = grind (arith, nat_tests) in
    let P : Bool → Type 0 = λ b. (b && nat_le m t) ≡ false in
    let at : (b : Bool) → P b = elim [ true ↦ now | false ↦ refl ] in
    at v.until_release

position_before : (v : VoiceParameters) (m t : ℕ) → t < m → position (lasting m v) t ≡ looped_position v t
unfolding position looped_position
position_before v m t h =
    ap (λ (b : Bool). cond b (looped_position (lasting m v) m + (t - m) * v.phase_increment) (looped_position v t))
    (not_left v m t h)

-- whether a voice is over before the end of its note
abbrev ends_early : VoiceParameters → ℕ → Bool
ends_early v t = not (v.looped && true) && nat_le (65536 * v.end) (looped_position v t)

over_before : (v : VoiceParameters) (m t : ℕ) → t < m → is_over (lasting m v) t ≡ ends_early v t
over_before v m t h =
    let ended : nat_le (m + v.release) t ≡ false = grind (arith, nat_tests) in
    λ j. cond (ended j) true (not (v.looped && not (not_left v m t h j)) && nat_le (65536 * v.end) (position_before v m t h j))

envelope_before : (v : VoiceParameters) (m t : ℕ) → t < m → envelope (lasting m v) t ≡ held v t
unfolding envelope held decayed
envelope_before v m t h =
    let now : nat_lt t m ≡ true = grind (arith, nat_tests) in
    ap (λ (b : Bool). cond b (held v t) (release_gain (lasting m v) (t - m))) now

-- the same without the length
abbrev frame_before : Voice → Bool → ℕ → ℤ
frame_before v left t =
    cond (ends_early v.parameters t) (pos 0)
    (side
    (scaled_by
    (scaled_by (point_of v.points v.parameters (v.parameters.looped && true) (looped_position v.parameters t))
    (held v.parameters t))
    (gain_of v.parameters.attenuation))
    (part_of v.parameters left))

sound_before : (v : Voice) (m t : ℕ) (left : Bool) → t < m → snd (voice_lasting m v) left t ≡ frame_before v left t
unfolding snd unpanned_frame_at point_of follower
sound_before v m t left h =
    let p : VoiceParameters = v.parameters in
    λ j.
    cond (over_before p m t h j) (pos 0)
    (side
    (scaled_by
    (scaled_by (point_of v.points p (p.looped && not (not_left p m t h j)) (position_before p m t h j))
    (envelope_before p m t h j))
    (gain_of p.attenuation))
    (part_of p left))

pub ends_free : (v : Voice) (m n t : ℕ) → t < m → t < n → IsSameFrame v m n t
ends_free v m n t h g = record {
  over = over_before v.parameters m t h ∙ sym (over_before v.parameters n t g);
  sound = λ left. sound_before v m t left h ∙ sym (sound_before v n t left g);
}

-- ---- at the end

over_case : (looped until now ended : Bool) (end at at' : ℕ) → at' ≡ at → (not (looped && true) && nat_le end at) ≡ true
    → cond ended true (not (looped && not (until && now)) && nat_le end at') ≡ true
over_case true until now ended end at at' e h = absurd cc
over_case false until now true end at at' e h = refl
over_case false until now false end at at' e h = ap (λ (x : ℕ). nat_le end x) e ∙ h

position_at_end : (v : VoiceParameters) (t : ℕ) → position (lasting t v) t ≡ looped_position v t
unfolding position looped_position
position_at_end v t =
    let here : looped_position v t + (t - t) * v.phase_increment ≡ looped_position v t =
    ap (λ (d : ℕ). looped_position v t + d * v.phase_increment) (let e : t - t ≡ 0 = omega arith in e) ∙ omega arith in
    let P : Bool → Type 0 =
    λ b. cond b (looped_position v t + (t - t) * v.phase_increment) (looped_position v t) ≡ looped_position v t in
    let at : (b : Bool) → P b = elim [ true ↦ here | false ↦ refl ] in
    at (v.until_release && nat_le t t)

pub over_when_released : (v : VoiceParameters) (t : ℕ) → is_over v t ≡ true → is_over (lasting (min v.length t) v) t ≡ true
over_when_released v t h =
    elim (cases_lt t v.length) [
      | inl lt ↦
          let e : t ≡ min v.length t = omega arith in
          let early : ends_early v t ≡ true = sym (over_before v v.length t lt) ∙ h in
          subst (λ (n : ℕ). is_over (lasting n v) t ≡ true) e
          (over_case v.looped v.until_release (nat_le t t) (nat_le (t + v.release) t) (65536 * v.end) (looped_position v t)
          (position (lasting t v) t) (position_at_end v t) early)
      | inr ge ↦
          let e : v.length ≡ min v.length t = omega arith in subst (λ (n : ℕ). is_over (lasting n v) t ≡ true) e h
    ]

-- ---- a release

pub released_is : (points : List ℕ) (v : VoiceParameters) (age n : ℕ) → n ≡ min v.length age
    → (let l : Live = record { value = record { points = points; parameters = lasting n v }; age = age } in l)
    ≡ released (record { value = record { points = points; parameters = v }; age = age })
unfolding released
released_is points v age n e = λ j. record { value = record { points = points; parameters = lasting (e j) v }; age = age }

-- a voice whose note has ended
pub released_after : (l : Live) → l.value.parameters.length ≤ l.age → l ≡ released l
unfolding released
released_after l h =
    let e : l.value.parameters.length ≡ min l.value.parameters.length l.age = omega arith in
    λ j. record { value = voice_lasting (e j) l.value; age = l.age }
