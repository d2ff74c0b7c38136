-- The phases of the volume envelope, and the linear rise of its attack.
use Rattle.std.proofs.Common.{◌≡◌, ℕ, zero, suc, ◌+◌, ◌-◌, ◌*◌, ◌/◌, ◌%◌, ◌<◌, ◌≤◌, min, Bool, true, false, cond}
use Rattle.std.proofs.Common.{nat_lt, refl, sym, ◌∙◌, ap, arith, inl, inr}
use Rattle.std.proofs.lemmas.Bool.{cases_lt}
use Rattle.std.proofs.lemmas.Bool.Decides.{nat_tests}
use Rattle.std.proofs.Math.Nat.{div-le_self}
use Rattle.std.proofs.lemmas.Nat.{div-add-mod', div-mul-add, div_below, le-div, mod_below, mul-le}
use Rattle.sound_tables.specs.Tables.{ratio, gain_at}
use Rattle.sound_tables.proofs.GainLaws.{gain_falls}
use Rattle.zone_select.specs.declared.parameters.VoiceParameters.{VoiceParameters}
use Rattle.sound_envelopes.specs.declared.phases.EnvelopeGain.{EnvelopeGain}
use Rattle.sound_envelopes.specs.Constant.{IsConstantUntil}
use Rattle.sound_envelopes.specs.Envelope.{decayed, held, released, envelope}
use Rattle.sound_envelopes.proofs.GainLaws.{faded}

pub rising_more : (over j whole rest : ℕ) → whole * over + rest ≡ 65536 * j
    → (whole + 65536 / over) * over + (rest + 65536 % over) ≡ 65536 * (j + 1)
rising_more over j whole rest e =
    let d : 65536 / over * over + 65536 % over ≡ 65536 = div-add-mod' 65536 over in omega arith

pub line_whole : (total over whole rest : ℕ) → rest < over → whole * over + rest ≡ total → whole ≡ total / over
line_whole total over whole rest h e = sym (ap (λ x. x / over) (sym e) ∙ div-mul-add whole over rest h)

pub rising_fits : (whole over rest j : ℕ) → rest < over → whole * over + rest ≡ 65536 * j → j < over → whole < 65536
rising_fits whole over rest j h e l =
    let w : whole ≡ 65536 * j / over = line_whole (65536 * j) over whole rest h e in
    let b : 65536 * j / over < 65536 = div_below (65536 * j) over 65536 (omega arith) (omega arith) in omega arith

pub step_small : (over : ℕ) → 65536 / over ≤ 65536
step_small over = div-le_self 65536 over

-- the frames at which a fall has reached a whole number of centibels
pub lasts_some : (n over : ℕ) → 0 < over → n < (n / over + 1) * over
lasts_some n over p =
    let e : n / over * over + n % over ≡ n = div-add-mod' n over in
    let b : n % over < over = mod_below n over p in omega arith

pub lasts_shortly : (n over : ℕ) → 0 < over → (n / over + 1) * over ≤ n + over
lasts_shortly n over p = let e : n / over * over + n % over ≡ n = div-add-mod' n over in omega arith

pub lasting : (over fallen k : ℕ) → 0 < over → 960 * fallen + k * 960 < (960 * fallen / over + 1) * over
    → 960 * fallen / over ≡ 960 * (fallen + k) / over
lasting over fallen k p h =
    let a : ℕ = 960 * fallen / over in
    let e : a * over + 960 * fallen % over ≡ 960 * fallen = div-add-mod' (960 * fallen) over in
    let below : 960 * (fallen + k) / over < a + 1 = div_below (960 * (fallen + k)) over (a + 1) p (omega (arith, h)) in
    let above : a ≤ 960 * (fallen + k) / over = le-div a (960 * (fallen + k)) over p (omega (arith, e)) in
    omega (arith, below, above)

-- a gain of the full gain is itself
pub left_of_all : (g : ℕ) → 65536 * g / 65536 ≡ g
left_of_all g = omega arith

-- the decay has reached the sustain
pub sustained : (s d u w : ℕ) → s * d ≤ 960 * u → u ≤ w
    → gain_at (cond (nat_lt 0 d) (min s (960 * w / d)) s) ≡ gain_at s
sustained s d u w h l =
    elim (cases_lt 0 d) [
      | inl lt ↦
          let t : nat_lt 0 d ≡ true = grind (arith, nat_tests) in
          let e : s ≤ 960 * w / d = le-div s (960 * w) d lt (omega arith) in
          let m : min s (960 * w / d) ≡ s = omega arith in
          ap (λ b. gain_at (cond b (min s (960 * w / d)) s)) t ∙ ap gain_at m
      | inr ge ↦
          let t : nat_lt 0 d ≡ false = grind (arith, nat_tests) in ap (λ b. gain_at (cond b (min s (960 * w / d)) s)) t
    ]

-- the decay has not yet reached the sustain
pub decaying : (s d w : ℕ) → 960 * w < s * d
    → gain_at (960 * w / d) ≡ gain_at (cond (nat_lt 0 d) (min s (960 * w / d)) s)
decaying s zero w h = absurd (omega arith)
decaying s (suc d) w h =
    let t : nat_lt 0 (suc d) ≡ true = grind (arith, nat_tests) in
    let e : 960 * w / suc d < s = div_below (960 * w) (suc d) s (omega arith) (omega arith) in
    let m : 960 * w / suc d ≡ min s (960 * w / suc d) = omega arith in
    ap gain_at m ∙ sym (ap (λ b. gain_at (cond b (min s (960 * w / suc d)) s)) t)

gain_most : (a : ℕ) → a ≤ 960 → gain_at a ≤ 65536
unfolding ratio gain_at
gain_most a h = gain_falls 0 a (omega arith) h

pub gain_within : (a : ℕ) → gain_at a ≤ 65536
unfolding gain_at
gain_within a =
    elim (cases_lt a 960) [
      | inl lt ↦ gain_most a (omega arith)
      | inr ge ↦ let e : nat_lt a 960 ≡ false = grind (arith, nat_tests) in rw e (omega arith)
    ]

rising : (u a : ℕ) → u < a → 65536 * u / a ≤ 65536
rising u a h = let b : 65536 * u / a < 65537 = div_below (65536 * u) a 65537 (omega arith) (omega arith) in omega arith

by_phase : (a b : Bool) (x y z : ℕ) (w : ℕ) → (a ≡ true → x ≤ w) → (b ≡ true → y ≤ w) → z ≤ w
    → cond a x (cond b y z) ≤ w
by_phase true b x y z w f g h = f refl
by_phase false true x y z w f g h = g refl
by_phase false false x y z w f g h = h

pub held_within : (v : VoiceParameters) (t : ℕ) → held v t ≤ 65536
unfolding held decayed
held_within v t =
    by_phase (nat_lt t v.delay) true 0
    (cond (nat_lt (t - v.delay) v.attack) (65536 * (t - v.delay) / v.attack)
    (cond (nat_lt (t - v.delay - v.attack) v.hold) 65536 (decayed v (t - v.delay - v.attack - v.hold))))
    0 65536
    (λ e. omega arith)
    (λ e. by_phase (nat_lt (t - v.delay) v.attack) (nat_lt (t - v.delay - v.attack) v.hold)
    (65536 * (t - v.delay) / v.attack) 65536 (decayed v (t - v.delay - v.attack - v.hold)) 65536
    (λ l. rising (t - v.delay) v.attack (grind (arith, nat_tests, l))) (λ l. omega arith)
    (gain_within
    (cond (nat_lt 0 v.decay) (min v.sustain (960 * (t - v.delay - v.attack - v.hold) / v.decay)) v.sustain)))
    (omega arith)

pub envelope_within : (v : VoiceParameters) (t : ℕ) → envelope v t ≤ 65536
unfolding envelope released
envelope_within v t =
    by_phase (nat_lt t v.length) true (held v t)
    (held v v.length * gain_at (960 * (t - v.length) / v.release) / 65536) 0 65536
    (λ e. held_within v t)
    (λ e.
    faded (held v v.length) (gain_at (960 * (t - v.length) / v.release)) (held_within v v.length)
    (gain_within (960 * (t - v.length) / v.release)))
    (omega arith)

pub envelope_held : (v : VoiceParameters) (t : ℕ) → t < v.length → held v t ≡ envelope v t
unfolding envelope
envelope_held v t h =
    let e : nat_lt t v.length ≡ true = grind (arith, nat_tests) in
    sym (ap (λ b. cond b (held v t) (released v (t - v.length))) e)

pub envelope_after : (v : VoiceParameters) (k : ℕ) → v.length ≤ k → envelope v k ≡ released v (k - v.length)
unfolding envelope
envelope_after v k h =
    let f : nat_lt k v.length ≡ false = grind (arith, nat_tests) in
    ap (λ b. cond b (held v k) (released v (k - v.length))) f

-- the release, from equal numbers
pub released_is : (v : VoiceParameters) (l k at_end over : ℕ) → l ≡ v.length → at_end ≡ held v v.length
    → over ≡ v.release → l ≤ k
    → envelope v k ≡ at_end * gain_at (960 * (k - l) / over) / 65536
unfolding released
released_is v l k at_end over e f g h =
    let after : v.length ≤ k = omega (arith, e, h) in
    envelope_after v k after
    ∙ ap (λ y. held v v.length * gain_at (960 * (k - y) / v.release) / 65536) (sym e)
    ∙ ap (λ y. held v v.length * gain_at (960 * (k - l) / y) / 65536) (sym g)
    ∙ ap (λ y. y * gain_at (960 * (k - l) / over) / 65536) (sym f)

-- the frames within one centibel
pub same_centibel : (over fallen k : ℕ) → 0 < over → fallen ≤ k → k < ((960 * fallen / over + 1) * over + 959) / 960
    → 960 * fallen / over ≡ 960 * k / over
same_centibel over fallen k p le lt =
    let far : ℕ = (960 * fallen / over + 1) * over in
    let h : 960 * k < far = omega (arith, lt) in
    let e : fallen + (k - fallen) ≡ k = omega arith in
    lasting over fallen (k - fallen) p (omega (arith, h)) ∙ ap (λ m. 960 * m / over) e

-- a centibel before the sustain ends before it
pub before_sustain : (s d fallen k until : ℕ) → 0 < d → 960 * fallen < s * d → k < until
    → 960 * until < (960 * fallen / d + 1) * d + 960
    → 960 * k < s * d
before_sustain s d fallen k until p h l g =
    let a : 960 * fallen / d < s = div_below (960 * fallen) d s p h in
    let m : (960 * fallen / d + 1) * d ≤ s * d = mul-le (960 * fallen / d + 1) d s d (omega arith) (omega arith) in
    omega (arith, m, l, g)

-- the phases of a note
pub held_delayed : (v : VoiceParameters) (k : ℕ) → k < v.delay → held v k ≡ 0
unfolding held
held_delayed v k h = let a : nat_lt k v.delay ≡ true = grind (arith, nat_tests) in rw a refl

pub held_rising : (v : VoiceParameters) (k : ℕ) → v.delay ≤ k → k < v.delay + v.attack
    → held v k ≡ 65536 * (k - v.delay) / v.attack
unfolding held
held_rising v k h g =
    let a : nat_lt k v.delay ≡ false = grind (arith, nat_tests) in
    let b : nat_lt (k - v.delay) v.attack ≡ true = grind (arith, nat_tests) in rw (a, b) refl

pub held_full : (v : VoiceParameters) (k : ℕ) → v.delay + v.attack ≤ k → k < v.delay + v.attack + v.hold
    → held v k ≡ 65536
unfolding held
held_full v k h g =
    let a : nat_lt k v.delay ≡ false = grind (arith, nat_tests) in
    let b : nat_lt (k - v.delay) v.attack ≡ false = grind (arith, nat_tests) in
    let d : nat_lt (k - v.delay - v.attack) v.hold ≡ true = grind (arith, nat_tests) in rw (a, b, d) refl

pub held_decayed : (v : VoiceParameters) (k : ℕ) → v.delay + v.attack + v.hold ≤ k
    → held v k ≡ decayed v (k - v.delay - v.attack - v.hold)
unfolding held
held_decayed v k h =
    let a : nat_lt k v.delay ≡ false = grind (arith, nat_tests) in
    let b : nat_lt (k - v.delay) v.attack ≡ false = grind (arith, nat_tests) in
    let d : nat_lt (k - v.delay - v.attack) v.hold ≡ false = grind (arith, nat_tests) in rw (a, b, d) refl

-- the gains of these phases
pub none_constant : (f : ℕ → ℕ) (t : ℕ) (level : EnvelopeGain) → level.until ≡ 0 → IsConstantUntil f t level
none_constant f t level e = record { even = λ k le lt. absurd (omega (arith, e, lt)) }

pub delayed_constant : (v : VoiceParameters) (t : ℕ) (level : EnvelopeGain) → level.gain_value ≡ 0 → level.until ≡ v.delay
    → IsConstantUntil (held v) t level
delayed_constant v t level e f = record { even = λ k le lt. held_delayed v k (omega (arith, f, lt)) ∙ sym e }

pub full_constant : (v : VoiceParameters) (t : ℕ) (level : EnvelopeGain) → v.delay + v.attack ≤ t → level.gain_value ≡ 65536
    → level.until ≡ v.delay + v.attack + v.hold
    → IsConstantUntil (held v) t level
full_constant v t level h e f =
    record { even = λ k le lt. held_full v k (omega (arith, h, le)) (omega (arith, f, lt)) ∙ sym e }

pub decayed_constant : (v : VoiceParameters) (t base : ℕ) (level inner : EnvelopeGain) → base ≡ v.delay + v.attack + v.hold
    → base ≤ t
    → level.gain_value ≡ inner.gain_value → level.until ≡ base + inner.until → IsConstantUntil (decayed v) (t - base) inner
    → IsConstantUntil (held v) t level
decayed_constant v t base level inner b h e f even = record {
  even = λ k le lt.
      held_decayed v k (omega (arith, b, h, le))
      ∙ ap (decayed v) (let q : k - v.delay - v.attack - v.hold ≡ k - base = omega (arith, b, h, le) in q)
      ∙ even.even (k - base) (omega (arith, h, le)) (omega (arith, f, lt, h, le)) ∙ sym e;
}

pub sustained_constant : (v : VoiceParameters) (t : ℕ) (level : EnvelopeGain) → v.sustain * v.decay ≤ 960 * t
    → level.gain_value ≡ gain_at v.sustain → IsConstantUntil (decayed v) t level
unfolding decayed
sustained_constant v t level h e = record { even = λ k le lt. sustained v.sustain v.decay t k h le ∙ sym e }

-- the attack, from equal numbers
pub attack_is : (v : VoiceParameters) (t k attack delay : ℕ) → attack ≡ v.attack → delay ≡ v.delay → delay ≤ t
    → t - delay + k < attack → t + k < v.length
    → 65536 * (t - delay + k) / attack ≡ envelope v (t + k)
attack_is v t k attack delay e f h g l =
    ap (λ y. 65536 * (t - delay + k) / y) e
    ∙ ap (λ y. 65536 * y / v.attack) (let q : t - delay + k ≡ t + k - v.delay = omega (arith, f, h) in q)
    ∙ sym (held_rising v (t + k) (omega (arith, f, h)) (omega (arith, e, f, h, g)))
    ∙ envelope_held v (t + k) l

-- a gain from frame t on is also one from a later frame on
pub constant_later : (f : ℕ → ℕ) (t s : ℕ) (level : EnvelopeGain) → t ≤ s → IsConstantUntil f t level → IsConstantUntil f s level
constant_later f t s level l h = record { even = λ k le lt. h.even k (omega (arith, l, le)) lt }
