-- Voices that go back, and the same voices at later frames.
use Rattle.std.proofs.Common.{◌≡◌, ℕ, ◌+◌, ◌-◌, ◌*◌, ◌/◌, ◌%◌, ◌<◌, ◌≤◌, suc, ℤ, pos, Bool, true, false, cond, not}
use Rattle.std.proofs.Common.{List, [], ◌∷◌, ◌++◌, map, filter, take, length, get_or, nat_eq, inl, inr, refl, sym}
use Rattle.std.proofs.Common.{ap, ◌∙◌, arith}
use Rattle.std.specs.List.{All}
use Rattle.std.proofs.lemmas.Bool.{cases_lt, not-false}
use Rattle.std.proofs.lemmas.Grind.{common_steps}
use Rattle.voices.specs.Sound.{Live, snd}
use Rattle.voices.specs.Position.{is_over}
use Rattle.voices.proofs.OverLaws.{over_stays}
use Rattle.mixer.specs.declared.playing.PlayingVoice.{PlayingVoice}
use Rattle.mixer.specs.StartFrames.{excludes, silences, is_left, clipped}
use Rattle.mixer.specs.Events.{is_sounding, unsilenced, aged, after_block, total_at, next_side}
use Rattle.mixer.specs.Ahead.{rewound}
use Rattle.mixer.proofs.Sums.{sum_over-kept, sum_over-map, sum_over-same}
use Rattle.mixer.proofs.Parts.{aged-more, side_later}
use Rattle.mixer.proofs.EventLaws.{over_is_silent}

-- ---- filtered lists

-- filtering after a map that keeps the predicate
pub filter-kept : {X Y : Type 0} (f : X → Y) (p q : Y → Bool) (r : X → Bool) → ((x : X) → q (f x) ≡ r x) → (xs : List X)
    → filter q (filter p (map f xs)) ≡ filter p (map f (filter r xs))
filter-kept f p q r h [] = refl
filter-kept f p q r h (x ∷ xs) =
    let rest = filter-kept f p q r h xs in
    let fs = map f xs in
    let at : (b c : Bool) → p (f x) ≡ b → r x ≡ c
    → filter q (cond b (f x ∷ filter p fs) (filter p fs))
    ≡ filter p (map f (cond c (x ∷ filter r xs) (filter r xs))) = elim [
      | true ↦ elim [
        | true ↦ λ sounds keeps.
            ap (λ b. cond b (f x ∷ filter q (filter p fs)) (filter q (filter p fs))) (h x ∙ keeps)
            ∙ ap (λ l. f x ∷ l) rest
            ∙ sym (ap (λ b. cond b (f x ∷ filter p (map f (filter r xs))) (filter p (map f (filter r xs)))) sounds)
        | false ↦ λ sounds keeps.
            ap (λ b. cond b (f x ∷ filter q (filter p fs)) (filter q (filter p fs))) (h x ∙ keeps) ∙ rest
      ]
      | false ↦ elim [
        | true ↦ λ sounds keeps.
            rest ∙ sym (ap (λ b. cond b (f x ∷ filter p (map f (filter r xs))) (filter p (map f (filter r xs)))) sounds)
        | false ↦ λ sounds keeps. rest
      ]
    ] in
    at (p (f x)) (r x) refl refl

-- elements that an earlier filter drops would be dropped later
pub filter-later : {X Y : Type 0} (f : X → Y) (p : Y → Bool) (r : X → Bool) → ((x : X) → r x ≡ false → p (f x) ≡ false)
    → (xs : List X)
    → filter p (map f (filter r xs)) ≡ filter p (map f xs)
filter-later f p r h [] = refl
filter-later f p r h (x ∷ xs) =
    let rest = filter-later f p r h xs in
    let at : (c : Bool) → r x ≡ c
    → filter p (map f (cond c (x ∷ filter r xs) (filter r xs)))
    ≡ cond (p (f x)) (f x ∷ filter p (map f xs)) (filter p (map f xs)) =
    elim [
      | true ↦ λ kept. ap (λ l. cond (p (f x)) (f x ∷ l) l) rest
      | false ↦ λ left. rest ∙ sym (ap (λ b. cond b (f x ∷ filter p (map f xs)) (filter p (map f xs))) (h x left))
    ] in
    at (r x) refl

-- ---- voices that go back

with_age : (p : PlayingVoice) (a b : ℕ) → a ≡ b
    →
    (let q : PlayingVoice =
    record { voice = record { value = p.voice.value; age = a }; bank = p.bank; number = p.number; handle = p.handle } in q)
    ≡
    (let q : PlayingVoice =
    record { voice = record { value = p.voice.value; age = b }; bank = p.bank; number = p.number; handle = p.handle } in q)
with_age p a b e =
    λ j. record {
      voice = record { value = p.voice.value; age = e j };
      bank = p.bank;
      number = p.number;
      handle = p.handle;
    }

pub rewound-none : (ps : List PlayingVoice) → map (rewound 0) ps ≡ ps
unfolding rewound
rewound-none [] = refl
rewound-none (p ∷ ps) = λ j. with_age p (p.voice.age - 0) p.voice.age (omega arith) j ∷ rewound-none ps j

-- one voice
pub rewound_is : (n : ℕ) (p : PlayingVoice) (v : Live) → v ≡ record { value = p.voice.value; age = p.voice.age - n }
    → (let q : PlayingVoice = record { voice = v; bank = p.bank; number = p.number; handle = p.handle } in q) ≡ rewound n p
unfolding rewound
rewound_is n p v e = λ j. record { voice = e j; bank = p.bank; number = p.number; handle = p.handle }

-- going back undoes advancing
pub rewound-aged : (n : ℕ) (ps : List PlayingVoice) → map (rewound n) (map (aged n) ps) ≡ ps
unfolding rewound aged
rewound-aged n [] = refl
rewound-aged n (p ∷ ps) = λ j. with_age p (p.voice.age + n - n) p.voice.age (omega arith) j ∷ rewound-aged n ps j

-- going back by k is going back by k + m and advancing by m
pub rewound-fewer : (n m k : ℕ) (ps : List PlayingVoice) → k + m ≡ n → All (λ (p : PlayingVoice). n ≤ p.voice.age) ps
    → map (rewound k) ps ≡ map (aged m) (map (rewound n) ps)
unfolding rewound aged
rewound-fewer n m k [] e h = refl
rewound-fewer n m k (p ∷ ps) e h =
    let given : n ≤ p.voice.age = h 0 p (omega arith) in
    λ j. with_age p (p.voice.age - k) (p.voice.age - n + m) (omega (arith, e, given)) j
    ∷ rewound-fewer n m k ps e (λ i d l. h (suc i) d (omega (arith, l))) j

-- going back doesn't change which voice is silenced
silences-rewound : (new : List PlayingVoice) (n : ℕ) (p : PlayingVoice) → silences new (rewound n p) ≡ silences new p
unfolding silences excludes rewound
silences-rewound new n p = refl

pub unsilenced-rewound : (new : List PlayingVoice) (n : ℕ) (ps : List PlayingVoice)
    → unsilenced new (filter is_sounding (map (rewound n) ps))
    ≡ filter is_sounding (map (rewound n) (unsilenced new ps))
unfolding unsilenced
unsilenced-rewound new n ps =
    filter-kept (rewound n) is_sounding (λ q. not (silences new q)) (λ q. not (silences new q))
    (λ p. ap not (silences-rewound new n p)) ps

-- ---- voices at later frames

over_later : (m : ℕ) (p : PlayingVoice) → is_sounding p ≡ false → is_sounding (aged m p) ≡ false
unfolding is_sounding aged
over_later m p h =
    ap not
    (over_stays p.voice.value.parameters p.voice.age (p.voice.age + m) (omega arith)
    (not-false (is_over p.voice.value.parameters p.voice.age) h))

-- voices that are over may be dropped before
pub sounding_later : (m : ℕ) (ps : List PlayingVoice) → after_block (filter is_sounding ps) m ≡ after_block ps m
unfolding after_block
sounding_later m ps = filter-later (aged m) is_sounding is_sounding (over_later m) ps

-- two blocks are one
pub after_more : (m n : ℕ) (ps : List PlayingVoice) → after_block (after_block ps m) n ≡ after_block ps (m + n)
unfolding after_block
after_more m n ps =
    filter-later (aged n) is_sounding is_sounding (over_later n) (map (aged m) ps)
    ∙ ap (filter is_sounding) (aged-more m n ps)

-- voices that are over add nothing
pub total_sounding : (ps : List PlayingVoice) (i : ℕ) → total_at (filter is_sounding ps) i ≡ total_at ps i
unfolding total_at
total_sounding ps i =
    let sound : PlayingVoice → ℤ = λ p. snd p.voice.value (is_left i) (p.voice.age + i / 2) in
    sym (sum_over-kept sound sound is_sounding
    (λ p. let P : Bool → Type 0 = λ b. is_sounding p ≡ b → sound p ≡ cond b (sound p) (pos 0) in
    let at : (b : Bool) → P b = elim [ true ↦ λ _. refl | false ↦ λ over. over_is_silent p (is_left i) (i / 2) over ] in
    at (is_sounding p) refl) ps)

pub next_sounding : (ps : List PlayingVoice) (i : ℕ) → next_side (filter is_sounding ps) i ≡ next_side ps i
unfolding next_side
next_sounding ps i = ap clipped (total_sounding ps i)

-- the sums of older voices are those of later frames
pub total_later : (m i : ℕ) (ps : List PlayingVoice) → total_at (map (aged m) ps) i ≡ total_at ps (2 * m + i)
unfolding total_at aged
total_later m i ps =
    sum_over-map (λ p. snd p.voice.value (is_left i) (p.voice.age + i / 2)) (aged m) ps
    ∙ sum_over-same (λ p. snd p.voice.value (is_left i) (p.voice.age + m + i / 2))
    (λ p. snd p.voice.value (is_left (2 * m + i)) (p.voice.age + (2 * m + i) / 2))
    (λ p.
    λ j.
    snd p.voice.value (nat_eq ((let e : i % 2 ≡ (2 * m + i) % 2 = omega arith in e) j) 0)
    ((let e : p.voice.age + m + i / 2 ≡ p.voice.age + (2 * m + i) / 2 = omega arith in e) j))
    ps

-- ---- a block whose first frames are written

-- the next frames are written after them
pub written_on : (out new rest : List ℤ) (ps : List PlayingVoice) (at n : ℕ) → at ≤ length out → n ≤ length new → at % 2 ≡ 0
    → ((k : ℕ) → k < at → get_or out k (pos 0) ≡ next_side ps k)
    → ((k : ℕ) → k < n → get_or new k (pos 0) ≡ next_side (after_block ps (at / 2)) k)
    → (k : ℕ) → k < at + n → get_or (take at out ++ (new ++ rest)) k (pos 0) ≡ next_side ps k
unfolding after_block
written_on out new rest ps at n h m even before here k l =
    elim (cases_lt k at) [
      | inl lt ↦
          (let e : get_or (take at out ++ (new ++ rest)) k (pos 0) ≡ get_or out k (pos 0) =
          grind (arith, common_steps) in e)
          ∙ before k lt
      | inr ge ↦
          (let e : get_or (take at out ++ (new ++ rest)) k (pos 0) ≡ get_or new (k - at) (pos 0) =
          grind (arith, common_steps) in e)
          ∙ here (k - at) (omega arith) ∙ next_sounding (map (aged (at / 2)) ps) (k - at)
          ∙ side_later at (k - at) ps even ∙ ap (next_side ps) (omega arith)
    ]
