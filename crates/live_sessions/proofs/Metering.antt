-- Frames that are measured one after another.
use Rattle.std.proofs.Common.{◌≡◌, ℕ, ◌+◌, ◌%◌, ◌<◌, ℤ, List, [], ◌∷◌, ◌++◌, length, drop, get_or, refl}
use Rattle.std.proofs.Common.{ap, ◌∙◌, arith}
use Rattle.std.proofs.lemmas.List.{at_drop_more}
use Rattle.live_sessions.specs.declared.meter.Meter.{Meter}
use Rattle.live_sessions.specs.Meters.{with_frame, metered}

two_more : (i : ℕ) → i + 1 + 1 ≡ i + 2
two_more i = omega arith

-- the next frame
pub metered_next : (m : Meter) (ss : List ℤ) (i : ℕ) (d e : ℤ) → i + 1 < length ss
    → metered m (drop i ss) ≡ metered (with_frame m (get_or ss i d) (get_or ss (i + 1) e)) (drop (i + 2) ss)
unfolding metered
metered_next m ss i d e h =
    at_drop_more (metered m) ss i d (omega (arith, h))
    ∙ at_drop_more (λ (rest : List ℤ). metered m (get_or ss i d ∷ rest)) ss (i + 1) e h
    ∙ ap (λ (k : ℕ). metered (with_frame m (get_or ss i d) (get_or ss (i + 1) e)) (drop k ss)) (two_more i)

pub metered_none : (m : Meter) → metered m [] ≡ m
unfolding metered
metered_none m = refl

-- whole frames, and then others
pub metered-append : (m : Meter) (ss ts : List ℤ) → length ss % 2 ≡ 0 → metered m (ss ++ ts) ≡ metered (metered m ss) ts
unfolding metered
metered-append m [] ts h = refl
metered-append m (s ∷ []) ts h = absurd (omega (arith, h))
metered-append m (l ∷ r ∷ ss) ts h = metered-append (with_frame m l r) ss ts (omega (arith, h))
