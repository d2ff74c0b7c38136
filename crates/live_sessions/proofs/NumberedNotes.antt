-- Notes whose handles are their indexes.
use Rattle.std.proofs.Common.{◌≡◌, ℕ, zero, suc, ◌+◌, ◌<◌, ◌≤◌, Bool, false, nat_eq, Option, Some, None, List, [], ◌∷◌}
use Rattle.std.proofs.Common.{◌++◌, map, take, length, get_or, set, refl, sym, ap, ◌∙◌, arith}
use Rattle.std.proofs.lemmas.Bool.Decides.{nat_tests}
use Rattle.mixer.specs.declared.playing.Release.{Release}
use Rattle.mixer.specs.declared.playing.Release.TheVariants.{One}
use Rattle.live_sessions.specs.declared.played.PlayedNote.{PlayedNote}
use Rattle.live_sessions.specs.PlayedNotes.{AreNumbered, end_after, ended_by}

-- ---- lists of them

pub numbered_added : (k : ℕ) (ps : List PlayedNote) (p : PlayedNote) → AreNumbered k ps → p.handle ≡ k + length ps
    → AreNumbered k (ps ++ p ∷ [])
numbered_added k [] p h e = (omega (arith, e), tt)
numbered_added k (q ∷ ps) p h e = (h.0, numbered_added (k + 1) ps p h.1 (omega (arith, e)))

pub numbered_first : (n k : ℕ) (ps : List PlayedNote) → AreNumbered k ps → AreNumbered k (take n ps)
numbered_first zero k ps h = tt
numbered_first (suc n) k [] h = tt
numbered_first (suc n) k (p ∷ ps) h = (h.0, numbered_first n (k + 1) ps h.1)

pub numbered_ended : (r : Release) (t k : ℕ) (ps : List PlayedNote) → AreNumbered k ps
    → AreNumbered k (map (ended_by r t) ps)
unfolding ended_by
numbered_ended r t k [] h = tt
numbered_ended r t k (p ∷ ps) h = (h.0, numbered_ended r t (k + 1) ps h.1)

-- ---- the release of one of them

stays : (o : Option ℕ) (t : ℕ) → end_after o false t ≡ o
unfolding end_after
stays None t = refl
stays (Some e) t = refl

other_stays : (handle t : ℕ) (p : PlayedNote) → nat_eq handle p.handle ≡ false → ended_by (One handle) t p ≡ p
unfolding ended_by
other_stays handle t p e =
    ap (λ (b : Bool). let q : PlayedNote = record p { end_frame = end_after p.end_frame b t } in q) e
    ∙ ap (λ (o : Option ℕ). let q : PlayedNote = record p { end_frame = o } in q) (stays p.end_frame t)

later_stay : (handle t k : ℕ) (ps : List PlayedNote) → AreNumbered k ps → handle < k
    → map (ended_by (One handle) t) ps ≡ ps
later_stay handle t k [] h less = refl
later_stay handle t k (p ∷ ps) h less =
    let at : p.handle ≡ k = h.0 in
    let other : nat_eq handle p.handle ≡ false = grind (arith, nat_tests, less, at) in
    λ j. other_stays handle t p other j ∷ later_stay handle t (k + 1) ps h.1 (omega (arith, less)) j

pub all_stay : (handle t k : ℕ) (ps : List PlayedNote) → AreNumbered k ps → k + length ps ≤ handle
    → map (ended_by (One handle) t) ps ≡ ps
all_stay handle t k [] h more = refl
all_stay handle t k (p ∷ ps) h more =
    let at : p.handle ≡ k = h.0 in
    let other : nat_eq handle p.handle ≡ false = grind (arith, nat_tests, more, at) in
    λ j. other_stays handle t p other j ∷ all_stay handle t (k + 1) ps h.1 (omega (arith, more)) j

pub one_ends : (handle t k j : ℕ) (ps : List PlayedNote) (x : PlayedNote) → AreNumbered k ps → handle ≡ k + j
    → j < length ps → x ≡ get_or ps j x → set ps j (ended_by (One handle) t x) ≡ map (ended_by (One handle) t) ps
one_ends handle t k j [] x h e less is = absurd (omega (arith, less))
one_ends handle t k zero (p ∷ ps) x h e less is =
    λ i. ended_by (One handle) t (is i) ∷ sym (later_stay handle t (k + 1) ps h.1 (omega (arith, e))) i
one_ends handle t k (suc j) (p ∷ ps) x h e less is =
    let at : p.handle ≡ k = h.0 in
    let other : nat_eq handle p.handle ≡ false = grind (arith, nat_tests, e, at) in
    λ i.
    sym (other_stays handle t p other) i
    ∷ one_ends handle t (k + 1) j ps x h.1 (omega (arith, e)) (omega (arith, less)) is i
