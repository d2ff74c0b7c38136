-- Held notes that are released one after another.
use Rattle.std.proofs.Common.{◌≡◌, ℕ, ◌+◌, ◌<◌, Bool, true, false, cond, List, [], ◌∷◌, filter, drop, length, get_or}
use Rattle.std.proofs.Common.{refl, sym, ap, ◌∙◌}
use Rattle.std.proofs.lemmas.List.{at_drop_more}
use Rattle.live_sessions.specs.declared.held.HeldNote.{HeldNote}
use Rattle.live_sessions.specs.declared.performance.Performance.{Performance}
use Rattle.live_sessions.specs.Performances.{released_in_turn}

first_in_turn : (f : HeldNote → Bool) (s : Performance) (h : HeldNote) (hs : List HeldNote)
    → released_in_turn s (filter f (h ∷ hs)) ≡ released_in_turn (released_in_turn s (filter f (h ∷ []))) (filter f hs)
unfolding released_in_turn
first_in_turn f s h hs =
    let P : Bool → Type 0 = λ c.
    released_in_turn s (cond c (h ∷ filter f hs) (filter f hs))
    ≡ released_in_turn (released_in_turn s (cond c (h ∷ []) [])) (filter f hs) in
    let at : (c : Bool) → P c = elim [ true ↦ refl | false ↦ refl ] in
    at (f h)

-- the next note of a loop over the notes
pub in_turn_next : (f : HeldNote → Bool) (s t first : Performance) (hs : List HeldNote) (i : ℕ) (d : HeldNote)
    → i < length hs → t ≡ released_in_turn s (filter f (get_or hs i d ∷ []))
    → released_in_turn s (filter f (drop i hs)) ≡ released_in_turn first (filter f hs)
    → released_in_turn t (filter f (drop (i + 1) hs)) ≡ released_in_turn first (filter f hs)
in_turn_next f s t first hs i d h e whole =
    ap (λ (u : Performance). released_in_turn u (filter f (drop (i + 1) hs))) e
    ∙ sym (first_in_turn f s (get_or hs i d) (drop (i + 1) hs))
    ∙ sym (at_drop_more (λ (gs : List HeldNote). released_in_turn s (filter f gs)) hs i d h)
    ∙ whole

pub in_turn_none : (f : HeldNote → Bool) (s : Performance) (rest : List HeldNote) → rest ≡ []
    → released_in_turn s (filter f rest) ≡ s
unfolding released_in_turn
in_turn_none f s rest e = ap (λ (gs : List HeldNote). released_in_turn s (filter f gs)) e
