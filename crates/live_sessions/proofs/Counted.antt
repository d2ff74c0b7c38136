-- A note has one voice for each pair of zones that match it.
use Rattle.std.proofs.Common.{◌≡◌, ℕ, ◌+◌, ◌-◌, ◌^◌, ◌≤◌, ◌<◌, min, suc, List, [], ◌∷◌, length, length-append}
use Rattle.std.proofs.Common.{get_or, Option, Some, None, IsSome, refl, sym, ap, ◌∙◌, arith}
use Rattle.std.specs.List.{flat_map}
use Rattle.std.proofs.lemmas.List.{length-map}
use Rattle.std.proofs.lemmas.List.Elements.{Contains-get_or}
use Rattle.bank_parts.specs.declared.parts.Parts.{Parts}
use Rattle.bank_parts.specs.Valid.{IsValid}
use Rattle.script_notes.specs.Notes.{Numbers}
use Rattle.zone_select.specs.Select.{Voice, selected}
use Rattle.zone_select.specs.Pairs.{pairs, voice_by, listed}
use Rattle.zone_select.proofs.PairLaws.{selected_by_pairs}
use Rattle.zone_select.proofs.PlayedLaws.{pairs_have_voices}
use Rattle.mixer.specs.StartFrames.{playing, note_voices}

one_listed : (o : Option Voice) → IsSome o → length (listed o) ≡ 1
one_listed (Some v) h = refl
one_listed None h = cc

all_voiced : (f : ℕ × ℕ → Option Voice) (qs : List (ℕ × ℕ)) (d : ℕ × ℕ)
    → ((k : ℕ) → k < length qs → IsSome (f (get_or qs k d)))
    → length (flat_map (λ q. listed (f q)) qs) ≡ length qs
all_voiced f [] d h = refl
all_voiced f (q ∷ qs) d h =
    let one : length (listed (f q)) ≡ 1 = one_listed (f q) (h 0 (omega arith)) in
    let rest : length (flat_map (λ q. listed (f q)) qs) ≡ length qs =
    all_voiced f qs d (λ k l. h (suc k) (omega arith)) in
    omega (arith, length-append (listed (f q)) (flat_map (λ q. listed (f q)) qs))

pub voices_counted : (b : Parts) (n : Numbers) → IsValid b → length (pairs b n) ≡ length (note_voices b n)
unfolding note_voices
voices_counted b n valid =
    sym
    (all_voiced (voice_by b n) (pairs b n) (0, 0)
    (λ k h.
    (pairs_have_voices b n (get_or (pairs b n) k (0, 0)) valid).0
    (Contains-get_or (pairs b n) k (0, 0) h)))
    ∙ ap length (selected_by_pairs b n)
    ∙ sym (length-map (selected b n) (playing n))

pub count_first : (b : Parts) (n : Numbers) (qs : List (ℕ × ℕ)) (voices : ℕ) → IsValid b → voices ≡ 0 → qs ≡ pairs b n
    → (length qs ≤ length (note_voices b n)) × (voices ≡ min (length (note_voices b n) - length qs) (2 ^ 64 - 1))
count_first b n qs voices valid e f =
    let same : length qs ≡ length (note_voices b n) = ap length f ∙ voices_counted b n valid in
    (omega arith, omega arith)

pub count_next : (total : ℕ) (q : ℕ × ℕ) (rest qs : List (ℕ × ℕ)) (voices more : ℕ) → qs ≡ q ∷ rest
    → more ≡ min (voices + 1) (2 ^ 64 - 1) → length qs ≤ total
    → voices ≡ min (total - length qs) (2 ^ 64 - 1)
    → (length rest ≤ total) × (more ≡ min (total - length rest) (2 ^ 64 - 1))
count_next total q rest qs voices more e m within counted =
    let longer : length qs ≡ length rest + 1 =
    ap length e ∙ (let s : suc (length rest) ≡ length rest + 1 = omega arith in s) in
    (omega arith, omega arith)

pub count_last : (total : ℕ) (qs : List (ℕ × ℕ)) (voices : ℕ) → qs ≡ []
    → voices ≡ min (total - length qs) (2 ^ 64 - 1) → voices ≡ min total (2 ^ 64 - 1)
count_last total qs voices e counted =
    let none : length qs ≡ 0 = ap length e in omega arith
