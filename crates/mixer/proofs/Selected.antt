-- The voices of a note, pair by pair.
use Rattle.std.proofs.Common.{◌≡◌, ℕ, max, List, [], ◌∷◌, ◌++◌, map, Option, Some, None, sym, ap, ◌∙◌, arith}
use Rattle.std.proofs.Common.{append-nil, append_assoc}
use Rattle.std.specs.List.{flat_map}
use Rattle.std.specs.Option.{option_map}
use Rattle.std.proofs.lemmas.List.{map-append}
use Rattle.bank_parts.specs.declared.parts.Parts.{Parts}
use Rattle.script_notes.specs.Notes.{Numbers}
use Rattle.zone_select.specs.Select.{Voice, selected}
use Rattle.zone_select.specs.Pairs.{pairs, voice_by, listed}
use Rattle.zone_select.proofs.PairLaws.{selected_by_pairs}
use Rattle.voices.specs.Sound.{Live}
use Rattle.voices.specs.Starts as starts
use Rattle.mixer.specs.declared.playing.PlayingVoice.{PlayingVoice}
use Rattle.mixer.specs.StartFrames.{playing, note_voices}
use Rattle.mixer.specs.Render.{last_release}

-- the voices of pairs
abbrev pub voices_of : Parts → Numbers → List (ℕ × ℕ) → List Voice
voices_of b n qs = flat_map (λ q. listed (voice_by b n q)) qs

-- ---- their starts

pub note_voices_first : (b : Parts) (n : Numbers) (qs : List (ℕ × ℕ)) (ps : List PlayingVoice) → ps ≡ [] → qs ≡ pairs b n
    → ps ++ map (playing n) (voices_of b n qs) ≡ note_voices b n
unfolding note_voices
note_voices_first b n qs ps e f =
    (λ j. e j ++ map (playing n) (voices_of b n (f j))) ∙ ap (map (playing n)) (selected_by_pairs b n)

pub note_voices_next : (b : Parts) (n : Numbers) (q : ℕ × ℕ) (rest qs : List (ℕ × ℕ)) (ps new : List PlayingVoice) → qs ≡ q ∷ rest
    → new ≡ ps ++ map (playing n) (listed (voice_by b n q)) → ps ++ map (playing n) (voices_of b n qs) ≡ note_voices b n
    → new ++ map (playing n) (voices_of b n rest) ≡ note_voices b n
note_voices_next b n q rest qs ps new e f h =
    ap (λ xs. xs ++ map (playing n) (voices_of b n rest)) f
    ∙ append_assoc ps (map (playing n) (listed (voice_by b n q))) (map (playing n) (voices_of b n rest))
    ∙ ap (λ xs. ps ++ xs) (sym (map-append (playing n) (listed (voice_by b n q)) (voices_of b n rest)))
    ∙ ap (λ rs. ps ++ map (playing n) (voices_of b n rs)) (sym e)
    ∙ h

pub note_voices_last : (b : Parts) (n : Numbers) (qs : List (ℕ × ℕ)) (ps all : List PlayingVoice) → qs ≡ []
    → ps ++ map (playing n) (voices_of b n qs) ≡ all → ps ≡ all
note_voices_last b n qs ps all e h = sym (append-nil ps) ∙ ap (λ rs. ps ++ map (playing n) (voices_of b n rs)) (sym e) ∙ h

pub started_is : (n : Numbers) (o : Option Voice) (l : Live) (bank number : ℕ) → option_map starts.at_first_frame o ≡ Some l
    → bank ≡ n.bank → number ≡ n.number
    → (let p : PlayingVoice = record { voice = l; bank = bank; number = number; handle = None } in p) ∷ [] ≡ map (playing n) (listed o)
unfolding playing
started_is n None l bank number e f g = absurd cc
started_is n (Some v) l bank number e f g =
    let h : l ≡ starts.at_first_frame v = cc in λ j. record { voice = h j; bank = f j; number = g j; handle = None } ∷ []

-- ---- their releases

release_both : (vs ws : List Voice) → last_release (vs ++ ws) ≡ max (last_release vs) (last_release ws)
unfolding last_release
release_both [] ws = omega arith
release_both (v ∷ vs) ws =
    ap (λ m. max v.parameters.release m) (release_both vs ws)
    ∙
    (let e : max v.parameters.release (max (last_release vs) (last_release ws))
    ≡ max (max v.parameters.release (last_release vs)) (last_release ws) =
    omega arith in e)

pub release_first : (b : Parts) (n : Numbers) (qs : List (ℕ × ℕ)) → qs ≡ pairs b n
    → max 0 (last_release (voices_of b n qs)) ≡ last_release (selected b n)
release_first b n qs f =
    ap (λ rs. max 0 (last_release (voices_of b n rs))) f ∙ ap (λ vs. max 0 (last_release vs)) (selected_by_pairs b n)
    ∙ (let e : max 0 (last_release (selected b n)) ≡ last_release (selected b n) = omega arith in e)

pub release_next : (b : Parts) (n : Numbers) (q : ℕ × ℕ) (rest qs : List (ℕ × ℕ)) (r last most all : ℕ) → qs ≡ q ∷ rest
    → r ≡ last_release (listed (voice_by b n q)) → most ≡ max r last → max last (last_release (voices_of b n qs)) ≡ all
    → max most (last_release (voices_of b n rest)) ≡ all
release_next b n q rest qs r last most all e f g h =
    let both : last_release (voices_of b n qs)
    ≡ max (last_release (listed (voice_by b n q))) (last_release (voices_of b n rest)) =
    ap (λ rs. last_release (voices_of b n rs)) e ∙ release_both (listed (voice_by b n q)) (voices_of b n rest) in
    omega arith

pub release_last : (b : Parts) (n : Numbers) (qs : List (ℕ × ℕ)) (last all : ℕ) → qs ≡ []
    → max last (last_release (voices_of b n qs)) ≡ all → last ≡ all
unfolding last_release
release_last b n qs last all e h =
    (let z : last ≡ max last 0 = omega arith in z) ∙ ap (λ rs. max last (last_release (voices_of b n rs))) (sym e) ∙ h

pub release_alone : (r : ℕ) → r ≡ max r 0
release_alone r = omega arith
