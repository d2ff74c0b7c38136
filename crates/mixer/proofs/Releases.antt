-- The release of a pair's voice, and its bound.
use Rattle.std.proofs.Common.{◌≡◌, ℕ, ◌+◌, ◌*◌, ◌≤◌, ◌<◌, ◌/◌, ◌%◌, ℤ, pos, negsuc, ◌+ℤ◌, ◌≤ℤ◌, Bool, true, false}
use Rattle.std.proofs.Common.{cond, leb, Option, Some, None, slice_get, refl, sym, ◌∙◌, subst, arith}
use Rattle.std.specs.Int.{int_min}
use Rattle.std.specs.Option.{option_map, option_and_then}
use Rattle.std.proofs.lemmas.Bool.{leb-false}
use Rattle.std.proofs.lemmas.Int.{ints, clamps}
use Rattle.std.proofs.lemmas.Nat.{mod_below, div-add-mod'}
use Rattle.sound_tables.specs.Floor.{floor_div, floor_mod}
use Rattle.sound_tables.specs.Tables.{frames_at, frames_of}
use Rattle.sound_tables.proofs.FloorLaws.{floor_div_is, floor_mod_is}
use Rattle.sound_tables.proofs.OctaveLaws.{frames_case, frames_bound}
use Rattle.bank_parts.specs.declared.parts.Sample.{Sample}
use Rattle.bank_parts.specs.declared.parts.Parts.{Parts}
use Rattle.script_notes.specs.Notes.{Numbers}
use Rattle.zone_select.specs.declared.parameters.VoiceParameters.{VoiceParameters}
use Rattle.zone_select.specs.Amounts.{moved, parameters_of}
use Rattle.zone_select.specs.Select.{Voice, voice_of}
use Rattle.zone_select.specs.Pairs.{SelectedPair, selected_pair, selected_pair_voice, voice_by, listed}
use Rattle.zone_select.proofs.LinearLaws.{above_least}
use Rattle.mixer.specs.Render.{last_release}
use Rattle.mixer.proofs.Selected.{release_alone}

most_at : (y : ℤ) → pos 0 ≤ℤ (y +ℤ pos 14400) → y ≤ℤ pos 8000 → frames_at y ≤ 4480284
most_at y low high =
    let least = above_least y 14400 low in
    let m : ℕ = least.0 in
    let e : y +ℤ pos 14400 ≡ pos m = least.1 in
    let o : floor_div y 1200 +ℤ pos 12 ≡ pos (m / 1200) = floor_div_is y 12 1200 m (omega arith) e in
    let r : floor_mod y 1200 ≡ m % 1200 = floor_mod_is y 12 1200 m (omega arith) e in
    let top : m ≤ 22400 = omega (arith, ints, e, high) in
    let d : m / 1200 * 1200 + m % 1200 ≡ m = div-add-mod' m 1200 in
    let rest : m % 1200 < 1200 = mod_below m 1200 (omega arith) in
    subst (λ (k : ℕ). k ≤ 4480284) (sym (frames_case y (m / 1200) (m % 1200) o (sym r)))
    (frames_bound (m / 1200) (m % 1200) (omega (arith, d, top)) rest)

-- no time has more frames than the longest
pub frames_most : (x : ℤ) → frames_of x ≤ 4480284
frames_most (pos a) = most_at (int_min (pos a) (pos 8000)) (omega (arith, ints, clamps)) (omega (arith, ints, clamps))
frames_most (negsuc a) =
    let P : Bool → Type 0 = λ t. leb 11999 a ≡ t → cond t 0 (frames_at (int_min (negsuc a) (pos 8000))) ≤ 4480284 in
    let at : (t : Bool) → P t = elim [
      | true ↦ λ _. omega arith
      | false ↦ λ e. let h : a < 11999 = leb-false 11999 a e in
          most_at (int_min (negsuc a) (pos 8000)) (omega (arith, ints, clamps, h)) (omega (arith, ints, clamps))
    ] in
    at (leb 11999 a) refl

of_sample : (n : Numbers) (c : SelectedPair) (p : VoiceParameters) (o : Option Sample)
    → Some p ≡ option_map (λ (v : Voice). v.parameters) (option_map (voice_of n c.instrument_zone c.preset_zone) o)
    → p.release ≤ 4480284
unfolding voice_of parameters_of
of_sample n c p None e = absurd cc
of_sample n c p (Some s) e =
    let h : p.release ≡ frames_of (moved n c.instrument_zone c.preset_zone 38) = cc in
    subst (λ (k : ℕ). k ≤ 4480284) (sym h) (frames_most (moved n c.instrument_zone c.preset_zone 38))

of_selected : (b : Parts) (n : Numbers) (p : VoiceParameters) (o : Option SelectedPair)
    → Some p ≡ option_map (λ (v : Voice). v.parameters) (option_and_then (selected_pair_voice b n) o) → p.release ≤ 4480284
of_selected b n p None e = absurd cc
of_selected b n p (Some c) e = of_sample n c p (slice_get b.samples c.sample) e

pub release_most : (b : Parts) (n : Numbers) (q : ℕ × ℕ) (p : VoiceParameters)
    → Some p ≡ option_map (λ (v : Voice). v.parameters) (voice_by b n q) → p.release ≤ 4480284
release_most b n q p e = of_selected b n p (selected_pair b n q) e

pub release_is : (p : VoiceParameters) (o : Option Voice) → Some p ≡ option_map (λ (v : Voice). v.parameters) o
    → p.release ≡ last_release (listed o)
unfolding last_release
release_is p None e = absurd cc
release_is p (Some v) e = (let f : p.release ≡ v.parameters.release = cc in f) ∙ release_alone v.parameters.release

pub release_none : (o : Option Voice) → None ≡ option_map (λ (v : Voice). v.parameters) o → 0 ≡ last_release (listed o)
unfolding last_release
release_none None e = refl
release_none (Some v) e = absurd cc
