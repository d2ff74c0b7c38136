-- Voices of a player after a release, or when some or all are dropped.
use Rattle.std.proofs.Common.{◌≡◌, ℕ, ◌+◌, ◌<◌, ◌^◌, Bool, true, false, cond, List, [], map, filter, get_or, refl, sym, ap}
use Rattle.std.proofs.Common.{subst, ◌∙◌, arith}
use Rattle.std.specs.Option.{option_map_or}
use Rattle.std.proofs.lemmas.List.Elements.{All-map}
use Rattle.voices.specs.Sound.{Live}
use Rattle.voices.specs.Release.{released}
use Rattle.mixer.specs.declared.ahead.Ahead.{Ahead}
use Rattle.mixer.specs.declared.playing.PlayingVoice.{PlayingVoice}
use Rattle.mixer.specs.declared.playing.Release.{Release}
use Rattle.mixer.specs.Ahead.{IsAhead, playing_now}
use Rattle.mixer.specs.Events.{is_sounding}
use Rattle.mixer.specs.KeptVoices.{AllYounger, lifetime}
use Rattle.mixer.specs.Pressed.{ends, released_by, after_release}
use Rattle.mixer.proofs.AheadLaws.{none_ahead, none_playing}

released_age : (r : Release) (p : PlayingVoice) → (released_by r p).voice.age ≡ p.voice.age
unfolding released_by released
released_age r p =
    let P : Bool → Type 0 =
    λ b. (let q : PlayingVoice = cond b (record p { voice = released p.voice }) p in q.voice.age) ≡ p.voice.age in
    let at : (b : Bool) → P b = elim [ true ↦ refl | false ↦ refl ] in
    at (option_map_or (ends r) p.handle false)

released_younger : (r : Release) (n : ℕ) (ps : List PlayingVoice) → AllYounger n ps → AllYounger n (map (released_by r) ps)
released_younger r n ps young =
    All-map (λ (p : PlayingVoice). p.voice.age < n) (released_by r) ps
    (λ k d l. subst (λ (a : ℕ). a < n) (sym (released_age r (get_or ps k d))) (young k d l))

younger_than : (ps : List PlayingVoice) → AllYounger lifetime ps → AllYounger (2 ^ 33 + 1024) ps
younger_than ps young = λ k d l. let g : (get_or ps k d).voice.age < lifetime = young k d l in omega (arith, g)

pub released_ahead : (a : Ahead) (r : Release) (ps : List PlayingVoice) → a.left ≡ 0 → AllYounger lifetime ps
    → IsAhead a (map (released_by r) ps)
released_ahead a r ps e young =
    none_ahead a (map (released_by r) ps) e (younger_than (map (released_by r) ps) (released_younger r lifetime ps young))

pub released_playing : (a : Ahead) (r : Release) (ps was : List PlayingVoice) → a.left ≡ 0 → ps ≡ was
    → playing_now a (map (released_by r) ps) ≡ after_release was r
unfolding after_release
released_playing a r ps was e h =
    none_playing a (map (released_by r) ps) e
    ∙ ap (λ (qs : List PlayingVoice). filter is_sounding (map (released_by r) qs)) h

-- ---- voices that are dropped

pub dropped_ahead : (a : Ahead) (ps : List PlayingVoice) → a.left ≡ 0 → AllYounger lifetime ps → IsAhead a ps
dropped_ahead a ps e young = none_ahead a ps e (younger_than ps young)

pub ended_ahead : (a : Ahead) → a.left ≡ 0 → IsAhead a []
ended_ahead a e = none_ahead a [] e (λ k d l. absurd (omega (arith, l)))

pub ended_playing : (a : Ahead) → a.left ≡ 0 → playing_now a [] ≡ []
ended_playing a e = none_playing a [] e
