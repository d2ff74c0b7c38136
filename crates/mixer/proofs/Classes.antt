-- Voices without an exclusive class.
use Rattle.std.proofs.Common.{◌≡◌, ℤ, pos, Bool, true, false, not, ◌&&◌, ◌||◌, cond, nat_eq, List, [], ◌∷◌, refl, ap}
use Rattle.std.proofs.Common.{◌∙◌}
use Rattle.std.specs.List.{list_any}
use Rattle.std.specs.Ordering.{int_eq}
use Rattle.std.proofs.lemmas.Bool.{or_parts}
use Rattle.mixer.specs.declared.playing.PlayingVoice.{PlayingVoice}
use Rattle.mixer.specs.StartFrames.{has_class, excludes, silences}
use Rattle.mixer.specs.Events.{unsilenced}

not_both : (a b : Bool) → (not a && (a && b)) ≡ false
not_both true b = refl
not_both false b = refl

no_class : (p q : PlayingVoice) → q.voice.value.parameters.class ≡ pos 0 → excludes p q ≡ false
unfolding excludes
no_class p q e =
    ap
    (λ (c : ℤ).
    not (int_eq p.voice.value.parameters.class (pos 0))
    && (int_eq p.voice.value.parameters.class c && (nat_eq p.bank q.bank && nat_eq p.number q.number)))
    e
    ∙ not_both (int_eq p.voice.value.parameters.class (pos 0)) (nat_eq p.bank q.bank && nat_eq p.number q.number)

pub none_silences : (ps : List PlayingVoice) (q : PlayingVoice) → q.voice.value.parameters.class ≡ pos 0 → silences ps q ≡ false
unfolding silences
none_silences [] q e = refl
none_silences (p ∷ ps) q e = (λ j. no_class p q e j || silences ps q) ∙ none_silences ps q e

no_new_class : (p q : PlayingVoice) → has_class p ≡ false → excludes p q ≡ false
unfolding excludes
no_new_class p q e =
    ap
    (λ b.
    b
    &&
    (int_eq p.voice.value.parameters.class q.voice.value.parameters.class
    && (nat_eq p.bank q.bank && nat_eq p.number q.number)))
    e

no_new_silences : (new : List PlayingVoice) (q : PlayingVoice) → list_any has_class new ≡ false → silences new q ≡ false
unfolding silences
no_new_silences [] q e = refl
no_new_silences (p ∷ new) q e =
    let both = or_parts (has_class p) (list_any has_class new) e in
    (λ j. no_new_class p q both.0 j || silences new q) ∙ no_new_silences new q both.1

-- new voices without a class silence none
pub none_silenced : (new ps : List PlayingVoice) → list_any has_class new ≡ false → unsilenced new ps ≡ ps
unfolding unsilenced
none_silenced new [] e = refl
none_silenced new (p ∷ ps) e =
    ap (λ b. cond (not b) (p ∷ unsilenced new ps) (unsilenced new ps)) (no_new_silences new p e)
    ∙ ap (λ l. p ∷ l) (none_silenced new ps e)
