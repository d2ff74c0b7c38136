-- Tokens of several lifetimes are one of their meet, until it is given back.
use mathlib.Core.List.{List, [], ◌∷◌, ◌++◌}
use Prim.Native.Nat.{ℕ}
use seplogic.Ra.Ura.{Ura}
use base.Fraction.{full_share}
use base.FractionLaws.{common}
use base.Logic.{SProp, ent, sep, wand, ex, apply∗}
use base.Fml.{Share, ftrue, flft}
use types.Logic.{Logic, sem}
use types.Kit.{‵, raw, ◌⊛◌, some, ◌$◌, ◌∵◌, !, qed, by, move, drop, use0, use1, use2, split, fsplit, pick, show, frame, assume, done}
use types.Tokens.{lft-common}
use Rattle.c_loans.specs.Owned.{atoms, level, toks_owned}

module _ {M : Type 1} {𝓤 : Ura M} (𝓛 : Logic 𝓤) where
  open 𝓛 use {A}

  abbrev pub One : List (ℕ × ℕ) → Share → SProp 𝓤
  One ts q = sep 𝓤 (A.lft (atoms ts) q) (wand 𝓤 (A.lft (atoms ts) q) (sem 𝓛 (toks_owned ts)))

  pub meet_token : (ts : List (ℕ × ℕ)) → ent 𝓤 (sem 𝓛 (toks_owned ts)) (ex 𝓤 (One ts))
  meet_token [] = qed 𝓛 (‵ ftrue ∷ []) ∵ show ! (One []) full_share $ use0 𝓛 (‵ (flft [] full_share)) (𝓛.lfts.lft-nil full_share) $ frame ! $ assume ! (‵ (flft [] full_share)) $ drop ! $ done !
  meet_token (t ∷ ts) = qed 𝓛 (‵ (flft (t.0 ∷ []) (level t.1)) ∷ ‵ (toks_owned ts) ∷ []) ∵ move ! (1 ∷ []) $
      use1 𝓛 (some (λ (q : Share). ‵ (flft (atoms ts) q) ⊛ raw (wand 𝓤 (A.lft (atoms ts) q) (sem 𝓛 (toks_owned ts))))) (meet_token ts) $ pick ! (λ q. split ! $ move ! (2 ∷ 0 ∷ []) $
      let r : Share = (common (level t.1) q).0 in
      let Both : SProp 𝓤 = sep 𝓤 (A.lft (t.0 ∷ []) (level t.1)) (A.lft (atoms ts) q) in
      use2 𝓛 (‵ (flft (t.0 ∷ atoms ts) r) ⊛ raw (wand 𝓤 (A.lft (t.0 ∷ atoms ts) r) Both)) (lft-common 𝓛 (t.0 ∷ []) (atoms ts) (level t.1) q) $ split ! $
      show ! (One (t ∷ ts)) r $ frame ! $ assume ! (‵ (flft (t.0 ∷ atoms ts) r)) $
      use2 𝓛 (‵ (flft (t.0 ∷ []) (level t.1)) ⊛ ‵ (flft (atoms ts) q)) (apply∗ 𝓤 (A.lft (t.0 ∷ atoms ts) r) Both) $ split ! $ frame ! $ by ! (apply∗ 𝓤 (A.lft (atoms ts) q) (sem 𝓛 (toks_owned ts))))
