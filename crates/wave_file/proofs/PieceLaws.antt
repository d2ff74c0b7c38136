-- Lists that are put piece by piece.
use Rattle.std.proofs.Common.{◌≡◌, List, ◌++◌, Option, ℕ, take, drop, take-append-drop, sym, ap, subst, ◌∙◌}
use Rattle.std.specs.List.{flat_map}
use Rattle.std.proofs.lemmas.Grind.{flat_map-append}
use Rattle.base_outputs.specs.declared.output.Output.{Output}
use Rattle.base_outputs.specs.Output.{Puts}
use Rattle.base_outputs.proofs.OutputLaws.{Putting, putting_step}

split : {X : Type 0} (f : X → List ℕ) (n : ℕ) (rest : List X)
    → flat_map f rest ≡ flat_map f (take n rest) ++ flat_map f (drop n rest)
split f n rest = ap (flat_map f) (sym (take-append-drop n rest)) ∙ flat_map-append f (take n rest) (drop n rest)

module _ {W X : Type 0} {c : W → Option (List ℕ)} (f : X → List ℕ) where
  -- the bytes of the first n of the rest were put
  pub putting_piece : {o p q : Output W} {whole bytes : List ℕ} (n : ℕ) (rest : List X)
      → Putting c o p whole (flat_map f rest)
      → bytes ≡ flat_map f (take n rest) → Puts c p q bytes → Putting c o q whole (flat_map f (drop n rest))
  putting_piece {p = p} {q = q} n rest s e h =
      putting_step (flat_map f (take n rest)) (flat_map f (drop n rest)) s (split f n rest)
      (subst (λ (t : List ℕ). Puts c p q t) e h)
