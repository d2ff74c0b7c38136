-- Changes of a bank that can be undone, for any type of change: steps, edits, or lists of them.
use Rattle.std.specs.Prelude.{◌≡◌, List, [], ◌∷◌}
use Rattle.bank_parts.specs.declared.parts.Parts.{Parts}
use Rattle.bank_parts.specs.Sound.{IsSound}

-- The changed bank is sound and accepts the inverse of x, which restores the bank; the inverse of the inverse is x.
pub record IsUndoneBy {X : Type 0} (change : Parts → X → Parts) (inverse : Parts → X → X)
    (Accepts : Parts → X → Type 0) (b : Parts) (x : X) : Type 0 where
  pub sound : IsSound (change b x)
  pub is_accepted : Accepts (change b x) (inverse b x)
  pub restored : change (change b x) (inverse b x) ≡ b
  pub redone : inverse (change b x) (inverse b x) ≡ x

-- each change is accepted on the bank after the changes before it
abbrev pub AllAcceptedBy : {X : Type 0} → (Parts → X → Parts) → (Parts → X → Type 0) → Parts → List X → Type 0
AllAcceptedBy change Accepts b [] = Unit {0}
AllAcceptedBy change Accepts b (x ∷ xs) = Accepts b x × AllAcceptedBy change Accepts (change b x) xs
