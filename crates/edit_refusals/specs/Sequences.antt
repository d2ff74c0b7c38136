-- Sequences of changes of a bank, for any type of change.
use Rattle.std.specs.Prelude.{List, [], ◌∷◌, ◌++◌}
use Rattle.bank_parts.specs.declared.parts.Parts.{Parts}

-- the bank after all changes
abbrev pub after_all : {X : Type 0} → (Parts → X → Parts) → Parts → List X → Parts
after_all change b [] = b
after_all change b (x ∷ xs) = after_all change (change b x) xs

-- the inverses, each computed from the bank before its change, the last change's first
abbrev pub undo_list : {X : Type 0} → (Parts → X → Parts) → (Parts → X → X) → Parts → List X → List X
undo_list change inverse b [] = []
undo_list change inverse b (x ∷ xs) = undo_list change inverse (change b x) xs ++ inverse b x ∷ []
