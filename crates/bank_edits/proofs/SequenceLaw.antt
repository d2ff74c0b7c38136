-- A sequence of changes is undone if each change is.
use Rattle.std.proofs.Common.{◌≡◌, List, [], ◌∷◌, ◌++◌, refl, sym, subst, ◌∙◌, ap}
use Rattle.bank_parts.specs.declared.parts.Parts.{Parts}
use Rattle.bank_parts.specs.Sound.{IsSound}
use Rattle.edit_refusals.specs.Sequences.{after_all, undo_list}
use Rattle.bank_edits.specs.Undoing.{IsUndoneBy, AllAcceptedBy}

module _ {X : Type 0} (change : Parts → X → Parts) (inverse : Parts → X → X) (Accepts : Parts → X → Type 0) where
  after_all-push : (b : Parts) (xs : List X) (x : X)
      → after_all change b (xs ++ x ∷ []) ≡ change (after_all change b xs) x
  after_all-push b [] x = refl
  after_all-push b (y ∷ xs) x = after_all-push (change b y) xs x

  is_accepted-push : (b : Parts) (xs : List X) (x : X) → AllAcceptedBy change Accepts b xs → Accepts (after_all change b xs) x
      → AllAcceptedBy change Accepts b (xs ++ x ∷ [])
  is_accepted-push b [] x h k = (k, tt)
  is_accepted-push b (y ∷ xs) x h k = (h.0, is_accepted-push (change b y) xs x h.1 k)

  undo_list-push : (b : Parts) (xs : List X) (x : X)
      → undo_list change inverse b (xs ++ x ∷ []) ≡ inverse (after_all change b xs) x ∷ undo_list change inverse b xs
  undo_list-push b [] x = refl
  undo_list-push b (y ∷ xs) x = ap (λ (l : List X). l ++ inverse b y ∷ []) (undo_list-push (change b y) xs x)

  pub sequence_undone : ((b : Parts) (x : X) → IsSound b → Accepts b x → IsUndoneBy change inverse Accepts b x)
      → (b : Parts) (xs : List X) → IsSound b → AllAcceptedBy change Accepts b xs
      → IsUndoneBy (after_all change) (undo_list change inverse) (AllAcceptedBy change Accepts) b xs
  sequence_undone undone b [] s h = record { sound = s; is_accepted = tt; restored = refl; redone = refl }
  sequence_undone undone b (x ∷ xs) s h =
      let one = undone b x s h.0 in
      let rest = sequence_undone undone (change b x) xs one.sound h.1 in
      let end : Parts = after_all change (change b x) xs in
      let us : List X = undo_list change inverse (change b x) xs in
      let back : X = inverse b x in
      record {
        sound = rest.sound;
        is_accepted = is_accepted-push end us back rest.is_accepted (subst (λ (c : Parts). Accepts c back) (sym rest.restored) one.is_accepted);
        restored = after_all-push end us back ∙ (ap (λ (c : Parts). change c back) rest.restored ∙ one.restored);
        redone = undo_list-push end us back
            ∙ (ap (λ (c : Parts). inverse c back ∷ undo_list change inverse end us) rest.restored
            ∙ (λ i. one.redone i ∷ rest.redone i));
      }
