-- An accepted move is between indexes of members.
use Rattle.std.proofs.Common.{◌≡◌, ◌<◌, ℕ, nat_le, [], ◌∷◌, subst}
use Rattle.edit_forms.specs.declared.cause.Cause.{Cause}
use Rattle.edit_forms.specs.Causes.{test, bad_member_index}
use Rattle.edit_refusals.proofs.Accepted.{NoneApplies, below, not_below}

-- a move from one index to another in a list of length `count`
pub record Moves (count from to : ℕ) : Type 0 where
  pub there : from < count
  pub place : to < count

module _ (count from to : ℕ) (cause : Cause) where
  pub moves : NoneApplies (test (nat_le count from) cause ∷ bad_member_index count to ∷ []) → Moves count from to
  moves (there, (place, end)) = record { there = below count from there; place = below count to place }

  pub tests_move : Moves count from to → NoneApplies (test (nat_le count from) cause ∷ bad_member_index count to ∷ [])
  tests_move m = (not_below count from m.there, (not_below count to m.place, tt))

-- the inverse move, in a list of the same length
pub moves_back : {count now from to : ℕ} → Moves count from to → count ≡ now → Moves now to from
moves_back {count} {now} {from} {to} m e = subst (λ n. Moves n to from) e (record { there = m.place; place = m.there })
