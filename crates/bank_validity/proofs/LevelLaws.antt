-- The totals of a bank after a change of one level.
use Rattle.std.proofs.Common.{◌≡◌, sym, ◌∙◌, ap, refl}
use Rattle.generators.specs.declared.level.Level.{Level}
use Rattle.generators.specs.declared.level.Level.TheVariants as level
use Rattle.bank_validity.specs.declared.totals.LevelTotals.{LevelTotals}
use Rattle.bank_validity.specs.declared.totals.Totals.{Totals}
use Rattle.bank_validity.specs.Limits.{totals_at, level_changed}

pub changed_by : (at : Level) (f g : LevelTotals → LevelTotals) (t : Totals)
    → f (totals_at at t) ≡ g (totals_at at t) → level_changed at f t ≡ level_changed at g t
changed_by level.Preset f g t e = λ i. record t { presets = e i }
changed_by level.Inst f g t e = λ i. record t { instruments = e i }

-- the level replaced
pub put_at : (at : Level) (f : LevelTotals → LevelTotals) (t : Totals) (l : LevelTotals) → l ≡ f (totals_at at t)
    → level_changed at (λ _. l) t ≡ level_changed at f t
put_at at f t l e = changed_by at (λ _. l) f t e

pub changed_at : (at : Level) (f : LevelTotals → LevelTotals) (t : Totals)
    → totals_at at (level_changed at f t) ≡ f (totals_at at t)
changed_at level.Preset f t = refl
changed_at level.Inst f t = refl

pub changed_twice : (at : Level) (f g : LevelTotals → LevelTotals) (t : Totals)
    → level_changed at g (level_changed at f t) ≡ level_changed at (λ l. g (f l)) t
changed_twice level.Preset f g t = refl
changed_twice level.Inst f g t = refl

pub unchanged : (at : Level) (t : Totals) → level_changed at (λ l. l) t ≡ t
unchanged level.Preset t = refl
unchanged level.Inst t = refl

-- a change that g undoes
pub change_undone : (at : Level) (f g : LevelTotals → LevelTotals) → ((l : LevelTotals) → g (f l) ≡ l) → (t : Totals)
    → level_changed at g (level_changed at f t) ≡ t
change_undone at f g back t =
    changed_twice at f g t ∙ (changed_by at (λ l. g (f l)) (λ l. l) t (back (totals_at at t)) ∙ unchanged at t)

-- if the changed totals are equal, the old totals of the level were
pub same_before : (at : Level) (f g : LevelTotals → LevelTotals) → ((l : LevelTotals) → g (f l) ≡ l) → (t u : Totals)
    → level_changed at f t ≡ level_changed at f u → t ≡ u
same_before at f g back t u e = sym (change_undone at f g back t) ∙ (ap (level_changed at g) e ∙ change_undone at f g back u)

-- totals that become equal by a change of one level differ only in that level
pub same_beside : (at : Level) (f g : LevelTotals → LevelTotals) (t u : Totals)
    → level_changed at f t ≡ level_changed at g u → t ≡ level_changed at (λ _. totals_at at t) u
same_beside level.Preset f g t u e = ap (level_changed level.Preset (λ _. t.presets)) e
same_beside level.Inst f g t u e = ap (level_changed level.Inst (λ _. t.instruments)) e
