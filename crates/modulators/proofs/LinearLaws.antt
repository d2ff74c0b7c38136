-- The test of linear modulators decides the relation.
use Rattle.std.proofs.Common.{◌≡◌, ℕ, true, false, true≢false, sym, ◌∙◌, ◌==◌}
use Rattle.std.specs.Bool.{Decides}
use Rattle.std.specs.List.{Contains, list_any}
use Rattle.std.proofs.lemmas.Bool.Decides.{Decides-eqb, Decides-and, Decides-or}
use Rattle.std.proofs.lemmas.Map.Views.{list_any-from_Contains, Contains-from_any}
use Rattle.std.proofs.lemmas.Cmp.{nat_eq_equiv}
use Rattle.modulators.specs.declared.modulator.Modulator.{Modulator}
use Rattle.modulators.specs.Modulators.{index_of, flag_of}
use Rattle.modulators.specs.Linear.{IsLinear, is_linear, curve_of, velocity_index, key_index, linear_destinations}

moved_decides : (generator : ℕ)
    → Decides (list_any (λ operator. generator == operator) linear_destinations) (Contains linear_destinations generator)
moved_decides generator = (
  Contains-from_any (λ x y e. (Decides-eqb x y).0 e) generator linear_destinations,
  list_any-from_Contains nat_eq_equiv generator linear_destinations,
)

pub linear_decides : (m : Modulator) → Decides (is_linear m) (IsLinear m)
linear_decides m =
    let general = Decides-eqb (flag_of m.source) 0 in
    let controller =
    Decides-or _ _ (Decides-eqb (index_of m.source) velocity_index) (Decides-eqb (index_of m.source) key_index)
    in
    let straight = Decides-eqb (curve_of m.source) 0 in
    let alone = Decides-eqb m.amount_source 0 in
    let all =
    Decides-and _ _ (Decides-and _ _ (Decides-and _ _ (Decides-and _ _ general controller) straight) alone)
    (moved_decides m.dest) in (
      λ e. let h =
          all.0 e in record
          { general = h.0.0.0.0; controller = h.0.0.0.1; straight = h.0.0.1; alone = h.0.1; moves = h.1 },
      λ h. all.1 ((((h.general, h.controller), h.straight), h.alone), h.moves),
    )

pub linear_is : (m : Modulator) → is_linear m ≡ true → IsLinear m
linear_is m e = (linear_decides m).0 e

pub linear_is_not : (m : Modulator) → is_linear m ≡ false → ¬ IsLinear m
linear_is_not m e h = true≢false (sym ((linear_decides m).1 h) ∙ e)
