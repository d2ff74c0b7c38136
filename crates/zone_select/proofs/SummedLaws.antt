-- The sources of linear modulators.
use Rattle.std.proofs.Common.{◌≡◌, ◌<◌, ◌⊎◌, inl, inr, ℕ, zero, suc, ◌+◌, ◌*◌, ◌/◌, ◌==◌, List, true, refl, rules}
use Rattle.std.proofs.Common.{arith}
use Rattle.std.specs.List.{Contains, IsDistinct, list_any}
use Rattle.std.proofs.lemmas.Bool.Decides.{Decides-eqb}
use Rattle.std.proofs.lemmas.Map.Views.{Contains-from_any}
use Rattle.std.proofs.lemmas.Nat.{div-add-mod'}
use Rattle.modulators.specs.declared.modulator.Modulator.{Modulator}
use Rattle.modulators.specs.Modulators.{SameIdentity, flag_of, index_of}
use Rattle.modulators.specs.Linear.{IsLinear, curve_of, velocity_index, key_index, linear_destinations}
use Rattle.zone_select.specs.Amounts.{linear_sources, linear_from}

listed : (n : ℕ) (ns : List ℕ) → list_any (λ m. n == m) ns ≡ true → Contains ns n
listed n ns e = Contains-from_any (λ x y e. (Decides-eqb x y).0 e) n ns e

-- sources by bits 8 and 9
of_index : (high : ℕ) (index : ℕ) → high < 4 → (index ≡ 2) ⊎ (index ≡ 3) → Contains linear_sources (256 * high + index)
of_index zero index h (inl e) = rw e (listed 2 linear_sources refl)
of_index zero index h (inr e) = rw e (listed 3 linear_sources refl)
of_index (suc zero) index h (inl e) = rw e (listed 258 linear_sources refl)
of_index (suc zero) index h (inr e) = rw e (listed 259 linear_sources refl)
of_index (suc (suc zero)) index h (inl e) = rw e (listed 514 linear_sources refl)
of_index (suc (suc zero)) index h (inr e) = rw e (listed 515 linear_sources refl)
of_index (suc (suc (suc zero))) index h (inl e) = rw e (listed 770 linear_sources refl)
of_index (suc (suc (suc zero))) index h (inr e) = rw e (listed 771 linear_sources refl)
of_index (suc (suc (suc (suc k)))) index h i = absurd (omega (arith, h))

-- a linear source has no bits but 8, 9 and those of the index
by_bits : (source : ℕ) → curve_of source ≡ 0 → flag_of source ≡ 0 → source ≡ 256 * (source / 128 / 2) + index_of source
by_bits source c f = omega (arith, c, f, div-add-mod' source 128, div-add-mod' (source / 128) 2)

bits_few : (source : ℕ) → curve_of source ≡ 0 → source / 128 / 2 < 4
bits_few source c = omega (arith, c)

pub source_summed : (m : Modulator) → IsLinear m → Contains linear_sources m.source
source_summed m h =
    rw (by_bits m.source h.straight h.general)
    (of_index (m.source / 128 / 2) (index_of m.source) (bits_few m.source h.straight) h.controller)

pub linear_summed : (m : Modulator) → IsLinear m
    → Contains linear_sources m.source × SameIdentity m (linear_from m.source m.dest)
linear_summed m h = (source_summed m h, record { source = refl; dest = refl; amount_source = h.alone })

-- ---- the converse

record IsSource (source : ℕ) : Type 0 where
  general : flag_of source ≡ 0
  controller : (index_of source ≡ velocity_index) ⊎ (index_of source ≡ key_index)
  straight : curve_of source ≡ 0

by_velocity : (source n : ℕ) → n ≡ source → flag_of n ≡ 0 → index_of n ≡ velocity_index → curve_of n ≡ 0
    → IsSource source
by_velocity source n e f i c = rw (← e) (record { general = f; controller = inl i; straight = c })

by_key : (source n : ℕ) → n ≡ source → flag_of n ≡ 0 → index_of n ≡ key_index → curve_of n ≡ 0 → IsSource source
by_key source n e f i c = rw (← e) (record { general = f; controller = inr i; straight = c })

is_source : (source : ℕ) → Contains linear_sources source → IsSource source
is_source source (zero, l, e) = by_velocity source 2 e refl refl refl
is_source source (suc zero, l, e) = by_key source 3 e refl refl refl
is_source source (suc (suc zero), l, e) = by_velocity source 258 e refl refl refl
is_source source (suc (suc (suc zero)), l, e) = by_key source 259 e refl refl refl
is_source source (suc (suc (suc (suc zero))), l, e) = by_velocity source 514 e refl refl refl
is_source source (suc (suc (suc (suc (suc zero)))), l, e) = by_key source 515 e refl refl refl
is_source source (suc (suc (suc (suc (suc (suc zero))))), l, e) = by_velocity source 770 e refl refl refl
is_source source (suc (suc (suc (suc (suc (suc (suc zero)))))), l, e) = by_key source 771 e refl refl refl
is_source source (suc (suc (suc (suc (suc (suc (suc (suc k))))))), l, e) = absurd (omega (arith, l))

pub summed_linear : (source op : ℕ) → Contains linear_sources source → Contains linear_destinations op
    → IsLinear (linear_from source op)
summed_linear source op s o =
    let i = is_source source s in
    record { general = i.general; controller = i.controller; straight = i.straight; alone = refl; moves = o }

pub summed_once : IsDistinct (λ x y. x == y) linear_sources
unfolding IsDistinct
summed_once = search rules
