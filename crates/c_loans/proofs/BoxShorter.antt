-- A `Box` is covariant in its value (`Denote/Sub.antt`).
--     box_shorter      what a box owns beside its pointer.        box_sub      a box
use mathlib.Core.Path.{refl, ap, subst}
use seplogic.Ra.Ura.{Ura}
use mir.Syntax.{Ty}
use mir.Raw.{raw}
use base.Fraction.{full_share}
use base.Stored.{gcons, gnil}
use base.Logic.{ent, id⊢, mono∗}
use base.Fml.{Fml}
use types.Logic.{Logic, sem}
use denote.RattleType.{RattleType}
use denote.Memory.{lone}
use denote.RawPtr.{Ptr, block_ptr}
use denote.Builtin.{RawPtr}
use denote.Sub.{Sub, Subs, sub_refl, lone_same}
use denote.SubOwning.{sub_owning, sub_lending, sub_lies, sub_lent}
use denote.Struct.Owning.{fields}
use Rattle.std.below.core.specs.declared.alloc.Allocator.{Ghosts}
use Rattle.std.specs.Box.Ownership.{box_owns}
use Rattle.std_alloc.specs.declared.boxed.Box.{Box}
use Rattle.std_alloc.specs.contracts.boxed.Box as W

abbrev pub in_box : {X Y Z : Type 0} → (X → Y) → Box X Z → Box Y Z
in_box to d = record { ptr = d.ptr; alloc = d.alloc; value = to d.value }

module _ {M : Type 1} {𝓤 : Ura M} (𝓛 : Logic 𝓤) (R S : RattleType) (to : R.Denot → S.Denot) (s : Sub 𝓛 R S to) where
  pub box_shorter : (t : Ty → Ptr → Fml) (p : Ptr) (x : R.Denot) → ent 𝓤 (sem 𝓛 (box_owns t R p x)) (sem 𝓛 (box_owns t S p (to x)))
  box_shorter t p x = mono∗ 𝓤 (sub_lies 𝓛 R S to s full_share p x)
      (subst (λ (ω : Ty). ent 𝓤 (sem 𝓛 (t (raw (lone R.mir)) p)) (sem 𝓛 (t ω p))) (lone_same R.mir S.mir s.lies) (id⊢ 𝓤 _))

  module _ (Z : RattleType) (g : Ghosts Z.Denot) where
    abbrev two : Subs 𝓛 (fields (W.the_type R Z g)) (fields (W.the_type S Z g))
    two = (((λ x. x), sub_refl 𝓛 RawPtr), (((λ x. x), sub_refl 𝓛 Z), tt))

    pub box_sub : Sub 𝓛 (W.the_row R Z g) (W.the_row S Z g) (in_box to)
    box_sub = sub_owning 𝓛 (W.the_type R Z g) (W.the_type S Z g) two (in_box to) (λ d. refl)
        (λ d. box_shorter (g.dealloc_token d.alloc) d.ptr d.value)
        (sub_lending 𝓛 (W.the_type R Z g) (W.the_type S Z g) two (in_box to) (λ d. refl) (λ d b o. W.the_lent R Z g d (block_ptr b o)) (λ d b o. W.the_lent S Z g d (block_ptr b o))
        (λ d b o κ. sub_lent 𝓛 R S to s d.ptr d.value κ))
        (λ d. ap (λ c. gcons (gcons (RawPtr.coded.code d.ptr) (gcons (Z.coded.code d.alloc) gnil)) (gcons c gnil)) (s.codes d.value))
