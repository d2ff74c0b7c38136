-- Points, at a lifetime within their own.
use mathlib.Core.Path.{refl}
use seplogic.Ra.Ura.{Ura}
use mir.Syntax.{w8}
use base.Fml.{Incl}
use types.Logic.{Logic}
use denote.RattleType.{RattleType}
use denote.Ref.{NamedLft}
use denote.Builtin.{u8, usize}
use denote.Plain.{uint_row_laws}
use denote.Slice.{ShrSlice}
use denote.Sub.{Sub, Subss, toss, sub_refl, sub-struct, sub-variants, sub_as, sub_shr_slice_same, more_stays, none_stays}
use denote.Model.Marks.{view-sub}
use denote.Struct.Declared as struct
use denote.Enum.Declared as enum
use denote.Enum.Enum.{Enum}
use Rattle.std.below.std_alloc.specs.formers.vec.Vec.{the_shorter}
use Rattle.std.specs.contracts.alloc.Global as Global
use Rattle.std.specs.contracts.impls.GlobalAllocator.TheImpl.{ghosts}
use Rattle.sample_view.specs.contracts.piece_list.PieceList as PieceList
use Rattle.sample_view.specs.contracts.piece_list.PieceList.TheInside as PieceListInside
use Rattle.sample_view.specs.contracts.slices.Slices as Slices
use Rattle.sample_view.specs.contracts.points.Points as Points
use Rattle.sample_view.specs.contracts.points.Points.TheInside as PointsInside
use Rattle.c_loans.proofs.BoxShorter.{box_sub}

module _ {M : Type 1} {𝓤 : Ura M} (𝓛 : Logic 𝓤) (k k' : NamedLft) (inc : Incl k'.lft k.lft) where
  pub bytes : Sub 𝓛 (ShrSlice k.mir k.lft u8) (ShrSlice k'.mir k'.lft u8) (λ x. x)
  bytes = sub_shr_slice_same 𝓛 u8 u8.mir u8.written u8.reaches u8.lives u8.own_val u8.exit u8.coded u8.shr_at (sub_refl 𝓛 u8) (uint_row_laws w8) k.mir k'.mir k.lft k'.lft inc

  abbrev B : RattleType
  B = ShrSlice k'.mir k'.lft u8

  piece_list : Sub 𝓛 (PieceList.the_row k) (PieceList.the_row k') (λ x. x)
  piece_list = view-sub 𝓛 (struct.row (PieceListInside.the_type k)) (struct.row (PieceListInside.the_type k')) (PieceList.the_row k).Denot (PieceList.the_row k).coded (PieceList.the_row k').coded (λ x. x)
      (PieceList.the_view k) (PieceList.the_invariant k) (PieceList.the_view k') (PieceList.the_invariant k')
      (sub-struct 𝓛 (PieceListInside.the_type k) (PieceListInside.the_type k')
      (((λ x. x), the_shorter 𝓛 (ShrSlice k.mir k.lft u8) B.mir B.written B.reaches B.lives B.own_val B.exit B.coded B.shr_at bytes Global.the_row ghosts), (((λ x. x), sub_refl 𝓛 usize), tt)) (λ x. x) (λ d. refl)) (λ a. refl) (λ a h. h) (λ d. refl)

  abbrev each : Subss 𝓛 (enum.variants (Slices.the_type k)) (enum.variants (Slices.the_type k'))
  each = (tt, ((((λ x. x), bytes), tt), ((((λ x. x), box_sub 𝓛 (PieceList.the_row k) (PieceList.the_row k') (λ x. x) piece_list Global.the_row ghosts), (((λ x. x), sub_refl 𝓛 usize), tt)), tt)))

  slices : Sub 𝓛 (Enum (enum.shape (Slices.the_type k))) (Enum (enum.shape (Slices.the_type k'))) (λ x. x)
  slices = sub_as 𝓛 (Enum (enum.shape (Slices.the_type k))) (Enum (enum.shape (Slices.the_type k'))) _ (sub-variants 𝓛 (enum.shape (Slices.the_type k)) (enum.shape (Slices.the_type k')) each) (λ x. x)
      (more_stays (toss 𝓛 (enum.variants (Slices.the_type k)) (enum.variants (Slices.the_type k')) each) _ (λ x. refl) (λ x. refl) (more_stays _ _ (λ x. refl) (λ x. refl) (more_stays _ _ (λ x. refl) (λ x. refl) (none_stays 𝓛))))

  pub points : Sub 𝓛 (Points.the_row k) (Points.the_row k') (λ x. x)
  points = view-sub 𝓛 (struct.row (PointsInside.the_type k)) (struct.row (PointsInside.the_type k')) (Points.the_row k).Denot (Points.the_row k).coded (Points.the_row k').coded (λ x. x)
      (Points.the_view k) (Points.the_invariant k) (Points.the_view k') (Points.the_invariant k')
      (sub-struct 𝓛 (PointsInside.the_type k) (PointsInside.the_type k') (((λ x. x), sub_refl 𝓛 _), (((λ x. x), slices), tt)) (λ x. x) (λ d. refl)) (λ a. refl) (λ a h. h) (λ d. refl)
