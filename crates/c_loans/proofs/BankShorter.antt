-- A sample, the parts of a bank and a bank, at a lifetime within their own.
use mathlib.Core.Path.{refl}
use seplogic.Ra.Ura.{Ura}
use base.Fml.{Incl}
use types.Logic.{Logic}
use denote.RattleType.{RattleType}
use denote.Ref.{NamedLft}
use denote.Sub.{Sub, sub_refl, sub-struct, sub-fields}
use denote.Model.Marks.{view-sub}
use denote.Struct.Declared as struct
use denote.Struct.Struct.{Struct}
use Rattle.std.below.std_alloc.specs.formers.vec.Vec.{the_shorter}
use Rattle.std.specs.contracts.alloc.Global as Global
use Rattle.std.specs.contracts.impls.GlobalAllocator.TheImpl.{ghosts}
use Rattle.sf_base.specs.contracts.borrowed_bytes.BorrowedBytes as Text
use Rattle.sf_base.specs.contracts.borrowed_bytes.BorrowedBytes.TheInside as TextInside
use Rattle.bank_linked_members.specs.contracts.double_ended.DoubleEndedList as Ended
use Rattle.bank_linked_members.specs.contracts.double_ended.DoubleEndedList.TheInside as EndedInside
use Rattle.bank_linked_members.specs.contracts.members.LinkedMembers as Members
use Rattle.bank_linked_members.specs.contracts.members.LinkedMembers.TheInside as MembersInside
use Rattle.bank_parts.specs.contracts.texts.Texts as Texts
use Rattle.bank_parts.specs.contracts.parts.Sample as Sample
use Rattle.bank_parts.specs.contracts.parts.Parts as Parts
use Rattle.bank_parts.specs.contracts.renumbering.SampleLinked.TheImpl as Linked
use Rattle.bank_parts.specs.contracts.renumbering.SampleRenumber.TheImpl as Renumber
use Rattle.bank_core.specs.contracts.bank.Bank as Bank
use Rattle.bank_core.specs.contracts.bank.Bank.TheInside as BankInside
use Rattle.c_loans.proofs.PointsShorter.{bytes, points}

module _ {M : Type 1} {𝓤 : Ura M} (𝓛 : Logic 𝓤) (k k' : NamedLft) (inc : Incl k'.lft k.lft) where
  text : Sub 𝓛 (Text.the_row k) (Text.the_row k') (λ x. x)
  text = view-sub 𝓛 (struct.row (TextInside.the_type k)) (struct.row (TextInside.the_type k')) (Text.the_row k).Denot (Text.the_row k).coded (Text.the_row k').coded (λ x. x)
      (Text.the_view k) (Text.the_invariant k) (Text.the_view k') (Text.the_invariant k')
      (sub-struct 𝓛 (TextInside.the_type k) (TextInside.the_type k') (((λ x. x), bytes 𝓛 k k' inc), tt) (λ x. x) (λ d. refl)) (λ a. refl) (λ a h. h) (λ d. refl)

  texts : Sub 𝓛 (Struct (struct.shape (Texts.the_type k))) (Struct (struct.shape (Texts.the_type k'))) (λ x. x)
  texts = sub-fields 𝓛 (struct.shape (Texts.the_type k)) (struct.shape (Texts.the_type k'))
      (((λ x. x), text), (((λ x. x), text), (((λ x. x), text), (((λ x. x), text), (((λ x. x), text), (((λ x. x), text), (((λ x. x), text), (((λ x. x), text), tt))))))))

  pub sample : Sub 𝓛 (Sample.the_row k) (Sample.the_row k') (λ x. x)
  sample = sub-struct 𝓛 (Sample.the_type k) (Sample.the_type k')
      (((λ x. x), sub_refl 𝓛 _), (((λ x. x), points 𝓛 k k' inc), (((λ x. x), sub_refl 𝓛 _), (((λ x. x), sub_refl 𝓛 _), (((λ x. x), sub_refl 𝓛 _), (((λ x. x), sub_refl 𝓛 _), (((λ x. x), sub_refl 𝓛 _), tt))))))) (λ x. x) (λ d. refl)

  abbrev R : RattleType
  R = Sample.the_row k

  abbrev S : RattleType
  S = Sample.the_row k'

  ended : Sub 𝓛 (Ended.the_row R) (Ended.the_row S) (λ x. x)
  ended = view-sub 𝓛 (struct.row (EndedInside.the_type R)) (struct.row (EndedInside.the_type S)) (Ended.the_row R).Denot (Ended.the_row R).coded (Ended.the_row S).coded (λ x. x)
      (Ended.the_view R) (Ended.the_invariant R) (Ended.the_view S) (Ended.the_invariant S)
      (sub-struct 𝓛 (EndedInside.the_type R) (EndedInside.the_type S)
      (((λ x. x), the_shorter 𝓛 R S.mir S.written S.reaches S.lives S.own_val S.exit S.coded S.shr_at sample Global.the_row ghosts), (((λ x. x), sub_refl 𝓛 _), tt)) (λ x. x) (λ d. refl)) (λ a. refl) (λ a h. h) (λ d. refl)

  members : Sub 𝓛 (Members.the_row R Linked.ghosts Renumber.ghosts) (Members.the_row S Linked.ghosts Renumber.ghosts) (λ x. x)
  members =
      let T = MembersInside.the_type R Linked.ghosts Renumber.ghosts in let T' = MembersInside.the_type S Linked.ghosts Renumber.ghosts in
      view-sub 𝓛 (struct.row T) (struct.row T') (Members.the_row R Linked.ghosts Renumber.ghosts).Denot (Members.the_row R Linked.ghosts Renumber.ghosts).coded (Members.the_row S Linked.ghosts Renumber.ghosts).coded (λ x. x)
      (Members.the_view R Linked.ghosts Renumber.ghosts) (Members.the_invariant R Linked.ghosts Renumber.ghosts) (Members.the_view S Linked.ghosts Renumber.ghosts) (Members.the_invariant S Linked.ghosts Renumber.ghosts)
      (sub-struct 𝓛 T T' (((λ x. x), ended), (((λ x. x), sub_refl 𝓛 _), (((λ x. x), sub_refl 𝓛 _), tt))) (λ x. x) (λ d. refl)) (λ a. refl) (λ a h. h) (λ d. refl)

  parts : Sub 𝓛 (Struct (struct.shape (Parts.the_type k))) (Struct (struct.shape (Parts.the_type k'))) (λ x. x)
  parts = sub-fields 𝓛 (struct.shape (Parts.the_type k)) (struct.shape (Parts.the_type k'))
      (((λ x. x), sub_refl 𝓛 _), (((λ x. x), texts), (((λ x. x), sub_refl 𝓛 _), (((λ x. x), sub_refl 𝓛 _), (((λ x. x), members), tt)))))

  pub bank : Sub 𝓛 (Bank.the_row k) (Bank.the_row k') (λ x. x)
  bank = view-sub 𝓛 (struct.row (BankInside.the_type k)) (struct.row (BankInside.the_type k')) (Bank.the_row k).Denot (Bank.the_row k).coded (Bank.the_row k').coded (λ x. x)
      (Bank.the_view k) (Bank.the_invariant k) (Bank.the_view k') (Bank.the_invariant k')
      (sub-struct 𝓛 (BankInside.the_type k) (BankInside.the_type k') (((λ x. x), parts), (((λ x. x), sub_refl 𝓛 _), tt)) (λ x. x) (λ d. refl)) (λ a. refl) (λ a h. h) (λ d. refl)
