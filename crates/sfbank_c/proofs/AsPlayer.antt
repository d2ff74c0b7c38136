-- A sealed pointer that holds an open player, and its parts, own what a box at the same types owns.
use mir.Syntax.{impl, tnil, dnil}
use mathlib.Core.List.{[]}
use denote.Signature.{Slot, plain}
use Rattle.std_alloc.proofs.BoxSteps.Form.{Bx}
use Rattle.std_heap.specs.contracts.Global as Heap
use Rattle.std_heap.specs.contracts.GlobalAllocator.TheImpl.{ghosts, dict}
use Rattle.std_heap.proofs.Global.TheLaws as heap
use Rattle.sfbank_c.specs.contracts.open_player.OpenPlayer as Inner
use Rattle.sfbank_c.proofs.open_player.OpenPlayer.TheLaws as inner
use Rattle.c_loans.specs.contracts.parts.Parts as Parts
use Rattle.sfbank_c.specs.contracts.sealed_player.SealedPlayer as Sealed

abbrev pub E : Bx
E = record { row = Inner.the_row; laws = inner.the_row_laws; al = record { row = Heap.the_row; laws = heap.the_row_laws; g = ghosts; d = dict; drops = impl [] tnil dnil } }

abbrev pub FromParts : Slot 0
FromParts = plain (λ _. Parts.the_row Inner.the_row Heap.the_row ghosts)

abbrev pub FromSeal : Slot 0
FromSeal = plain (λ _. Sealed.the_row)
