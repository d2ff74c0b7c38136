-- A bank and a player at a lifetime, as what a box holds.
use mir.Syntax.{impl, tnil, dnil}
use mathlib.Core.List.{[]}
use base.Fml.{Lft}
use Rattle.std_alloc.proofs.BoxSteps.Form.{Bx}
use Rattle.std_heap.specs.contracts.Global as Heap
use Rattle.std_heap.specs.contracts.GlobalAllocator.TheImpl.{ghosts, dict}
use Rattle.std_heap.proofs.Global.TheLaws as heap
use Rattle.c_loans.specs.Owned.{at_lft}
use Rattle.bank_core.specs.contracts.bank.Bank as Bank
use Rattle.bank_core.proofs.bank.Bank.TheLaws as bank
use Rattle.mixer.specs.contracts.player.Player as Player
use Rattle.mixer.proofs.player.Player.TheLaws as player

abbrev pub EB : Lft → Bx
EB κ = record { row = Bank.the_row (at_lft κ); laws = bank.the_row_laws (at_lft κ); al = record { row = Heap.the_row; laws = heap.the_row_laws; g = ghosts; d = dict; drops = impl [] tnil dnil } }

abbrev pub EP : Lft → Bx
EP κ = record { row = Player.the_row (at_lft κ); laws = player.the_row_laws (at_lft κ); al = record { row = Heap.the_row; laws = heap.the_row_laws; g = ghosts; d = dict; drops = impl [] tnil dnil } }
