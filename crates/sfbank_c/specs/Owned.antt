-- What a sealed pointer owns: the block of an open bank or player on the heap, or nothing.
use mathlib.Core.List.{List, [], ◌∷◌}
use base.Fml.{Fml, ftrue}
use base.Stored.{Coded}
use denote.RawPtr.{Ptr}
use Rattle.std.specs.Box.Ownership.{box_owns}
use Rattle.std.specs.Global.{Global}
use Rattle.std.specs.Coded.{coded_list}
use Rattle.std_heap.specs.contracts.GlobalAllocator.TheImpl.{ghosts}
use Rattle.sfbank_c.specs.contracts.open_bank.OpenBank as bank
use Rattle.sfbank_c.specs.contracts.open_player.OpenPlayer as player

abbrev pub bank_owned : Global → Ptr → List bank.the_row.Denot → Fml
bank_owned alloc at [] = ftrue
bank_owned alloc at (b ∷ _) = box_owns (ghosts.dealloc_token alloc) bank.the_row at b

abbrev pub bank_coded : Coded (List bank.the_row.Denot)
bank_coded = coded_list bank.the_row.coded

abbrev pub player_owned : Global → Ptr → List player.the_row.Denot → Fml
player_owned alloc at [] = ftrue
player_owned alloc at (p ∷ _) = box_owns (ghosts.dealloc_token alloc) player.the_row at p

abbrev pub player_coded : Coded (List player.the_row.Denot)
player_coded = coded_list player.the_row.coded
