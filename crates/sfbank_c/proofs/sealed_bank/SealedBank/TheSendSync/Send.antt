-- A sealed pointer may go to another thread, since what it owns may, and any thread may free its block.
use Rattle.std.proofs.Common.{List, [], ◌∷◌}
use mir.Raw.{raw}
use denote.Memory.{lone}
use denote.RawPtr.{Ptr}
use denote.Struct.Struct.{exits_of}
use denote.Struct.Owning.{shape, fields, to}
use base.Shift.{Keyless}
use denote.Param.Send.{IsSend, AllSend, owning_send, struct_send, sendable}
use Rattle.std.proofs.Crossing as heap
use Rattle.std.specs.Global.{Global}
use Rattle.std_alloc.proofs.SendSync.{quiet, lies}
use Rattle.std_heap.proofs.Global.TheSendSync as handle
use Rattle.sfbank_c.specs.Owned.{bank_owned}
use Rattle.sfbank_c.specs.contracts.open_bank.OpenBank as Inner
use Rattle.sfbank_c.proofs.open_bank.OpenBank.TheSendSync.{the_send as inner}
use Rattle.sfbank_c.specs.contracts.sealed_bank.SealedBank.{the_row, the_type}

owned : (alloc : Global) (at : Ptr) (held : List (Inner.the_row).Denot) → Keyless (bank_owned alloc at held)
owned alloc at [] = tt
owned alloc at (x ∷ _) = (lies Inner.the_row inner at x, heap.frees.frees alloc (raw (lone (Inner.the_row).mir)) at)

pub send : IsSend the_row
send =
    let all : AllSend (fields the_type) = (search sendable, (handle.the_field_send, tt)) in
    owning_send the_type all (λ d. owned d.alloc d.at d.held) (λ k. quiet (to the_type) (exits_of k (fields the_type)) ((struct_send (shape the_type) all).leaving k))
