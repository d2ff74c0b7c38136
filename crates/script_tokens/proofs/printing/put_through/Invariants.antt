use Rattle.std.proofs.Common.{◌≡◌, ◌/◌, length}
use Rattle.std.specs.Slice.Iter.{chunks_rest, chunks_size}
use Rattle.hex.specs.Hex.{encode_lower}
use Rattle.base_outputs.proofs.OutputLaws.{Putting}
use Rattle.script_tokens.proofs.printing.put_through.Given as goal

-- the digits of the remaining bytes are still to be written
abbrev pub invariant-loop-few : goal.invariant-loop-few
invariant-loop-few g l =
    (goal.iterator-loop-few g).can_next l.few-iterator
    × (goal.iterator-loop-few g).is_finite l.few-iterator
    × (chunks_size l.few-iterator ≡ length l.initial.buffer / 2)
    × Putting g.W.Write.contents l.initial.output l.output (encode_lower l.bytes)
    (encode_lower (chunks_rest l.few-iterator))
