use Rattle.std.proofs.Common.{◌≡◌, ◌+◌, ◌≤◌, ◌*◌, length, drop}
use Rattle.std.specs.List.{flat_map}
use Rattle.riff_chunks.specs.Encoding.{encode}
use Rattle.sf_writer.specs.Info.{optional_chunk}
use Rattle.sf_writer.proofs.info.texts_size.Given as goal

-- the size so far and that of the remaining texts are the whole size
abbrev pub invariant-loop-which : goal.invariant-loop-which
invariant-loop-which l = record {
  counted : l.size + length (encode (flat_map (optional_chunk l.bank) (drop l.which-index l.texts)))
      ≡ length (encode (flat_map (optional_chunk l.bank) l.texts));
  small : l.size ≤ 131071 * l.which-index;
}
