use Rattle.std.proofs.Common.{drop}
use Rattle.std.specs.List.{flat_map}
use Rattle.riff_chunks.specs.Encoding.{encode}
use Rattle.base_outputs.proofs.OutputLaws.{Putting}
use Rattle.sf_writer.specs.Info.{optional_chunk}
use Rattle.sf_writer.proofs.info.put_texts.Given as goal

abbrev pub invariant-loop-which : goal.invariant-loop-which
invariant-loop-which g l =
    Putting g.W.Write.contents l.initial.output l.output (encode (flat_map (optional_chunk l.bank) l.texts))
    (encode (flat_map (optional_chunk l.bank) (drop l.which-index l.texts)))
