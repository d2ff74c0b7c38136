use Rattle.std.proofs.Common.{drop}
use Rattle.std.specs.List.{flat_map}
use Rattle.bank_format.specs.Tables.{heads_from}
use Rattle.bank_format.specs.FlatTables.{headers_of}
use Rattle.base_outputs.proofs.OutputLaws.{Putting}
use Rattle.sf_writer.proofs.owner_heads.put_heads.Given as goal

abbrev pub invariant-loop-i : goal.invariant-loop-i
invariant-loop-i g l = let h = g.H.RecordedHead in
    Putting g.W.Write.contents l.initial.output l.output
    (flat_map g.H.Record.Encoded.bytes_of (heads_from h.headers 0 l.owners))
    (flat_map g.H.Record.Encoded.bytes_of (headers_of h.headers (drop l.i l.owners) (drop l.i l.first_bags)))
