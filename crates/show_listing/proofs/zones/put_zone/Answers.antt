use Rattle.std.proofs.Common.{[], ◌∷◌, codes}
use Rattle.std.proofs.lemmas.Option.{IfSome_then}
use Rattle.bank_parts.specs.Owners.{zone_at}
use Rattle.script_tokens.specs.declared.printing.Piece.TheVariants.{Number, Word}
use Rattle.script_grammar.specs.Operands.{pieces_of}
use Rattle.script_grammar.specs.Zones.{zone_operands, written_zone}
use Rattle.show_listing.proofs.ZoneLaws.{puts_line_parts}
use Rattle.show_listing.proofs.zones.put_zone.Goals as goal

pub returns : goal.returns
returns g c =
    let front = Word g.H.ListedHead.word ∷ Number c.args.i ∷ Number c.args.k ∷ [] in
    let first =
    rw (c.word_piece.ensures, c.word.ensures, c.number_piece-number.ensures, c.number_piece.ensures) at
    c.put_pieces.ensures in
    IfSome_then (zone_at c.args.owners.now c.args.i c.args.k) c.put_zone_of.ensures
    (λ z h.
    puts_line_parts (codes "zone") front (pieces_of (zone_operands (written_zone z))) c.put.ensures first h
    c.put-2.ensures)
