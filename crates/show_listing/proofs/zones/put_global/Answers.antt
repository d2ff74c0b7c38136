use Rattle.std.proofs.Common.{◌+◌, ◌<◌, arith}
use Rattle.show_listing.proofs.ZoneLaws.{puts_global_line}
use Rattle.show_listing.proofs.zones.put_global.Goals as goal
use Rattle.show_listing.proofs.zones.put_global.Goals.{then-gens-gt0-via-then-gens-gt0}
use Rattle.show_listing.proofs.zones.put_global.Goals.{then-gens-gt0-via-else-gens-gt0+then-mods-gt0}

pub returns-then-gens-gt0 : goal.returns-then-gens-gt0
returns-then-gens-gt0 g c =
    let some : 0 < c.gen_count-gens.result + c.mod_count-mods.result =
    elim c.then-gens-gt0.branch [
      | then-gens-gt0-via-then-gens-gt0 w ↦ omega (arith, w.if-gens-gt0.true)
      | then-gens-gt0-via-else-gens-gt0+then-mods-gt0 w ↦ omega (arith, w.if-mods-gt0.true)
    ]
    in
    let first =
    rw (c.word_piece.ensures, c.word.ensures, c.number_piece-number.ensures, c.word_piece-then-gens-gt0.ensures)
    at c.put_pieces.ensures in
    puts_global_line g.H.ListedHead.word c.args.owners.now c.args.i c.gen_count-gens.result c.mod_count-mods.result
    c.requires c.gen_count-gens.ensures c.mod_count-mods.ensures some
    c.put.ensures first c.put_global_of.ensures c.put-then-gens-gt0.ensures
