use Rattle.std.proofs.Common.{All, take, drop, sym, subst, ◌∙◌, ap}
use Rattle.flat_records.proofs.Exchanges.{changed-exchanged, second_stays}
use Rattle.flat_records.proofs.index_shift.exchange_slices.Goals as goal

pub returns : goal.returns
returns g c =
    rw (c.exchange.ensures, c.lower_within.ensures, c.raise_within.ensures)
    (changed-exchanged c.args.list.now c.args.a c.args.b c.args.c (g.I.Index.lowered c.args.down)
    (g.I.Index.raised c.args.up) c.requires.places.first c.requires.places.second c.requires.places.within)

pub lower_within-requires-clause-fits : goal.lower_within-requires-clause-fits
lower_within-requires-clause-fits g c =
    subst (All (g.I.Index.CanLower c.args.down))
    (sym (ap (λ list. drop c.args.b (take c.args.c list)) c.raise_within.ensures
    ∙ second_stays c.args.list.now c.args.a c.args.b c.args.c (g.I.Index.raised c.args.up) c.requires.places.first
    c.requires.places.second c.requires.places.within))
    c.requires.lower
