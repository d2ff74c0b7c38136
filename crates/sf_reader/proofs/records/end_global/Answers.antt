use Rattle.std.proofs.Common.{◌≡◌, ◌∙◌, ◌-◌, length, ap, sym, arith}
use Rattle.sf_reader.proofs.CheckLaws.{on_ok}
use Rattle.sf_reader.proofs.BagAppends.{global_none, global_some}
use Rattle.sf_reader.proofs.records.end_global.Goals as goal

pub returns-then-mods-eq0 : goal.returns-then-mods-eq0
returns-then-mods-eq0 c before g h start mods =
    let now = c.args.records.now in
    let gens : c.len.result - c.args.start ≡ length now.gens.items - length before.gens.items =
    omega (arith, c.len.ensures, now.gens.ok.0, start) in
    global_none before now g _ _ h gens (c.len-mods.ensures ∙ ap length (sym mods)) c.if-gens-eq0.true
    c.if-mods-eq0.true

pub returns : goal.returns
returns c = on_ok c.end_bag.result _ _ (λ ends before g h start mods.
    let now = c.args.records.now in
    let gens : c.len.result - c.args.start ≡ length now.gens.items - length before.gens.items =
    omega (arith, c.len.ensures, now.gens.ok.0, start) in
    global_some before now g _ _ h gens (c.len-mods.ensures ∙ ap length (sym mods)) c.end_bag.new.records
    c.else-gens-eq0.either (rw mods ends)) c.end_bag.ensures
