use Rattle.std.proofs.Common.{◌≡◌, ◌-◌, ℕ, length, ap, arith}
use Rattle.flat_records.specs.Bags.{gens_in, mods_in}
use Rattle.flat_records.proofs.TableLaws.{held, bags_size, last_counts}
use Rattle.flat_records.proofs.bags.Bags.records_fit.Goals.{After-index-counts}
use Rattle.flat_records.proofs.bags.Bags.records_fit.Goals as goal

-- The last indexes are the numbers of all records.
counted : (c : After-index-counts)
    → c.index-counts.result ≡ (length (gens_in c.args.self.now.bags), length (mods_in c.args.self.now.bags))
counted c =
    let a = held c.self.invariant c.self.view_is in
    let size = bags_size a in
    let len = c.deref.ensures.len in
    let ok = c.self.inside.bags.ok in
    last_counts a c.deref.result.now (c.len.result - 1) c.index-counts.result c.deref.ensures.value
    (omega (arith, ok.0, c.len.ensures)) c.index-counts.ensures.index

pub returns-clause-gens : goal.returns-clause-gens
returns-clause-gens c = let fits = c.index-counts.ensures.fits in let e = ap (λ (p : ℕ × ℕ). p.0) (counted c) in omega arith

pub returns-clause-mods : goal.returns-clause-mods
returns-clause-mods c = let fits = c.index-counts.ensures.fits in let e = ap (λ (p : ℕ × ℕ). p.1) (counted c) in omega arith
