use Rattle.std.proofs.Common.{◌≡◌, ℕ, ◌≤◌, ◌+◌, List, ◌++◌, length, length-append, sym, ◌∙◌, ap, arith}
use Rattle.flat_records.specs.Runs.{changed_from}
use Rattle.flat_records.specs.Raised.{raised}
use Rattle.flat_records.proofs.TableLaws.{bags_read, are_read, held, records_put}
use Rattle.flat_records.proofs.BagPositions.{Places, spot, inside, place_read, gens_part, mods_part, later_raised}
use Rattle.flat_records.proofs.bags.Bags.insert_records.Goals.{After-index-at}
use Rattle.flat_records.proofs.bags.Bags.insert_records.Goals as goal

-- Both indexes are within the lists.
within : (c : After-index-at)
    → (c.index-at.result.now.0 + c.args.j ≤ length c.self.inside.gens.items)
    × (c.index-at.result.now.1 + c.args.i ≤ length c.self.inside.mods.items)
within c =
    let s = spot (held c.self.invariant c.self.view_is) c.args.k (Places c.args.j c.args.i) c.requires.place in
    let gens = inside (gens_part s c.index-at.ensures) in
    let mods = inside (mods_part s c.index-at.ensures) in let place = s.holds in
    (omega arith, omega arith)

-- The later indexes rise by the number of both.
by_both : (bags : List (ℕ × ℕ)) (k : ℕ) (gens last : List (ℕ × ℕ)) (m : ℕ)
    → changed_from (k + 1) (raised (length gens + length last, m)) bags
    ≡ changed_from (k + 1) (raised (length (gens ++ last), m)) bags
by_both bags k gens last m = ap (λ n. changed_from (k + 1) (raised (n, m)) bags) (sym (length-append gens last))

pub index-at-requires : goal.index-at-requires
index-at-requires c =
    let more =
    (spot (held c.self.invariant c.self.view_is) c.args.k (Places c.args.j c.args.i) c.requires.place).begin.more
    in
    let ok = c.self.inside.bags.ok in
    omega (arith, ok.0)

pub overflow_add-at : goal.overflow_add-at
overflow_add-at c =
    let fits = within (goal.at.overflow_add-at c).After-index-at in let ok = c.self.inside.gens.ok in
    omega (arith, ok.0, ok.1)

pub put_both_within-requires-clause-place : goal.put_both_within-requires-clause-place
put_both_within-requires-clause-place c = (within (goal.at.put_both_within-requires-clause-place c).After-index-at).0

pub overflow_add-at-2 : goal.overflow_add-at-2
overflow_add-at-2 c =
    let fits = within (goal.at.overflow_add-at-2 c).After-index-at in let ok = c.self.inside.mods.ok in
    omega (arith, ok.0, ok.1)

pub put_within-requires-clause-place : goal.put_within-requires-clause-place
put_within-requires-clause-place c = (within (goal.at.put_within-requires-clause-place c).After-index-at).1

pub overflow_add-k : goal.overflow_add-k
overflow_add-k c =
    let more =
    (spot (held c.self.invariant c.self.view_is) c.args.k (Places c.args.j c.args.i) c.requires.place).begin.more
    in
    let ok = c.self.inside.bags.ok in
    omega (arith, ok.0, ok.1)

pub raise_from-requires : goal.raise_from-requires
raise_from-requires c =
    let a = held c.self.invariant c.self.view_is in
    later_raised (spot a c.args.k (Places c.args.j c.args.i) c.requires.place) a (length c.args.gens.now + length c.args.last.now)
    (length c.args.mods.now) c.requires.gens_limit c.requires.mods_limit

pub invariant_of-self : goal.invariant_of-self
invariant_of-self c =
    let s = spot (held c.self.invariant c.self.view_is) c.args.k (Places c.args.j c.args.i) c.requires.place in
    are_read
    (records_put s.begin (place_read s c.index-at.ensures) c.args.j c.args.i (c.args.gens.now ++ c.args.last.now)
    c.args.mods.now s.holds.0 s.holds.1
    (c.raise_from.ensures.list ∙ by_both c.self.inside.bags.items c.args.k c.args.gens.now c.args.last.now (length c.args.mods.now))
    c.put_both_within.ensures.list c.put_within.ensures.list)

pub returns-clause-bags : goal.returns-clause-bags
returns-clause-bags c =
    let s = spot (held c.self.invariant c.self.view_is) c.args.k (Places c.args.j c.args.i) c.requires.place in
    bags_read
    (records_put s.begin (place_read s c.index-at.ensures) c.args.j c.args.i (c.args.gens.now ++ c.args.last.now)
    c.args.mods.now s.holds.0 s.holds.1
    (c.raise_from.ensures.list ∙ by_both c.self.inside.bags.items c.args.k c.args.gens.now c.args.last.now (length c.args.mods.now))
    c.put_both_within.ensures.list c.put_within.ensures.list)
