use Rattle.std.proofs.Common.{◌+◌, length, refl}
use Rattle.std.specs.FinMap.{len}
use Rattle.bank_parts.proofs.Counts.{none_held, none_left, decides_zero}
use Rattle.bank_parts.proofs.parts.GlobalZone.is_empty.Goals as goal

pub returns-then-is_empty : goal.returns-then-is_empty
returns-then-is_empty c =
    let none = c.if-is_empty.ensures.0 refl in
    let held = none_held c.args.self.now.gens c.args.self.now.mods none in
    let mods = c.is_empty-then-is_empty.ensures in
    decides_zero c.is_empty-then-is_empty.result (len c.args.self.now.gens + length c.args.self.now.mods)
    (λ t. held.0 (mods.0 t), λ n. mods.1 (held.1 n))

pub returns-else-is_empty : goal.returns-else-is_empty
returns-else-is_empty c =
    let gens = c.is_empty.ensures in
    decides_zero c.is_empty.result (len c.args.self.now.gens + length c.args.self.now.mods)
    (λ t. absurd cc, λ n. gens.1 (none_left c.args.self.now.gens c.args.self.now.mods n))
