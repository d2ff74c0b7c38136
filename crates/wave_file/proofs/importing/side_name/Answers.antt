use Rattle.std.proofs.Common.{◌≡◌, ◌++◌, length, ap, ◌∙◌, List, ℕ, rules, arith}
use Rattle.sf_base.specs.Names.{before_zero}
use Rattle.wave_file.proofs.ImportLaws.{are_bytes, own_short, side_named}
use Rattle.wave_file.proofs.importing.side_name.Goals as goal

pub unwrap-requires : goal.unwrap-requires
unwrap-requires c =
    let own =
    own_short c.args.name.now c.before_zero-own.result.now (are_bytes c.args.name.now c.type_inv.name)
    (c.before_zero-own.ensures ∙ ap before_zero c.front_of.ensures) in
    let short = own.0 in
    c.try_extend_from_slice.ensures.variant.1 (omega (arith, short, ap length c.new-text.ensures))

pub unwrap-requires-2 : goal.unwrap-requires-2
unwrap-requires-2 c =
    let own =
    own_short c.args.name.now c.before_zero-own.result.now (are_bytes c.args.name.now c.type_inv.name)
    (c.before_zero-own.ensures ∙ ap before_zero c.front_of.ensures) in
    let short = own.0 in
    let two : length c.args.side.now ≡ 2 = search rules in
    let len = rw c.unwrap.ensures at c.try_extend_from_slice.ensures.len in
    c.try_extend_from_slice-2.ensures.variant.1 (omega (arith, short, two, len, ap length c.new-text.ensures))

pub name_of-requires : goal.name_of-requires
name_of-requires c =
    let own =
    own_short c.args.name.now c.before_zero-own.result.now (are_bytes c.args.name.now c.type_inv.name)
    (c.before_zero-own.ensures ∙ ap before_zero c.front_of.ensures) in
    let two : length c.args.side.now ≡ 2 = search rules in
    let first = rw c.unwrap.ensures at c.try_extend_from_slice.ensures.ok in
    let both = rw c.unwrap-2.ensures at c.try_extend_from_slice-2.ensures.ok in
    let whole : c.as_slice.result.now ≡ c.before_zero-own.result.now ++ c.args.side.now =
    c.as_slice.ensures.value ∙ both
    ∙ ap (λ (xs : List ℕ). xs ++ c.args.side.now)
    (first ∙ ap (λ (xs : List ℕ). xs ++ c.before_zero-own.result.now) c.new-text.ensures) in
    rw whole (side_named c.before_zero-own.result.now c.args.side.now own two c.requires)
