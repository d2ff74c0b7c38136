use Rattle.std.proofs.Common.{◌∙◌}
use Rattle.bank_parts.specs.declared.parts.Parts.{Parts}
use Rattle.sfbank.specs.Differences.{both}
use Rattle.sfbank.proofs.Differences.{first_not_read, second_not_read, pair_read, other_versions, one_version}
use Rattle.sfbank.proofs.diff.read_two_banks.Goals as goal

pub returns-in-Err : goal.returns-in-Err
returns-in-Err c =
    rw c.of_first.ensures
    (first_not_read (Parts × Parts) both c.in-Err.failure c.args.first.now c.args.second.now c.in-Err.ensures.err)

pub returns-in-Err-read : goal.returns-in-Err-read
returns-in-Err-read c =
    rw c.of_second.ensures
    (second_not_read (Parts × Parts) both c.in-Err-read.failure c.args.first.now c.args.second.now c.in-Ok.ensures.ok.0
    c.in-Err-read.ensures.err)

pub returns-then-minor : goal.returns-then-minor
returns-then-minor c =
    pair_read c.args.first.now c.args.second.now c.in-Ok.bank c.in-Ok-read.bank _ _ c.in-Ok.ensures.ok
    c.in-Ok-read.ensures.ok
    ∙ other_versions (record { first = c.in-Ok.bank; second = c.in-Ok-read.bank })
    (rw (c.minor.ensures, c.minor-2.ensures) at c.if-minor.true)

pub returns : goal.returns
returns c =
    pair_read c.args.first.now c.args.second.now c.in-Ok.bank c.in-Ok-read.bank _ _ c.in-Ok.ensures.ok
    c.in-Ok-read.ensures.ok
    ∙ one_version (record { first = c.in-Ok.bank; second = c.in-Ok-read.bank })
    (rw (c.minor.ensures, c.minor-2.ensures) at c.if-minor.false)
