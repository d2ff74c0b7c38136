use Rattle.std.proofs.Common.{◌≡◌, None, Some, rules}
use Rattle.plan_take.specs.Merging.{merge_fault}
use Rattle.sfbank.specs.Outcome.{bank_in}
use Rattle.sfbank.specs.Purposes.{merging_all}
use Rattle.sfbank.proofs.BankPairs.{merges, merges_none}
use Rattle.sfbank.proofs.other_banks.read_to_merge.Goals as goal

pub returns-in-Ok-None : goal.returns-in-Ok-None
returns-in-Ok-None c =
    let is : c.in-Ok-None.field-0 ≡ None = search rules in (
      c.in-Ok.ensures.0,
      merges c.args.file.now c.args.other.now c.in-Ok.bank c.in-Ok.from c.args.shift c.in-Ok-None.field-0 c.in-Ok.ensures.0
          c.in-Ok.ensures.1 c.in-Ok-None.ensures is,
    )

pub returns-in-Ok-Some : goal.returns-in-Ok-Some
returns-in-Ok-Some c =
    let is : Some c.in-Ok-Some.fault ≡ merge_fault c.in-Ok.from c.in-Ok.bank c.args.shift = search rules in
    merges_none c.args.file.now c.args.other.now c.in-Ok.bank c.in-Ok.from c.args.shift c.in-Ok-Some.fault
    c.in-Ok.ensures.0 c.in-Ok.ensures.1 is

pub returns : goal.returns
returns c =
    c.in-Err.ensures (merging_all (bank_in c.args.other.now) (bank_in c.args.file.now) c.args.shift)
