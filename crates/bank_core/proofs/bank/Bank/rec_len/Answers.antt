use Rattle.std.proofs.Common.{◌∙◌, ap, arith}
use Rattle.generators.specs.declared.level.Level.TheVariants as level
use Rattle.bank_parts.specs.FlatLists.{lists_of}
use Rattle.bank_core.specs.Records.{record_count}
use Rattle.bank_core.proofs.RecordLaws.{few_records}
use Rattle.bank_core.proofs.bank.Bank.rec_len.Goals as goal

pub overflow_cast-result : goal.overflow_cast-result
overflow_cast-result c =
    let count =
    c.list_len.ensures
    ∙ ap (λ owners. record_count (lists_of level.Preset owners) c.args.part) c.presets.ensures.value in
    let few = few_records c.args.self.now c.presets.ensures.valid level.Preset c.args.part in
    omega (arith, count, few)

pub overflow_cast-result-in-Inst : goal.overflow_cast-result-in-Inst
overflow_cast-result-in-Inst c =
    let count =
    c.list_len-in-Inst.ensures
    ∙ ap (λ owners. record_count (lists_of level.Inst owners) c.args.part) c.instruments.ensures.value
    in
    let few = few_records c.args.self.now c.instruments.ensures.valid level.Inst c.args.part in
    omega (arith, count, few)
