use Rattle.std.proofs.Common.{◌∙◌, List, subst}
use Rattle.bank_format.specs.declared.fault.ReadFault.{ReadFault}
use Rattle.bank_format.specs.FaultChecks.{Check, Passes}
use Rattle.bank_format.specs.ReadChecks.{count_checks, all_index_checks}
use Rattle.sf_reader.specs.Content.{early_table_checks}
use Rattle.bank_format.proofs.CheckLaws.{first_fault-append, passes_front}
use Rattle.sf_reader.proofs.TableLaws.{each_sample, from_even, past_counts, past_even, past_indexes, odd_fails}
use Rattle.sf_reader.proofs.TableLaws.{samples_are}
use Rattle.sf_reader.proofs.reader.check_tables.Goals as goal

pub returns-in_err-check_counts-clause-passes : goal.returns-in_err-check_counts-clause-passes
unfolding early_table_checks
returns-in_err-check_counts-clause-passes c =
    let t = c.args.tables.now in
    let s = c.args.smpl.now in
    passes_front (λ (u : Unit {0}). u) tt c.from_residual.result c.in_err-check_counts.field-0.0 (count_checks t)
    (from_even t s) c.from_residual.ensures.1 c.in_err-check_counts.ensures

pub returns-then-smpl-ne0-clause-passes : goal.returns-then-smpl-ne0-clause-passes
unfolding early_table_checks
returns-then-smpl-ne0-clause-passes c =
    let t = c.args.tables.now in
    let s = c.args.smpl.now in
    first_fault-append (count_checks t) (from_even t s) c.in_ok-check_counts.ensures.0
    ∙ odd_fails t s c.if-smpl-ne0.true

pub returns-in_err-check_indexes-clause-passes : goal.returns-in_err-check_indexes-clause-passes
returns-in_err-check_indexes-clause-passes c =
    let t = c.args.tables.now in
    let s = c.args.smpl.now in
    let r = c.from_residual-in_err-check_indexes.result in
    past_counts t s r c.in_ok-check_counts.ensures.0 (past_even t s r c.if-smpl-ne0.false
    (passes_front (λ (u : Unit {0}). u) tt r c.in_err-check_indexes.field-0.0 (all_index_checks t) (each_sample t
    s) c.from_residual-in_err-check_indexes.ensures.1 c.in_err-check_indexes.ensures))

pub returns-clause-passes : goal.returns-clause-passes
returns-clause-passes c =
    let t = c.args.tables.now in
    let s = c.args.smpl.now in
    let r = c.check_samples.result in
    past_counts t s r c.in_ok-check_counts.ensures.0
    (past_even t s r c.if-smpl-ne0.false (past_indexes t s r c.in_ok-check_indexes.ensures.0
    (subst (λ (l : List (Check ReadFault)). Passes (λ (u : Unit {0}). u) r l tt)
    (samples_are t s c.samples.result.now c.samples.ensures) c.check_samples.ensures)))
