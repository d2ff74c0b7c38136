use Rattle.std.proofs.Common.{◌≡◌, ◌++◌, ◌∙◌, ap, sym, subst, None}
use Rattle.sf_base.specs.declared.memory.Failure.TheVariants.{Fault}
use Rattle.sample_view.specs.Words.{words}
use Rattle.bank_format.specs.FaultChecks.{first_fault}
use Rattle.bank_format.specs.Windows.{without_terminal}
use Rattle.bank_format.specs.Reading.{samples_read}
use Rattle.bank_format.specs.ReadChecks.{total_checks}
use Rattle.sf_reader.specs.Owners.{AreSmall, FlatBankOwners, added, bank_owners_of, bank_owner_checks}
use Rattle.sf_reader.specs.FlatContent.{content_seen}
use Rattle.sf_reader.specs.Content.{early_table_checks, table_content, content_with}
use Rattle.bank_format.proofs.CheckLaws.{then_none}
use Rattle.sf_reader.proofs.CheckLaws.{given_by, given_front, given_after}
use Rattle.sf_reader.proofs.TableLaws.{checked}
use Rattle.sf_reader.proofs.MemberLaws.{members_small}
use Rattle.sf_reader.proofs.reader.read_tables.Goals as goal

pub returns-in_err-check_tables : goal.returns-in_err-check_tables
returns-in_err-check_tables c =
    let t = c.args.tables.now in
    let s = c.args.smpl.now in
    given_front content_seen (table_content c.args.minor c.args.lists.now t s) c.from_residual.result
    (Fault c.in_err-check_tables.field-0.0)
    (early_table_checks t s) (bank_owner_checks t ++ total_checks (without_terminal t.shdr)) c.from_residual.ensures.1
    c.in_err-check_tables.ensures.passes

pub read_bank_owners-requires-clause-counts : goal.read_bank_owners-requires-clause-counts
read_bank_owners-requires-clause-counts c =
    (checked c.args.tables.now c.args.smpl.now c.in_ok-check_tables.ensures.passes.0).counts

pub read_bank_owners-requires-clause-indexes : goal.read_bank_owners-requires-clause-indexes
read_bank_owners-requires-clause-indexes c =
    (checked c.args.tables.now c.args.smpl.now c.in_ok-check_tables.ensures.passes.0).indexes

pub returns-in_err-members : goal.returns-in_err-members
returns-in_err-members c =
    let t = c.args.tables.now in
    let s = c.args.smpl.now in
    let r = c.from_residual-in_err-members.result in
    let value = table_content c.args.minor c.args.lists.now t s in
    given_after content_seen value r (early_table_checks t s) (bank_owner_checks t ++ total_checks (without_terminal t.shdr))
    c.in_ok-check_tables.ensures.passes.0
    (given_front content_seen value r c.in_err-members.field-0.0 (bank_owner_checks t) (total_checks (without_terminal t.shdr))
    c.from_residual-in_err-members.ensures.1 c.in_err-members.ensures)

pub returns-in_err-check_total : goal.returns-in_err-check_total
returns-in_err-check_total c =
    let t = c.args.tables.now in
    let s = c.args.smpl.now in
    let r = c.from_residual-in_err-check_total.result in
    let value = table_content c.args.minor c.args.lists.now t s in
    given_after content_seen value r (early_table_checks t s) (bank_owner_checks t ++ total_checks (without_terminal t.shdr))
    c.in_ok-check_tables.ensures.passes.0
    (given_after content_seen value r (bank_owner_checks t) (total_checks (without_terminal t.shdr)) c.in_ok-members.ensures.0
    (given_by content_seen value r (Fault c.in_err-check_total.field-0.0) (total_checks (without_terminal t.shdr))
    c.from_residual-in_err-check_total.ensures.1 (rw c.samples.ensures at c.in_err-check_total.ensures)))

pub content_of-requires : goal.content_of-requires
content_of-requires c =
    let t = c.args.tables.now in
    let counts = (checked t c.args.smpl.now c.in_ok-check_tables.ensures.passes.0).counts in
    subst (λ (m : FlatBankOwners). AreSmall (added m.presets.counts m.instruments.counts))
    (sym c.in_ok-members.ensures.1) (members_small t counts)

pub returns : goal.returns
returns c =
    let t = c.args.tables.now in
    let s = c.args.smpl.now in
    let w = c.args.lists.now in
    let total : first_fault (total_checks (without_terminal t.shdr)) ≡ None =
    rw c.samples.ensures at c.in_ok-check_total.ensures.0 in
    let samples : c.in_ok-samples.samples ≡ samples_read (words s) (without_terminal t.shdr) =
    rw c.samples-2.ensures at c.in_ok-samples.ensures in (
      then_none (early_table_checks t s) (bank_owner_checks t ++ total_checks (without_terminal t.shdr)) c.in_ok-check_tables.ensures.passes.0
          (then_none (bank_owner_checks t) (total_checks (without_terminal t.shdr)) c.in_ok-members.ensures.0 total),
      c.content_of.ensures
          ∙ ap (λ (m : FlatBankOwners). content_with c.args.minor w t m c.in_ok-samples.samples) c.in_ok-members.ensures.1
          ∙ ap (content_with c.args.minor w t (bank_owners_of t)) samples,
    )
