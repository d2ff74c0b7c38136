use Rattle.std.proofs.Common.{◌≡◌, None, ◌∙◌, ap, sym}
use Rattle.sf_base.specs.declared.memory.Failure.TheVariants.{Fault}
use Rattle.bank_parts.specs.Sound.{IsSound}
use Rattle.bank_format.specs.Ids.{SFBK}
use Rattle.bank_format.specs.Chunks.{window}
use Rattle.bank_format.specs.Reading.{content_in}
use Rattle.bank_format.specs.ReadChecks.{fault_of}
use Rattle.sf_reader.specs.FlatContent.{FlatContent}
use Rattle.sf_reader.proofs.ByteLaws.{are_bytes}
use Rattle.sf_reader.proofs.CheckLaws.{fails_by}
use Rattle.sf_reader.proofs.ReadLaws.{in_frame, in_lists, in_content, file_holds}
use Rattle.sf_reader.proofs.FlatLaws.{Found, found}
use Rattle.sf_reader.proofs.reader.read.Goals as goal
use Rattle.sf_reader.proofs.reader.read.Goals.{After-read_banks_are_valid}

pub returns-in_err-window-clause-err : goal.returns-in_err-window-clause-err
unfolding SFBK
returns-in_err-window-clause-err c =
    let file = c.args.file.now in
    let e = Fault c.in_err-window.field-0.0 in
    fails_by c.from_residual.result e (fault_of file) c.from_residual.ensures.1
    (in_frame file e c.in_err-window.ensures)

pub returns-in_err-lists-clause-err : goal.returns-in_err-lists-clause-err
unfolding SFBK
returns-in_err-lists-clause-err c =
    let file = c.args.file.now in
    let e = Fault c.in_err-lists.field-0.0 in
    fails_by c.from_residual-in_err-lists.result e (fault_of file) c.from_residual-in_err-lists.ensures.1
    (in_lists file e c.in_ok-window.window.now c.in_ok-window.ensures.1 c.in_ok-window.ensures.0 c.in_err-lists.ensures)

pub returns-in_err-flat-clause-err : goal.returns-in_err-flat-clause-err
unfolding SFBK
returns-in_err-flat-clause-err c =
    let file = c.args.file.now in
    let e = c.in_err-flat.field-0.0 in
    fails_by c.from_residual-in_err-flat.result e (fault_of file) c.from_residual-in_err-flat.ensures.1
    (in_content file e c.in_ok-window.window.now c.in_ok-lists.lists c.in_ok-window.ensures.1 c.in_ok-lists.ensures.1
    c.in_ok-window.ensures.0 c.in_ok-lists.ensures.0 c.in_err-flat.ensures)

-- the checks hold, and the lists are those of the file's bank
bank_found : (c : After-read_banks_are_valid)
    → (fault_of c.args.file.now ≡ None) × Found c.in_ok-flat.flat (content_in (window c.args.file.now)).bank
    × (c.in_ok-flat.counts ≡ (content_in (window c.args.file.now)).counts)
unfolding SFBK
bank_found c =
    let file = c.args.file.now in
    let bytes = are_bytes file c.type_inv.file in
    let holds =
    file_holds file c.in_ok-window.window.now c.in_ok-lists.lists c.in_ok-window.ensures.1
    c.in_ok-lists.ensures.1 c.in_ok-window.ensures.0 c.in_ok-lists.ensures.0 c.in_ok-flat.ensures.0 in
    let content = c.in_ok-flat.ensures.1 ∙ holds.1 in
    let sound : IsSound (content_in (window file)).bank =
    record {
      valid = c.read_banks_are_valid.ensures.valid file bytes holds.0;
      fits = c.read_banks_are_valid.ensures.fits file bytes;
    } in (
      holds.0,
      found c.in_ok-flat.flat (content_in (window file)).bank sound (ap (λ (k : FlatContent). k.bank) content),
      ap (λ (k : FlatContent). k.counts) content,
    )

pub from_sound_flat-requires : goal.from_sound_flat-requires
from_sound_flat-requires c =
    let bank = (bank_found c).1 in
    (bank.sound, bank.lists)

pub returns-clause-ok : goal.returns-clause-ok
returns-clause-ok c =
    let bank = bank_found (goal.at.returns-clause-ok c).After-read_banks_are_valid in
    let same = sym bank.1.same ∙ sym c.from_sound_flat.ensures in
    let counts = sym bank.2 in
    (bank.0, λ i. record { bank = same i; counts = counts i })
