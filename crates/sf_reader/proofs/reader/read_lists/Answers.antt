use Rattle.std.proofs.Common.{◌≡◌, Result, sym, subst}
use Rattle.std.specs.Result.{IsErrAnd}
use Rattle.sf_base.specs.declared.memory.Failure.{Failure}
use Rattle.sf_base.specs.declared.memory.Failure.TheVariants.{Fault}
use Rattle.bank_core.specs.declared.flat.Flat.{Flat}
use Rattle.bank_format.specs.declared.fault.Counts.{Counts}
use Rattle.bank_format.specs.declared.fault.ReadFault.{ReadFault}
use Rattle.bank_format.specs.Ids.{IFIL}
use Rattle.bank_format.specs.FaultChecks.{first_fault, Fails, PassesOrOutOfMemory}
use Rattle.sf_reader.specs.declared.lists.Lists.TheInside.{Inside}
use Rattle.sf_reader.specs.Lists.{ListChunks}
use Rattle.sf_reader.specs.FlatContent.{content_seen}
use Rattle.sf_reader.specs.Content.{list_content_checks, list_content, table_checks, table_content}
use Rattle.sf_reader.proofs.CheckLaws.{given_by}
use Rattle.sf_reader.proofs.ReadLaws.{Opened, Cut, in_there, in_nine, in_version, in_whole, tables_pass}
use Rattle.sf_reader.proofs.reader.read_lists.Goals as goal
use Rattle.sf_reader.proofs.reader.read_lists.Goals.{In_ok-bodies}

abbrev chunks : Inside → ListChunks
chunks l = record { info = l.info; sdta = l.sdta; pdta = l.pdta }

-- a fault of the chunks v, which equal those of the lists
stops : (r : Result (Flat × Counts) (Failure ReadFault)) (e : Failure ReadFault) (v w : ListChunks) → v ≡ w
    → IsErrAnd r (λ d. d ≡ e) → Fails e (first_fault (list_content_checks v))
    → PassesOrOutOfMemory content_seen r (list_content_checks w) (list_content w)
stops r e v w same is h =
    given_by content_seen (list_content w) r e (list_content_checks w) is
    (subst (λ (u : ListChunks). Fails e (first_fault (list_content_checks u))) same h)

-- what has been found before the version is read
opened : (c : In_ok-bodies) → Opened (chunks c.lists.inside) c.in_ok-version.version.now c.in_ok-bodies.bodies
unfolding IFIL
opened c = record {
  there = c.in_ok-version.ensures.0;
  version_is = c.in_ok-version.ensures.1;
  nine = c.in_ok-bodies.ensures.0;
  bodies_are = c.in_ok-bodies.ensures.1;
}

pub returns-in_err-version : goal.returns-in_err-version
unfolding IFIL
returns-in_err-version c =
    let w = chunks c.lists.inside in
    let e = Fault c.in_err-version.field-0.0 in
    stops c.from_residual.result e w c.args.lists.now c.lists.view_is c.from_residual.ensures.1
    (in_there w e c.in_err-version.ensures)

pub returns-in_err-bodies : goal.returns-in_err-bodies
unfolding IFIL
returns-in_err-bodies c =
    let w = chunks c.lists.inside in
    let e = Fault c.in_err-bodies.field-0.0 in
    stops c.from_residual-in_err-bodies.result e w c.args.lists.now c.lists.view_is
    c.from_residual-in_err-bodies.ensures.1
    (in_nine w e c.in_ok-version.ensures.0 c.in_err-bodies.ensures)

pub returns-in_err-minor : goal.returns-in_err-minor
unfolding IFIL
returns-in_err-minor c =
    let w = chunks c.lists.inside in
    let e = Fault c.in_err-minor.field-0.0 in
    stops c.from_residual-in_err-minor.result e w c.args.lists.now c.lists.view_is
    c.from_residual-in_err-minor.ensures.1
    (in_version w e c.in_ok-version.version.now c.in_ok-bodies.bodies
    (opened (goal.at.returns-in_err-minor c).In_ok-bodies) c.in_err-minor.ensures)

pub returns-in_err-tables : goal.returns-in_err-tables
unfolding IFIL
returns-in_err-tables c =
    let w = chunks c.lists.inside in
    let e = Fault c.in_err-tables.field-0.0 in
    stops c.from_residual-in_err-tables.result e w c.args.lists.now c.lists.view_is
    c.from_residual-in_err-tables.ensures.1
    (in_whole w e c.in_ok-version.version.now c.in_ok-bodies.bodies
    (opened (goal.at.returns-in_err-tables c).In_ok-bodies) c.in_ok-minor.ensures.0 c.in_err-tables.ensures)

pub returns : goal.returns
unfolding IFIL
returns c =
    let w = chunks c.lists.inside in
    let r = c.read_tables.result in
    let minor = c.in_ok-minor.minor in
    let t = c.in_ok-tables.tables in
    let smpl = c.smpl_of-smpl.result.now in
    let found : Cut w c.in_ok-version.version.now c.in_ok-bodies.bodies minor t smpl = record {
      opened = opened (goal.at.returns c).In_ok-bodies;
      version_holds = c.in_ok-minor.ensures.0;
      minor_is = c.in_ok-minor.ensures.1;
      whole = c.in_ok-tables.ensures.0;
      tables_are = c.in_ok-tables.ensures.1;
      smpl_is = c.smpl_of-smpl.ensures;
    } in
    let same = c.lists.view_is in
    subst (λ (u : ListChunks). PassesOrOutOfMemory content_seen r (list_content_checks u) (list_content u)) same
    (tables_pass content_seen r w c.in_ok-version.version.now c.in_ok-bodies.bodies minor t smpl found
    (subst (λ (u : ListChunks). PassesOrOutOfMemory content_seen r (table_checks t smpl)
    (table_content minor u t smpl)) (sym same) c.read_tables.ensures))
