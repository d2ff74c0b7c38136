use Rattle.std.proofs.Common.{◌≡◌, ◌∙◌, ◌+◌, [], None, arith, get_or, subst, suc, sym}
use Rattle.std.specs.Prelude.{Option}
use Rattle.file_host.specs.World.{World}
use Rattle.sfbank.specs.declared.program.listing.Entry.{Entry}
use Rattle.sfbank.specs.KitSteps.{IsReadOf, entry_of, file_of}
use Rattle.sfbank.proofs.KitPlans.{stops_here}
use Rattle.sfbank.proofs.ListLaws.{pushed_ok, zip_more}
use Rattle.sfbank.proofs.program.listed.read_listed.Goals as goal

-- an entry that is no one's
abbrev none : Entry
none = record { line = None; path = record { ref_ptr = (0, 0); now = [] } }

pub returns-then-is_err : goal.returns-then-is_err
returns-then-is_err g c =
    let l = c.loop-entry in (
      stops_here _ (g.H.Host.world l.host) c.args.entries.now l.files.items l.entry-index none _ c.loop-entry-test.true
          l.invariant.0 l.invariant.1 tt,
      c.in-Ok.ensures.1 ∙ l.invariant.1,
    )

pub returns-in-Err : goal.returns-in-Err
returns-in-Err g c =
    let l = c.loop-entry in (
      stops_here _ (g.H.Host.world l.host) c.args.entries.now l.files.items l.entry-index none c.in-Err.fault
          c.loop-entry-test.true l.invariant.0 l.invariant.1 c.in-Err.ensures.0,
      c.in-Err.ensures.1 ∙ l.invariant.1,
    )

pub loop-entry-preserved : goal.loop-entry-preserved
loop-entry-preserved g c =
    let l = c.loop-entry in
    let pushed = pushed_ok c.push.result _ _ _ c.push.ensures.items (sym c.is_err.ensures.value ∙ c.if-is_err.false) in
    let one : l.entry-index + 1 ≡ suc l.entry-index = omega arith in (
      rw (pushed, one)
          (zip_more (IsReadOf (g.H.Host.world c.args.host.now)) entry_of file_of c.args.entries.now l.files.items l.entry-index
          none c.in-Ok.file c.loop-entry-test.true l.invariant.0
          (subst
          (λ (w : Option World). IsReadOf w (entry_of (get_or c.args.entries.now l.entry-index none)) (file_of c.in-Ok.file))
          l.invariant.1 c.in-Ok.ensures.0)),
      c.in-Ok.ensures.1 ∙ l.invariant.1,
    )
