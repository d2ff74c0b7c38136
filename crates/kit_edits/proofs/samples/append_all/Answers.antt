use Rattle.kit_edits.proofs.AppendingLaws.{started, split_here, some_remain, is_empty, appended, stopped, finished}
use Rattle.kit_edits.proofs.samples.append_all.Goals as goal

pub loop-recording-init : goal.loop-recording-init
loop-recording-init c =
    started c.args.samples c.args.recordings.items _ c.new-kit.result c.args.sides.now c.new-kit.ensures c.requires.count
    c.into_iter-recording-iterator.ensures.into_iter_gives.0 c.requires.split

pub unreachable-requires : goal.unreachable-requires
unreachable-requires c =
    some_remain _ _ c.loop-recording.remaining.now c.in-Some.recording c.in-Some.ensures.steps.0 c.in_default.ensures.cases
    c.loop-recording.invariant.split

pub append-requires-clause-count : goal.append-requires-clause-count
append-requires-clause-count c = c.loop-recording.invariant.count

pub append-requires-clause-split : goal.append-requires-clause-split
append-requires-clause-split c =
    (split_here _ _ _ _ c.in-Some.recording c.in-Some-split_first.sides.now c.in-Some.ensures.steps.0
    c.in-Some-split_first.ensures.cases.0 c.loop-recording.invariant.split).0

pub returns-then-not-branch : goal.returns-then-not-branch
returns-then-not-branch c =
    stopped c.args.samples c.args.recordings.items _ _ c.loop-recording.kit c.append.new.self _ _ c.in-Some.recording
    c.in-Some-split_first.sides.now c.in_ok-append.field-0 c.loop-recording.invariant c.in-Some.ensures.steps.0
    c.in-Some-split_first.ensures.cases.0 c.in_ok-append.ensures c.if-not-branch.true

pub loop-recording-preserved : goal.loop-recording-preserved
loop-recording-preserved c =
    appended c.args.samples c.args.recordings.items _ _ c.loop-recording.kit c.append.new.self _ _ c.in-Some.recording
    c.in-Some-split_first.sides.now c.in_ok-append.field-0 c.loop-recording.invariant c.in-Some.ensures.steps.0
    c.in-Some-split_first.ensures.cases.0 c.in_ok-append.ensures c.if-not-branch.false

pub returns : goal.returns
returns c =
    let ring = c.loop-recording.recording-iterator.rest in
    finished c.args.samples c.args.recordings.items ring.items c.loop-recording.kit _ c.loop-recording.invariant
    (is_empty ring.items ring.len ring.ok.0 c.in-None.ensures.steps.0)
