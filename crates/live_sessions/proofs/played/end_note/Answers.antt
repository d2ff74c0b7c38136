use Rattle.std.proofs.Common.{◌≡◌, ◌+◌, ◌<◌, length, set, sym, ap, ◌∙◌, arith}
use Rattle.mixer.specs.declared.playing.Release.TheVariants.{One}
use Rattle.live_sessions.specs.PlayedNotes.{ended_by}
use Rattle.live_sessions.proofs.NumberedNotes.{all_stay, one_ends}
use Rattle.live_sessions.proofs.played.end_note.Goals as goal

pub returns-then-index-notes : goal.returns-then-index-notes
returns-then-index-notes c =
    let less : c.args.handle < length c.args.notes.now = c.if-index-notes.true in
    ap (set c.args.notes.now c.args.handle)
    (c.end.ensures ∙ ap (ended_by (One c.args.handle) c.args.frame) (sym c.index-notes-index.is))
    ∙ one_ends c.args.handle c.args.frame 0 c.args.handle c.args.notes.now c.index-notes-index.result c.requires
    (let e : c.args.handle ≡ 0 + c.args.handle = omega arith in e) less c.index-notes-index.is

pub returns-else-index-notes : goal.returns-else-index-notes
returns-else-index-notes c =
    let past = c.if-index-notes.false in
    sym (all_stay c.args.handle c.args.frame 0 c.args.notes.now c.requires (omega (arith, past)))
