use Rattle.std.proofs.Common.{◌≡◌, ◌≤◌, take}
use Rattle.mixer.specs.Render as whole
use Rattle.mixer.proofs.rendering.frame_count.Given as goal

abbrev pub invariant-loop-note : goal.invariant-loop-note
invariant-loop-note l = record {
  value : l.count ≡ whole.frame_count l.bank (take l.note-index l.notes);
  most : l.count ≤ 104480284;
}
