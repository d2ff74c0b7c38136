use Rattle.std.proofs.Common.{◌≡◌, false, string_bytes}
use Rattle.file_disk.specs.Crashes.{KeepsFilesBut, Leaves}
use Rattle.file_disk.proofs.keeping.keep_old.Given as goal

-- nothing is kept yet
abbrev pub invariant-loop-number : goal.invariant-loop-number
invariant-loop-number g l = record {
  stays : g.D.Device.world l.device ≡ g.D.Device.world l.fn.device;
  clean : g.D.Device.is_dirty l.device ≡ false;
  crash : Leaves (KeepsFilesBut (string_bytes l.fn.file.path) (string_bytes l.fn.file.path)) (g.D.Device.past l.fn.device) (g.D.Device.past l.device)
      (g.D.Device.durable l.fn.device) (g.D.Device.durable l.device);
}
