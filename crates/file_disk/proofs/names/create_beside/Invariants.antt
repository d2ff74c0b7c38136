use Rattle.std.proofs.Common.{◌≡◌}
use Rattle.file_disk.specs.Crashes.{Passes}
use Rattle.file_disk.proofs.names.create_beside.Given as goal

-- nothing is created yet
abbrev pub invariant-loop-number : goal.invariant-loop-number
invariant-loop-number g l = record {
  stays : g.D.Device.world l.device ≡ g.D.Device.world l.fn.device;
  left : g.D.Device.durable l.device ≡ g.D.Device.durable l.fn.device;
  crash : Passes (g.D.Device.past l.fn.device) (g.D.Device.past l.device) (g.D.Device.durable l.fn.device) (g.D.Device.durable l.device);
}
