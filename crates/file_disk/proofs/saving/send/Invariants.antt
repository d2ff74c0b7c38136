use Rattle.std.proofs.Common.{[]}
use Rattle.file_disk.proofs.saving.send.Given as goal

-- the world before the text is written
abbrev pub ghosts-write_in_place : goal.ghosts-write_in_place
ghosts-write_in_place g a = record {
  before = g.D.Device.world a.device;
  path = [];
  durable = g.D.Device.durable a.device;
  past = g.D.Device.past a.device;
}
