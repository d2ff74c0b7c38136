use Rattle.std.proofs.Common.{string_bytes}
use Rattle.file_disk.proofs.saving.prepare.Given as goal

-- the world before the text is written, and the new file's path
abbrev pub ghosts-write_new : goal.ghosts-write_new
ghosts-write_new g a = record {
  before = g.D.Device.world a.device;
  path = string_bytes a.path.now;
  durable = g.D.Device.durable a.device;
  past = g.D.Device.past a.device;
}
