use Rattle.std.proofs.Common.{Some}
use Rattle.file_disk.specs.Frames.{Frame}
use Rattle.file_disk.proofs.FrameLaws.{file_after}
use Rattle.file_disk.proofs.CrashLaws.{goes_on}
use Rattle.file_disk.proofs.CrashSaveLaws.{beside_of, frame_grown}
use Rattle.file_disk.proofs.new_file.NewFileWrite.write.Goals as goal

pub returns-clause-bytes : goal.returns-clause-bytes
returns-clause-bytes g c =
    file_after (g.D.Device.world c.args.self.now.device) (g.D.Device.world c.append.new.self)
    (g.D.Device.output c.args.self.now.device) g.K.Before.path c.args.bytes.now c.append.result
    c.args.self.now.open c.append.ensures.grown c.append.ensures.stays

pub invariant_of-self-clause-left : goal.invariant_of-self-clause-left
invariant_of-self-clause-left g c =
    let device = c.args.self.now.device in
    frame_grown g.K.Before.durable (g.D.Device.world device) (g.D.Device.durable device) (g.D.Device.durable c.append.new.self)
    (g.D.Device.output device) g.K.Before.path (g.D.Device.agrees device) c.args.self.now.open c.args.self.now.left
    c.append.ensures.left

pub invariant_of-self-clause-crash : goal.invariant_of-self-clause-crash
invariant_of-self-clause-crash g c =
    let device = c.args.self.now.device in
    let base = g.K.Before.durable in
    let path = g.K.Before.path in
    let left =
    frame_grown base (g.D.Device.world device) (g.D.Device.durable device) (g.D.Device.durable c.append.new.self)
    (g.D.Device.output device) path (g.D.Device.agrees device) c.args.self.now.open c.args.self.now.left
    c.append.ensures.left in
    goes_on g.K.Before.past (g.D.Device.past device) (g.D.Device.past c.append.new.self) (λ x. Frame base (Some x) path)
    (g.D.Device.durable device) (g.D.Device.durable c.append.new.self) c.args.self.now.crash
    (beside_of base (g.D.Device.durable device) path c.args.self.now.left)
    (beside_of base (g.D.Device.durable c.append.new.self) path left) c.append.ensures.crash
