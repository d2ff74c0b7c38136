use Rattle.std.proofs.Common.{string_bytes}
use Rattle.bank_folders.proofs.FileNameLaws.{name_pushed}
use Rattle.bank_folders.proofs.sample_files.sample_file_names.Goals as goal

pub loop-number-preserved : goal.loop-number-preserved
loop-number-preserved c =
    let l = c.loop-number in
    name_pushed string_bytes l.files.items c.push.new.self.items c.in_ok-sample_file.field-0 c.args.samples.now l.number
    c.index-samples-number.result c.loop-number-test.true c.index-samples-number.is c.in_ok-push.ensures.items
    c.in_ok-sample_file.ensures l.invariant
