use Rattle.std.proofs.Common.{string_bytes}
use Rattle.bank_folders.proofs.FileNameLaws.{number_pushed}
use Rattle.bank_folders.proofs.sample_files.push_number.Goals as goal

pub returns : goal.returns
returns c =
    number_pushed (string_bytes c.args.file.now) (string_bytes c.push_zeros.new.file) (string_bytes c.push_str.new.self)
    c.format-digits.result.now c.args.number c.saturating_sub.result c.ranges.number.fits c.format-digits.ensures.text
    c.saturating_sub.ensures c.in_ok-push_zeros.ensures c.in_ok-push_str.ensures.bytes
