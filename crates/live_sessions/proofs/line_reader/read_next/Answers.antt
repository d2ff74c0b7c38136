use Rattle.std.proofs.Common.{arith, ap, length}
use Rattle.std.proofs.lemmas.Bool.Decides.{nat_tests}
use Rattle.std.specs.Io.{appended_bytes}
use Rattle.live_sessions.proofs.LineLaws.{read_after}
use Rattle.live_sessions.proofs.line_reader.read_next.Goals as goal

pub returns-in-Ok-clause-read : goal.returns-in-Ok-clause-read
returns-in-Ok-clause-read g c =
    read_after _ _ c.clear.new.self.items c.read_until.new.buf.items c.clear.ensures.items
    (λ e. let none = ap length e in
    first_of (
      omega (arith, none, c.read_until.new.buf.ok.0, c.in-Ok.ensures.ok, c.in-Ok.field-0-test),
      grind
          (arith, nat_tests, none, c.read_until.new.buf.ok.0, c.in-Ok.ensures.ok, c.in-Ok.field-0-test),
    ))
    c.in-Ok.ensures.bytes c.in-Ok.ensures.rest

pub returns-in-Err : goal.returns-in-Err
returns-in-Err g c = record {
  read = tt;
  part = (
    appended_bytes c.clear.new.self.items c.read_until.new.buf.items,
    c.read_until.ensures.none_lost,
    c.read_until.ensures.stops,
  );
}
