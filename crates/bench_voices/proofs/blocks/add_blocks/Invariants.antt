use Rattle.std.proofs.Common.{◌≡◌, ◌≤◌, ◌*◌, length}
use Rattle.voices.specs.Within.{AllWithin}
use Rattle.bench_voices.proofs.blocks.add_blocks.Given as goal

abbrev pub invariant-loop : goal.invariant-loop
invariant-loop l = record {
  age : l.voice.age ≤ 1024 * l.counter;
  long : length l.sums ≡ length l.fn.sums;
  within : AllWithin l.counter l.sums;
}
