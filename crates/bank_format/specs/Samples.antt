-- Reading a sample from its header (SoundFont 2.04, section 7.10).
use Rattle.std.specs.Prelude.{◌-◌, ◌==◌, ℕ, List, Option, Some, None, Bool, nat_le, nat_lt, ◌&&◌, ◌||◌, not}
use Rattle.std.specs.Prelude.{if◌then◌else◌}
use Rattle.std.specs.List.{slice_range}
use Rattle.sf_base.specs.Names.{before_zero}
use Rattle.bank_parts.specs.declared.parts.Kind.{Kind}
use Rattle.bank_parts.specs.declared.parts.Kind.TheVariants.{Mono, Right, Left, Linked}
use Rattle.bank_parts.specs.declared.parts.Sample.{Sample}
use Rattle.hydra_records.specs.declared.head.SampleHead.{SampleHead}

-- ---- the loop

abbrev pub has_loop : SampleHead → Bool
has_loop h = nat_le h.start h.loop_start && nat_lt h.loop_start h.loop_end && nat_le h.loop_end h.end

-- relative to the sample's start
unfoldable pub loop_read : SampleHead → Option (ℕ × ℕ)
loop_read h = if has_loop h then Some (h.loop_start - h.start, h.loop_end - h.start) else None

-- an invalid loop is counted as lost, unless both its ends are equal
unfoldable pub is_loop_lost : SampleHead → Bool
is_loop_lost h = not (has_loop h) && not (h.loop_start == h.loop_end)

-- ---- the kind, in a bank of n samples

-- a link to a sample that does not exist makes the sample mono
abbrev pub link_read : ℕ → (ℕ → Kind) → ℕ → Kind
link_read n kind link = if nat_lt link n then kind link else Mono

unfoldable pub kind_read : ℕ → SampleHead → Kind
kind_read n h =
    if h.kind == 2 then link_read n Right h.link
    else if h.kind == 4 then link_read n Left h.link
    else if h.kind == 8 then link_read n Linked h.link
    else Mono

abbrev pub is_linked : SampleHead → Bool
is_linked h = h.kind == 2 || h.kind == 4 || h.kind == 8

-- a link to a sample that does not exist, or an unknown type other than 0
unfoldable pub is_link_lost : ℕ → SampleHead → Bool
is_link_lost n h = if is_linked h then not (nat_lt h.link n) else not (h.kind == 1 || h.kind == 0)

-- ---- the sample, in a bank of n samples

unfoldable pub sample_read : ℕ → List ℕ → SampleHead → Sample
sample_read n points h = record {
  name = before_zero h.name;
  points = slice_range points h.start h.end;
  looped = loop_read h;
  rate = h.rate;
  key = h.key;
  correction = h.correction;
  kind = kind_read n h;
}
