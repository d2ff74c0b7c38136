-- The listing of a bank: a line for the bank, one for the counts of reading, and one for each member.
use Rattle.std.specs.Prelude.{ℕ, suc, List, [], ◌∷◌, ◌++◌, length, sum_by, codes}
use Rattle.bank_parts.specs.declared.parts.Head.{Head}
use Rattle.bank_parts.specs.declared.parts.ZoneOwner.{ZoneOwner}
use Rattle.bank_parts.specs.declared.parts.Sample.{Sample}
use Rattle.bank_parts.specs.declared.parts.Parts.{Parts}
use Rattle.bank_format.specs.declared.fault.Counts.{Counts}
use Rattle.script_tokens.specs.declared.printing.Piece.TheVariants.{Number, Word, Name}
use Rattle.script_tokens.specs.Printing.{line_text}
use Rattle.script_grammar.specs.Operands.{pieces_of}
use Rattle.script_grammar.specs.Samples.{head_operands}

-- ---- the bank

-- the points of all samples, without the zero points that a file has after each
abbrev pub point_count : List Sample → ℕ
point_count samples = sum_by (λ (s : Sample). length s.points) samples

unfoldable pub bank_line : Parts → List ℕ
bank_line b = line_text (codes "bank") (
    Number b.minor
    ∷ Word (codes "presets") ∷ Number (length b.presets)
    ∷ Word (codes "instruments") ∷ Number (length b.instruments)
    ∷ Word (codes "samples") ∷ Number (length b.samples)
    ∷ Word (codes "points") ∷ Number (point_count b.samples)
    ∷ [])

unfoldable pub counts_line : Counts → List ℕ
counts_line counts = line_text (codes "counts") (
    Word (codes "texts") ∷ Number counts.texts
    ∷ Word (codes "sm24") ∷ Number counts.sm24
    ∷ Word (codes "zones") ∷ Number counts.zones
    ∷ Word (codes "gens") ∷ Number counts.gens
    ∷ Word (codes "ranges") ∷ Number counts.ranges
    ∷ Word (codes "loops") ∷ Number counts.loops
    ∷ Word (codes "links") ∷ Number counts.links
    ∷ [])

-- ---- the members, with their numbers

-- a preset's name and numbers, and how many zones it has
unfoldable pub preset_line : ℕ → Head → ℕ → List ℕ
preset_line n p zones =
    line_text (codes "preset") (Number n ∷ Name p.name ∷ Number p.number ∷ Number p.bank ∷ Number zones ∷ [])

-- an instrument's name, and how many zones it has
unfoldable pub instrument_line : ℕ → List ℕ → ℕ → List ℕ
instrument_line n name zones = line_text (codes "inst") (Number n ∷ Name name ∷ Number zones ∷ [])

-- a sample without its points, as in an edit script, and how many points it has
unfoldable pub sample_line : ℕ → Sample → List ℕ
sample_line n s = line_text (codes "sample") (Number n ∷ (pieces_of (head_operands s) ++ Number (length s.points) ∷ []))

-- a line for each member, numbered from n
abbrev pub lines_from : {X : Type 0} → (ℕ → X → List ℕ) → ℕ → List X → List ℕ
lines_from line n [] = []
lines_from line n (x ∷ xs) = line n x ++ lines_from line (suc n) xs

-- the line of an owner; its global zone isn't counted
abbrev pub owner_line : {H : Type 0} → (ℕ → H → ℕ → List ℕ) → ℕ → ZoneOwner H → List ℕ
owner_line line n x = line n x.head (length x.zones)

-- ---- all lines

unfoldable pub listing : Parts → Counts → List ℕ
listing b counts =
    bank_line b
    ++ (counts_line counts
    ++ (lines_from (owner_line preset_line) 0 b.presets
    ++ (lines_from (owner_line instrument_line) 0 b.instruments
    ++ lines_from sample_line 0 b.samples)))
