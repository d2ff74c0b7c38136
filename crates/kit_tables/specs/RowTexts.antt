-- Tables that are written: a line for each zone, and comments.
use Rattle.std.specs.Prelude.{◌≡◌, ◌≤◌, ◌<◌, ℕ, ℤ, pos, negsuc, List, [], ◌∷◌, ◌++◌, length, map, codes, not, Bool}
use Rattle.std.specs.Prelude.{Option, Some, None, Ok, Err, IsTrue}
use Rattle.std.specs.List.{flat_map, list_all, AllByRecursion}
use Rattle.generators.specs.declared.range.Range.{Range}
use Rattle.script_tokens.specs.declared.printing.Piece.{Piece}
use Rattle.script_tokens.specs.declared.printing.Piece.TheVariants as piece
use Rattle.script_tokens.specs.Lines.{is_feed}
use Rattle.script_tokens.specs.Printing.{is_quotable, line_text, spaced}
use Rattle.kit_tables.specs.declared.limits.TheConstants.{HIGHEST_KEY, HIGHEST_CLASS, FARTHEST_PAN, MOST_ROWS}
use Rattle.kit_tables.specs.declared.zone.KitZone.{KitZone}
use Rattle.kit_tables.specs.declared.fault.KitFault.TheVariants as faults
use Rattle.kit_tables.specs.Rows.{KitResult, Row, rows_of}

-- ---- a zone

abbrev pub range_piece : Range → Piece
range_piece r = piece.Range r.low r.high

-- `root KEY`, if there is a root key
abbrev pub root_pieces : Option ℕ → List Piece
root_pieces None = []
root_pieces (Some key) = piece.Word (codes "root") ∷ piece.Number key ∷ []

-- `pan P`, if there is a pan
abbrev pub pan_pieces : Option ℤ → List Piece
pan_pieces None = []
pan_pieces (Some pan) = piece.Word (codes "pan") ∷ piece.Signed pan ∷ []

-- `class N`, if there is a class
abbrev pub class_pieces : Option ℕ → List Piece
class_pieces None = []
class_pieces (Some class) = piece.Word (codes "class") ∷ piece.Number class ∷ []

-- both ranges, and what else is said of a zone
abbrev pub zone_pieces : KitZone → List Piece
zone_pieces z =
    range_piece z.keys ∷ range_piece z.velocities
    ∷ root_pieces z.root ++ (pan_pieces z.pan ++ class_pieces z.class)

-- ---- lines

-- a line that is written: a zone after its file, or a comment
pub data WrittenLine : Type 0 where
  ZoneLine : List ℕ → KitZone → WrittenLine
  Comment : List Piece → WrittenLine

-- a path between quotes
abbrev pub quoted_file : List ℕ → List ℕ
quoted_file file = 34 ∷ file ++ 34 ∷ []

abbrev pub line_of : WrittenLine → List ℕ
line_of (ZoneLine file z) = line_text (quoted_file file) (zone_pieces z)
line_of (Comment pieces) = line_text (codes "#") pieces

-- the text of lines, in order
abbrev pub table_text : List WrittenLine → List ℕ
table_text lines = flat_map line_of lines

-- the zones of lines, each after its file
abbrev pub zones_in : List WrittenLine → List (List ℕ × KitZone)
zones_in [] = []
zones_in (ZoneLine file z ∷ lines) = (file, z) ∷ zones_in lines
zones_in (Comment pieces ∷ lines) = zones_in lines

-- ---- what can be read again

-- a path that may stand between quotes
pub record IsFile (file : List ℕ) : Type 0 where
  pub some : 0 < length file
  pub quotable : IsTrue (list_all is_quotable file)

-- from the lowest up to the highest, which is at most 127
pub record IsKitRange (r : Range) : Type 0 where
  pub rising : r.low ≤ r.high
  pub high : r.high ≤ 127

abbrev pub IsKitRoot : Option ℕ → Type 0
IsKitRoot None = Unit {0}
IsKitRoot (Some key) = key ≤ HIGHEST_KEY

-- -500 to 500
abbrev pub IsPan : ℤ → Type 0
IsPan (pos n) = n ≤ FARTHEST_PAN
IsPan (negsuc n) = n < FARTHEST_PAN

abbrev pub IsKitPan : Option ℤ → Type 0
IsKitPan None = Unit {0}
IsKitPan (Some pan) = IsPan pan

abbrev pub IsKitClass : Option ℕ → Type 0
IsKitClass None = Unit {0}
IsKitClass (Some class) = (0 < class) × (class ≤ HIGHEST_CLASS)

-- a zone that a line of a table can describe
pub record IsKitZone (z : KitZone) : Type 0 where
  pub keys : IsKitRange z.keys
  pub velocities : IsKitRange z.velocities
  pub root : IsKitRoot z.root
  pub pan : IsKitPan z.pan
  pub class : IsKitClass z.class

-- no piece has a line feed
abbrev pub HasNoFeed : List Piece → Type 0
HasNoFeed pieces = IsTrue (list_all (λ b. not (is_feed b)) (flat_map spaced pieces))

abbrev pub IsWrittenLine : WrittenLine → Type 0
IsWrittenLine (ZoneLine file z) = IsFile file × IsKitZone z
IsWrittenLine (Comment pieces) = HasNoFeed pieces

-- ---- the law

-- what a row says, without the number of its line
abbrev pub listed : Row → List ℕ × KitZone
listed row = (row.file, row.zone)

-- a table is read as these zones; without any it is rejected
abbrev pub ReadsAs : KitResult (List Row) → List (List ℕ × KitZone) → Type 0
ReadsAs read [] = read ≡ Err (faults.NoRows 1)
ReadsAs read (z ∷ zones) = (rows : List Row) × (read ≡ Ok rows) × (map listed rows ≡ z ∷ zones)

-- A table that is written reads as its zones.
abbrev pub TablesReadBack : Type 0
TablesReadBack =
    (lines : List WrittenLine) → AllByRecursion IsWrittenLine lines → length (zones_in lines) ≤ MOST_ROWS
    → ReadsAs (rows_of (table_text lines)) (zones_in lines)
