-- Samples.
use Rattle.std.specs.Prelude.{ℕ, List, [], ◌∷◌, ◌++◌, length, codes, Option, Some, None}
use Rattle.bank_parts.specs.declared.parts.Kind.{Kind}
use Rattle.bank_parts.specs.declared.parts.Kind.TheVariants.{Mono, Right, Left, Linked}
use Rattle.bank_parts.specs.declared.parts.Sample.{Sample}
use Rattle.show_page.specs.declared.json.Field.{Field}
use Rattle.show_page.specs.declared.json.Field.TheVariants.{Number, Signed, Text}
use Rattle.show_page.specs.Json.{opened, more}
use Rattle.show_page.specs.Columns.{columns}

-- the kind as in a file, and the number of the sample that it is linked to
abbrev pub kind_fields : Kind → ℕ × ℕ
kind_fields Mono = (1, 0)
kind_fields (Right link) = (2, link)
kind_fields (Left link) = (4, link)
kind_fields (Linked link) = (8, link)

-- the loop; 0 and 0 if there is none
abbrev pub loop_fields : Option (ℕ × ℕ) → ℕ × ℕ
loop_fields None = (0, 0)
loop_fields (Some looped) = looped

-- the fields of a sample
abbrev pub sample_fields : Sample → List Field
sample_fields s =
    Number (length s.points) ∷ Number s.rate ∷ Number s.key ∷ Signed s.correction
    ∷ Number (kind_fields s.kind).0 ∷ Number (kind_fields s.kind).1
    ∷ Number (loop_fields s.looped).0 ∷ Number (loop_fields s.looped).1
    ∷ []

-- a sample on a line of its own: its name, its fields, and its waveform
unfoldable pub sample_text : Sample → List ℕ
sample_text s =
    codes "\n,"
    ++ (opened (Text s.name) ++ (more (sample_fields s) ++ (codes ",\"" ++ (columns s.points ++ codes "\"]"))))
