-- Lists of numbers and texts in JSON, for a `script` element of a page.
use Rattle.std.specs.Prelude.{ℕ, List, [], ◌∷◌, ◌++◌, Bool, ◌==◌, ◌||◌, ◌&&◌, nat_le, codes, decimal, if◌then◌else◌}
use Rattle.std.specs.Fmt.{signed_decimal}
use Rattle.std.specs.List.{flat_map}
use Rattle.hex.specs.Hex.{encode_lower}
use Rattle.show_page.specs.declared.json.Field.{Field}
use Rattle.show_page.specs.declared.json.Field.TheVariants.{Number, Signed, Text}

-- line ends, what ends or escapes a text in JSON, and the markup of a page: `"`, `&`, `<`, `>` and a backslash
abbrev pub is_escaped : ℕ → Bool
is_escaped b = b == 10 || (b == 13 || (b == 34 || (b == 38 || (b == 60 || (b == 62 || b == 92)))))

-- a byte in hexadecimal digits
abbrev pub two_digits : ℕ → List ℕ
two_digits b = encode_lower (b ∷ [])

-- a byte of a text: escaped, itself if it is printable ASCII, else the replacement character
unfoldable pub character : ℕ → List ℕ
character b =
    if is_escaped b then codes "\\u00" ++ two_digits b
    else if nat_le 32 b && nat_le b 126 then b ∷ []
    else codes "\\ufffd"

abbrev pub quoted : List ℕ → List ℕ
quoted text = codes "\"" ++ (flat_map character text ++ codes "\"")

unfoldable pub field_text : Field → List ℕ
field_text (Number n) = decimal n
field_text (Signed z) = signed_decimal z
field_text (Text bytes) = quoted bytes

-- a field after a comma
abbrev pub next_text : Field → List ℕ
next_text field = codes "," ++ field_text field

abbrev pub more : List Field → List ℕ
more fields = flat_map next_text fields

-- the start of a list, with its first field
abbrev pub opened : Field → List ℕ
opened first = codes "[" ++ field_text first

-- a list of fields
abbrev pub listed : Field → List Field → List ℕ
listed first others = opened first ++ (more others ++ codes "]")
