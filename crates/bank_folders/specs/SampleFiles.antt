-- The names of the files that hold the points of samples.
use Rattle.std.specs.Prelude.{◌≡◌, ◌+◌, ◌-◌, ◌==◌, ◌&&◌, ◌||◌, not, nat_le, ℕ, Bool, if◌then◌else◌, codes, List, []}
use Rattle.std.specs.Prelude.{◌∷◌, ◌++◌, length, map, replicate}
use Rattle.std.specs.Int.Digits.{digits_of}
use Rattle.bank_folders.specs.declared.sample_files.TheConstants.{FEWEST_DIGITS, REPLACEMENT}

-- the decimal digits of a number, with zeros before them if they are fewer than four
unfoldable pub file_digits : ℕ → List ℕ
file_digits n = replicate (FEWEST_DIGITS - length (digits_of 10 n)) 48 ++ map (λ d. 48 + d) (digits_of 10 n)

-- one of `"*/:<>?\|`
abbrev pub is_reserved : ℕ → Bool
is_reserved b =
    b == 34 || b == 42 || b == 47 || b == 58 || b == 60 || b == 62 || b == 63 || b == 92 || b == 124

-- a printable byte of ASCII that is not reserved: a letter, a digit, a space or one of !#$%&'()+,-.;=@[]^_`{}~
abbrev pub is_kept : ℕ → Bool
is_kept b = nat_le 32 b && nat_le b 126 && not (is_reserved b)

-- the byte, or `_` if it is not kept
abbrev pub file_byte : ℕ → ℕ
file_byte b = if is_kept b then b else REPLACEMENT

-- a space and the name, unless it is empty
abbrev pub name_part : List ℕ → List ℕ
name_part [] = []
name_part (b ∷ name) = 32 ∷ map file_byte (b ∷ name)

-- the name of the file of a sample: its number, its name, and `.wav`
unfoldable pub sample_file : ℕ → List ℕ → List ℕ
sample_file n name = file_digits n ++ name_part name ++ codes ".wav"

-- the files of two numbers differ, whatever the names of the samples
abbrev pub SampleFilesDiffer : Type 0
SampleFilesDiffer = (m n : ℕ) (a b : List ℕ) → sample_file m a ≡ sample_file n b → m ≡ n
