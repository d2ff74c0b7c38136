-- The ids of chunks and lists, as bytes (SoundFont 2.04, section 4).
use Rattle.std.specs.Prelude.{ℕ, List, codes}

unfoldable pub RIFF : List ℕ
RIFF = codes "RIFF"

unfoldable pub SFBK : List ℕ
SFBK = codes "sfbk"

-- the three lists
unfoldable pub INFO : List ℕ
INFO = codes "INFO"

unfoldable pub SDTA : List ℕ
SDTA = codes "sdta"

unfoldable pub PDTA : List ℕ
PDTA = codes "pdta"

-- the version, and the eight texts that a bank keeps
unfoldable pub IFIL : List ℕ
IFIL = codes "ifil"

unfoldable pub ISNG : List ℕ
ISNG = codes "isng"

unfoldable pub INAM : List ℕ
INAM = codes "INAM"

unfoldable pub ICRD : List ℕ
ICRD = codes "ICRD"

unfoldable pub IENG : List ℕ
IENG = codes "IENG"

unfoldable pub IPRD : List ℕ
IPRD = codes "IPRD"

unfoldable pub ICOP : List ℕ
ICOP = codes "ICOP"

unfoldable pub ICMT : List ℕ
ICMT = codes "ICMT"

unfoldable pub ISFT : List ℕ
ISFT = codes "ISFT"

-- the points, and their 8 low-order bits in a 24-bit bank
unfoldable pub SMPL : List ℕ
SMPL = codes "smpl"

unfoldable pub SM24 : List ℕ
SM24 = codes "sm24"

-- the nine lists of records
unfoldable pub PHDR : List ℕ
PHDR = codes "phdr"

unfoldable pub PBAG : List ℕ
PBAG = codes "pbag"

unfoldable pub PMOD : List ℕ
PMOD = codes "pmod"

unfoldable pub PGEN : List ℕ
PGEN = codes "pgen"

unfoldable pub INST : List ℕ
INST = codes "inst"

unfoldable pub IBAG : List ℕ
IBAG = codes "ibag"

unfoldable pub IMOD : List ℕ
IMOD = codes "imod"

unfoldable pub IGEN : List ℕ
IGEN = codes "igen"

unfoldable pub SHDR : List ℕ
SHDR = codes "shdr"

-- the names of the three terminals, and the engine assumed when a file names none
unfoldable pub EOP : List ℕ
EOP = codes "EOP"

unfoldable pub EOI : List ℕ
EOI = codes "EOI"

unfoldable pub EOS : List ℕ
EOS = codes "EOS"

unfoldable pub EMU8000 : List ℕ
EMU8000 = codes "EMU8000"
