-- Names and texts, and the fields that hold them.
use Rattle.std.specs.Prelude.{ℕ, ◌≡◌, ◌<◌, ◌≤◌, ◌-◌, zero, suc, List, [], ◌∷◌, ◌++◌, length, take, drop, replicate}
use Rattle.std.specs.List.{AllByRecursion}
use Rattle.std.proofs.Common.{arith, length-take, take-append-drop, refl}

-- The bytes before the first zero byte.
abbrev pub before_zero : List ℕ → List ℕ
before_zero [] = []
before_zero (zero ∷ bytes) = []
before_zero (suc b ∷ bytes) = suc b ∷ before_zero bytes

-- A byte that is not zero.
abbrev pub IsTextByte : ℕ → Type 0
IsTextByte b = (0 < b) × (b < 256)

-- At most n bytes, none of them zero.
abbrev pub IsText : ℕ → List ℕ → Type 0
IsText n text = (length text ≤ n) × AllByRecursion IsTextByte text

-- At most 20 bytes, none of them zero.
abbrev pub IsName : List ℕ → Type 0
IsName name = IsText 20 name

-- The name padded with zero bytes to 20 bytes.
abbrev pub filled : List ℕ → List ℕ
filled name = name ++ replicate (20 - length name) 0

-- 20 bytes: a name of len bytes, then zero bytes.
pub record HoldsName (bytes : List ℕ) (len : ℕ) : Type 0 where
  pub size : length bytes ≡ 20
  pub within : len ≤ 20
  pub name : AllByRecursion IsTextByte (take len bytes)
  pub rest : drop len bytes ≡ replicate (20 - len) 0

-- Padding the name restores the 20 bytes and the length.
pub filled-take : {X : Type 0} (make : List ℕ → ℕ → X) (bytes : List ℕ) (len : ℕ) → HoldsName bytes len
    → make (filled (take len bytes)) (length (take len bytes)) ≡ make bytes len
filled-take make bytes len h =
    let size = h.size in
    let within = h.within in
    let e : length (take len bytes) ≡ len = omega (arith, length-take len bytes) in
    rw (e, ← h.rest, take-append-drop len bytes) refl
