-- The names of temporary files.
use Rattle.std.specs.Prelude.{◌≡◌, ℕ, List, ◌++◌, decimal}

-- a numbered name that starts so, in some folder
pub record IsNumbered (path start : List ℕ) (number : ℕ) : Type 0 where
  pub folder : List ℕ
  pub name : path ≡ folder ++ start ++ decimal number
