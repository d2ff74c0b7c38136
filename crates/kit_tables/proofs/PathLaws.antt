-- The bytes that form a path.
use Rattle.std.proofs.Common.{◌≡◌, ℕ, Bool, true, false, List, [], ◌∷◌, length, Some, None, ◌<◌, refl, arith}
use Rattle.std.specs.Str.{IsUtf8, is_utf8}
use Rattle.std.proofs.lemmas.Str.{is_utf8-from_IsUtf8, IsUtf8-from_is_utf8}
use Rattle.kit_tables.specs.Rows.{path_of}

pub empty_is_none : (bytes : List ℕ) → length bytes ≡ 0 → None ≡ path_of bytes
unfolding path_of
empty_is_none [] e = refl
empty_is_none (b ∷ bytes) e = absurd (omega (arith, e))

pub text_is_some : (text bytes : List ℕ) → text ≡ bytes → IsUtf8 bytes → 0 < length bytes → Some text ≡ path_of bytes
unfolding path_of
text_is_some text [] e u some = absurd (omega (arith, some))
text_is_some text (b ∷ bytes) e u some = rw (e, is_utf8-from_IsUtf8 (b ∷ bytes) u) refl

pub other_is_none : (bytes : List ℕ) → ¬ (IsUtf8 bytes) → None ≡ path_of bytes
unfolding path_of
other_is_none [] never = refl
other_is_none (b ∷ bytes) never = from (is_utf8 (b ∷ bytes)) refl
  where
    from : (t : Bool) → is_utf8 (b ∷ bytes) ≡ t → None ≡ path_of (b ∷ bytes)
    from true e = absurd (never (IsUtf8-from_is_utf8 (b ∷ bytes) e))
    from false e = rw e refl
