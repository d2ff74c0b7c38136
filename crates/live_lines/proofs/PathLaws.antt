-- The bytes that form a path.
use Rattle.std.proofs.Common.{◌≡◌, ℕ, Bool, true, false, cond, List, Some, None, nat_le, refl}
use Rattle.std.specs.List.{list_all}
use Rattle.std.specs.Str.{IsUtf8, is_utf8}
use Rattle.std.proofs.lemmas.Str.{is_utf8-from_IsUtf8, IsUtf8-from_is_utf8}
use Rattle.live_lines.specs.Paths.{path_of}

pub text_path : (text bytes : List ℕ) → text ≡ bytes → IsUtf8 bytes
    → cond (list_all (λ b. nat_le 32 b) text) (Some text) None ≡ path_of bytes
unfolding path_of
text_path text bytes e u = rw (e, is_utf8-from_IsUtf8 bytes u) refl

pub is_no_text : (bytes : List ℕ) → ¬ (IsUtf8 bytes) → None ≡ path_of bytes
unfolding path_of
is_no_text bytes never = from (is_utf8 bytes) refl
  where
    from : (t : Bool) → is_utf8 bytes ≡ t → None ≡ path_of bytes
    from true e = absurd (never (IsUtf8-from_is_utf8 bytes e))
    from false e = rw e refl
